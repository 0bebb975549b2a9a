-- What the ranker of this program means, and the text that it prints.
use Rattle.std.specs.Prelude.{◌≡◌, ℕ, List, [], ◌∷◌, codes, length, replicate, reverse}
use Rattle.flow_table.specs.Table.{TableFacts, instance_of}
use Rattle.plans.specs.Totals.{IsPlanBound}
use Rattle.rankers.specs.ByKey.{by_key, key_in}
use Rattle.rankers.specs.Comparison.{IsComparison}
use Rattle.rankers.specs.FactsTold.{coflows_in}
use Rattle.rankers.specs.Kinds.{bssi, fifo, fixed}
use Rattle.rankers.specs.Meaning.{Meaning}
use Rattle.report_text.specs.Compared.{compare_text}
use Rattle.report_text.specs.declared.compared.Compare.{Compare}

-- the last arrival first, and of equal ones the greatest number
abbrev pub lifo : Meaning
lifo = fixed (codes "lifo") (λ facts. reverse (by_key (key_in facts.arrivals) (coflows_in facts)))

-- a weight of 1 for each coflow of the table
abbrev pub ones : TableFacts → List ℕ
ones t = replicate (length t.ids) 1

-- the text compares the rankers bssi, fifo and lifo on the table, under the bound of its plan
abbrev pub IsTextOf : TableFacts → List ℕ → Type 0
IsTextOf t text = (c : Compare) × IsPlanBound (instance_of t (ones t)) c.bound ×
    IsComparison t (ones t) (bssi ∷ fifo ∷ lifo ∷ []) c × (text ≡ compare_text c)
