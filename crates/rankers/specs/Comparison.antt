-- A comparison of the rankers of a bench.
use Rattle.std.specs.Prelude.{◌≡◌, ℕ, ◌-◌, ◌≤◌, List, [], All, map}
use Rattle.std.specs.List.{slice_index_or}
use Rattle.flow_table.specs.Table.{TableFacts, instance_of}
use Rattle.rankers.specs.declared.row.Row.{Row}
use Rattle.rankers.specs.declared.row.Scored.{Scored}
use Rattle.rankers.specs.declared.row.Scored.TheVariants as scored
use Rattle.rankers.specs.FactsTold.{FactsTold, IsFacts, IsFactsOf}
use Rattle.rankers.specs.Meaning.{Meaning}
use Rattle.rankers.specs.Rounds.{IsRowsFrom}
use Rattle.report_text.specs.declared.compared.Compare.{Compare}
use Rattle.report_text.specs.declared.compared.RowLine.{RowLine}
use Rattle.report_text.specs.declared.compared.RowText.{RowText}
use Rattle.report_text.specs.declared.compared.RowText.TheVariants as printed

-- what an answer is worth, as it is printed
abbrev pub worth_of : Scored → RowText
worth_of (scored.Cost total) = printed.Cost total
worth_of (scored.Unfit place) = printed.Unfit place

-- the names of rankers
abbrev pub names_of : List Meaning → List (List ℕ)
names_of ms = map (λ (m : Meaning). m.name) ms

-- the line of a row, with the name of its ranker; rankers count from 1
abbrev pub line_of : List (List ℕ) → Row → RowLine
line_of names row = record {
  index = row.index;
  round = row.round;
  name = slice_index_or names (row.index - 1) [];
  scored = worth_of row.result;
}

-- The comparison has two rows for each ranker of the bench, with its name. A row is made from the ranker's own answer and
-- the facts of the table: round 1 as the ranker was handed in, round 2 after it was told what came of its first answer.
pub record IsComparison (t : TableFacts) (weights : List ℕ) (bench : List Meaning) (c : Compare) : Type 0 where
  pub facts : FactsTold
  pub facts_fit : IsFacts facts
  pub facts_are : IsFactsOf t weights facts
  pub rows : List Row
  pub rows_are : IsRowsFrom (instance_of t weights) facts 1 bench rows
  pub lines_are : c.rows ≡ map (line_of (names_of bench)) rows

-- a cost is at least so much
abbrev pub CostsAtLeast : ℕ → RowText → Type 0
CostsAtLeast bound (printed.Cost total) = bound ≤ total
CostsAtLeast bound (printed.Unfit place) = Unit {0}

-- no cost of a row is below the bound
abbrev pub IsBelowCosts : Compare → Type 0
IsBelowCosts c = All (λ (line : RowLine). CostsAtLeast c.bound line.scored) c.rows
