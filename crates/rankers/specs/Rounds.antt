-- The two rounds of a ranker, and the rows of a bench of rankers.
use Rattle.std.specs.Prelude.{◌≡◌, ℕ, ◌+◌, ◌⊎◌, List, [], ◌∷◌, length}
use Rattle.coflow_units.specs.Completion.{completion}
use Rattle.coflow_units.specs.declared.fabric.Flow.{Flow}
use Rattle.coflow_units.specs.Flows.{Instance}
use Rattle.rankers.specs.declared.row.Row.{Row}
use Rattle.rankers.specs.declared.row.Scored.{Scored}
use Rattle.rankers.specs.ByKey.{by_key}
use Rattle.rankers.specs.FactsTold.{FactsTold}
use Rattle.rankers.specs.Meaning.{Meaning, after_notes, after_question, answer_of}
use Rattle.rankers.specs.Scores.{IsFirstUnfit, IsScore, IsServedOrder}

-- it was told the completion of each of so many coflows, by completion and then by number
abbrev pub after_completions : List Flow → ℕ → Meaning → List (List ℕ) → Meaning
after_completions flows n m slots = after_notes m (completion flows slots) (by_key (completion flows slots) n)

-- Where the order has each coflow once, the ranker was told what came of it, and else nothing.
abbrev pub IsToldOf : Instance → List ℕ → Meaning → Meaning → Type 0
IsToldOf i order m later =
    ((slots : List (List ℕ)) × IsServedOrder i order slots ×
    (later ≡ after_completions i.flows (length i.coflows) m slots))
    ⊎ ((place : ℕ) × IsFirstUnfit (length i.coflows) order place × (later ≡ m))

-- what the two answers of a ranker are worth: the one as it was handed in, and the one in its later state
pub record IsRounds (i : Instance) (facts : FactsTold) (m : Meaning) (first second : Scored) : Type 0 where
  pub at_first : IsScore i (answer_of m facts) first
  pub later : Meaning
  pub told : IsToldOf i (answer_of m facts) (after_question m facts) later
  pub at_last : IsScore i (answer_of later facts) second

-- the rows of rankers with the numbers from the index on: two for each, and each ranker's from its own meaning
abbrev pub IsRowsFrom : Instance → FactsTold → ℕ → List Meaning → List Row → Type 0
IsRowsFrom i facts index [] rows = rows ≡ []
IsRowsFrom i facts index (m ∷ ms) rows = (first second : Scored) × (rest : List Row) × IsRounds i facts m first second ×
    (rows ≡ record { index = index; round = 1; result = first } ∷ record { index = index; round = 2; result = second } ∷
    rest) × IsRowsFrom i facts (index + 1) ms rest
