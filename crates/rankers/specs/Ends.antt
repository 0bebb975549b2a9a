-- The second round of a ranker: the schedule that serves its second answer, and when that completes the coflows.
use Rattle.std.specs.Prelude.{◌≡◌, ℕ, ◌⊎◌, List, [], ◌∷◌}
use Rattle.coflow_units.specs.Flows.{Instance}
use Rattle.rankers.specs.declared.scoring.Came.{Came}
use Rattle.rankers.specs.declared.ending.Ended.{Ended}
use Rattle.rankers.specs.FactsTold.{FactsTold}
use Rattle.rankers.specs.Kinds.{attained, bssi, fifo, sebf, wsebf}
use Rattle.rankers.specs.Meaning.{Meaning, after_question, answer_of}
use Rattle.rankers.specs.Rounds.{IsToldOf}
use Rattle.rankers.specs.Scores.{IsCame, IsServedOrder}

-- the ranker as it is asked again: it was asked, and told what came of its answer
abbrev pub IsLater : Instance → FactsTold → Meaning → Meaning → Type 0
IsLater i facts m later = IsToldOf i (answer_of m facts) (after_question m facts) later

-- the schedule serves what the ranker answers when it is asked again
pub record IsSecondRound (i : Instance) (facts : FactsTold) (m : Meaning) (slots : List (List ℕ)) : Type 0 where
  pub later : Meaning
  pub told : IsLater i facts m later
  pub served : IsServedOrder i (answer_of later facts) slots

-- what came of the answer that the ranker gives when it is asked again
pub record IsSecondEnds (i : Instance) (facts : FactsTold) (m : Meaning) (came : Came) : Type 0 where
  pub later : Meaning
  pub told : IsLater i facts m later
  pub came_is : IsCame i (answer_of later facts) came

-- what came of the second answers of rankers, each with its name, in their order
abbrev pub AreSecondEnds : Instance → FactsTold → List Meaning → List Ended → Type 0
AreSecondEnds i facts [] rows = rows ≡ []
AreSecondEnds i facts (m ∷ ms) rows = (came : Came) × (rest : List Ended) × IsSecondEnds i facts m came ×
    (rows ≡ record { name = m.name; came = came } ∷ rest) × AreSecondEnds i facts ms rest

-- it means one of the rankers of this crate, whatever it holds
abbrev pub IsOwn : Meaning → Type 0
IsOwn m = (m ≡ bssi) ⊎ ((m ≡ wsebf) ⊎ ((m ≡ sebf) ⊎ ((m ≡ fifo) ⊎ ((held : List ℕ) × (m ≡ attained held)))))
