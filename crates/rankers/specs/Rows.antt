-- Orders by keys, what rankers answer, and answers that are no order, worked out by hand.
use Rattle.std.specs.Prelude.{◌≡◌, ◌==◌, if◌then◌else◌, [], ◌∷◌}
use Rattle.rankers.specs.FactsTold.{FactsTold}
use Rattle.rankers.specs.ByKey.{by_key, key_in}
use Rattle.rankers.specs.Kinds.{attained, bssi, fifo, sebf, wsebf}
use Rattle.rankers.specs.Meaning.{Meaning, after_notes, after_question, answer_of}
use Rattle.rankers.specs.Scores.{IsFirstUnfit}

-- equal keys come by number, and a number past the end of the keys has the key 0
pub record ByKeys : Type 0 where
  pub ties : by_key (key_in (5 ∷ 3 ∷ 3 ∷ [])) 3 ≡ 1 ∷ 2 ∷ 0 ∷ []
  pub past : by_key (key_in (5 ∷ [])) 3 ≡ 1 ∷ 2 ∷ 0 ∷ []
  pub none : by_key (key_in []) 2 ≡ 0 ∷ 1 ∷ []

-- three coflows of 4, 2 and 2 units at most on a port, that arrived at 7, 9 and 7 milliseconds
abbrev pub three : FactsTold
three = record {
  weights = 1 ∷ 1 ∷ 1 ∷ [];
  arrivals = 7 ∷ 9 ∷ 7 ∷ [];
  bottlenecks = 4 ∷ 2 ∷ 2 ∷ [];
  loads = record { coflows = 3; ports = 1; cells = 4 ∷ 2 ∷ 2 ∷ 4 ∷ 2 ∷ 2 ∷ [] };
  order = 2 ∷ 1 ∷ 0 ∷ [];
}

-- the same coflows with ratios of a half, a half and 2
abbrev pub weighted : FactsTold
weighted = record three { weights = 8 ∷ 4 ∷ 1 ∷ [] }

-- one that was asked, and told that the coflows ended in the slots 8, 2 and 6
abbrev pub told : Meaning → Meaning
told m = after_notes (after_question m three) (λ c. if c == 0 then 8 else (if c == 1 then 2 else 6)) (1 ∷ 2 ∷ 0 ∷ [])

-- what the rankers answer, before notes and after them
pub record Answers : Type 0 where
  pub of_bssi : answer_of bssi three ≡ 2 ∷ 1 ∷ 0 ∷ []
  pub of_sebf : answer_of sebf three ≡ 1 ∷ 2 ∷ 0 ∷ []
  pub of_wsebf : answer_of wsebf three ≡ 1 ∷ 2 ∷ 0 ∷ []
  pub of_wsebf_weighted : answer_of wsebf weighted ≡ 0 ∷ 1 ∷ 2 ∷ []
  pub of_fifo : answer_of fifo three ≡ 0 ∷ 2 ∷ 1 ∷ []
  pub of_attained : answer_of (attained (0 ∷ 0 ∷ 0 ∷ [])) three ≡ 0 ∷ 1 ∷ 2 ∷ []
  pub fifo_told : answer_of (told fifo) three ≡ 0 ∷ 2 ∷ 1 ∷ []
  pub attained_holds : (told (attained (0 ∷ 0 ∷ 0 ∷ []))).held ≡ 8 ∷ 2 ∷ 6 ∷ []
  pub attained_told : answer_of (told (attained (0 ∷ 0 ∷ 0 ∷ []))) three ≡ 1 ∷ 2 ∷ 0 ∷ []
  pub room_for_one : answer_of (told (attained (0 ∷ []))) three ≡ 1 ∷ 2 ∷ 0 ∷ []
  pub no_room : answer_of (told (attained [])) three ≡ 0 ∷ 1 ∷ 2 ∷ []

-- a number that stood earlier, and one that is no coflow's
pub record UnfitRows : Type 0 where
  pub repeated : IsFirstUnfit 2 (0 ∷ 0 ∷ []) 2
  pub unknown : IsFirstUnfit 2 (2 ∷ 2 ∷ []) 1
