-- Numbers that a report states of coflows, place by place, beside the real ones.
use Rattle.std.specs.Prelude.{◌≡◌, ◌≢◌, ℕ, ◌<◌, List, Option, None, Some, length, slice_index}

-- each number is the real one of its place's coflow
abbrev pub AreReal : List ℕ → List ℕ → (ℕ → ℕ) → Type 0
AreReal coflows stated real = (k : ℕ) → k < length coflows → slice_index stated k ≡ real (slice_index coflows k)

-- a number that is stated at some place of the coflow is not the real one, and those of all coflows with lesser numbers
-- are
pub record IsLeastWrong (coflows stated : List ℕ) (real : ℕ → ℕ) (coflow said is : ℕ) : Type 0 where
  pub place : ℕ
  pub inside : place < length coflows
  pub of_coflow : slice_index coflows place ≡ coflow
  pub says : slice_index stated place ≡ said
  pub should : real coflow ≡ is
  pub differ : said ≢ is
  pub least : (k : ℕ) → k < length coflows → slice_index coflows k < coflow →
      slice_index stated k ≡ real (slice_index coflows k)

-- each number is the real one, where any are stated
abbrev pub AreRealIfAny : List ℕ → Option (List ℕ) → (ℕ → ℕ) → Type 0
AreRealIfAny coflows None real = Unit {0}
AreRealIfAny coflows (Some stated) real = AreReal coflows stated real

-- numbers are stated, and this is the least wrong one
abbrev pub IsLeastWrongOfAny : List ℕ → Option (List ℕ) → (ℕ → ℕ) → ℕ → ℕ → ℕ → Type 0
IsLeastWrongOfAny coflows None real coflow said is = ⊥
IsLeastWrongOfAny coflows (Some stated) real coflow said is = IsLeastWrong coflows stated real coflow said is
