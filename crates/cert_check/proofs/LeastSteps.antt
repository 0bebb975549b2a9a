-- The wrong number of the least coflow, among the places so far.
use Rattle.std.proofs.Common.{◌≡◌, ◌≢◌, ℕ, ◌<◌, List}
use Rattle.std.specs.Prelude.{Option, None, Some, slice_index}
use Rattle.cert_check.specs.declared.stated.Claim.{Claim}

-- the numbers of the first k places are real
abbrev pub AreRealTo : List ℕ → List ℕ → (ℕ → ℕ) → ℕ → Type 0
AreRealTo coflows stated real k = (j : ℕ) → j < k → slice_index stated j ≡ real (slice_index coflows j)

-- the claim is that of one of the first k places, and the least wrong one
pub record LeastTo (coflows stated : List ℕ) (real : ℕ → ℕ) (k : ℕ) (claim : Claim) : Type 0 where
  pub place : ℕ
  pub before : place < k
  pub of_coflow : slice_index coflows place ≡ claim.coflow
  pub says : slice_index stated place ≡ claim.stated
  pub should : real claim.coflow ≡ claim.real
  pub differ : claim.stated ≢ claim.real
  pub least : (j : ℕ) → j < k → slice_index coflows j < claim.coflow → slice_index stated j ≡ real (slice_index coflows j)

abbrev pub LeastSoFar : List ℕ → List ℕ → (ℕ → ℕ) → ℕ → Option Claim → Type 0
LeastSoFar coflows stated real k None = AreRealTo coflows stated real k
LeastSoFar coflows stated real k (Some claim) = LeastTo coflows stated real k claim
