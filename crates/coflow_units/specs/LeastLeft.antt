-- For how many slots grants may be served as they are.
use Rattle.std.specs.Prelude.{◌≡◌, ◌≢◌, ℕ, ◌≤◌, List, [], All, Any}

-- the least units left among the granted flows, and 0 where nothing is granted
pub record IsLeastLeft (left : ℕ → ℕ) (granted : List ℕ) (n : ℕ) : Type 0 where
  pub none : granted ≡ [] → n ≡ 0
  pub below : All (λ f. n ≤ left f) granted
  pub reached : granted ≢ [] → Any (λ f. left f ≡ n) granted
