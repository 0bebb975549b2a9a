-- Strictly ascending lists.
use Rattle.std.proofs.Common.{◌≡◌, ℕ, ◌≤◌, ◌<◌, inl, inr, List, length, get_or, take, Contains, ap, arith, length-take}
use Rattle.std.specs.List.Sorted.{IsStrictlyIncreasing}
use Rattle.std.proofs.lemmas.List.{get_or-take, get_or_default}
use Rattle.std.proofs.lemmas.List.Kept.{AllPairs-from_increasing}
use Rattle.std.proofs.lemmas.Bool.{cases_lt}
use Rattle.std.specs.Prelude.{All}

-- what is not below the limit stands no earlier than the first such number
pub least_from : (numbers : List ℕ) (k limit g : ℕ) → IsStrictlyIncreasing numbers → k < length numbers → All (λ f. f < limit) (take k numbers) → Contains numbers g → limit ≤ g →
    get_or numbers k 0 ≤ g
least_from numbers k limit g up lt below (j, in', at) le = elim (cases_lt j k) [
  | inl early ↦ absurd (omega (arith, below j g (omega (arith, length-take k numbers)), get_or-take k numbers j g early, at, le))
  | inr late ↦ elim (cases_lt k j) [
    | inl more ↦ omega (arith, AllPairs-from_increasing numbers up k j 0 more in', get_or_default numbers j g 0 in', at)
    | inr same ↦ let e : j ≡ k = omega arith in omega (arith, ap (λ n. get_or numbers n 0) e, get_or_default numbers j g 0 in', at)
  ]
]

-- a number of a list that ascends is above those before it
pub above_earlier : (numbers : List ℕ) (k g : ℕ) → IsStrictlyIncreasing numbers → k < length numbers → Contains (take k numbers) g → g < get_or numbers k 0
above_earlier numbers k g up lt (j, in', at) =
    let j_lt : j < k = omega (arith, length-take k numbers) in
    omega (arith, AllPairs-from_increasing numbers up j k 0 j_lt lt, get_or-take k numbers j g j_lt, get_or_default numbers j g 0 (omega arith), at)
