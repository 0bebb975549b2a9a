-- Ids have 32 bits.
use Rattle.std.proofs.Common.{◌≡◌, ℕ, ◌-◌, ◌<◌, ◌^◌, List, [], ◌∷◌, false, suc, arith, refl}
use Rattle.std.specs.Prelude.{nat_eq}
use Rattle.std.specs.List.{list_any}
use Rattle.std.proofs.lemmas.Bool.Decides.{nat_tests}
use Rattle.text_fields.specs.Numbers.{AreIds}

-- A number of more than 32 bits is no id.
pub large_is_unknown : (ids : List ℕ) (n : ℕ) → AreIds ids → 2 ^ 32 - 1 < n → list_any (nat_eq n) ids ≡ false
large_is_unknown [] n h e = refl
large_is_unknown (x ∷ ids) n h e =
    let less : x < 2 ^ 32 = h 0 x (omega arith) in
    let differ : nat_eq n x ≡ false = grind (arith, nat_tests) in
    rw differ (large_is_unknown ids n (λ k d lt. h (suc k) d (omega arith)) e)
