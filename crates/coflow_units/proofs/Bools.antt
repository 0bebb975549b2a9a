-- Facts on truth values, and on what a truth value picks.
use Rattle.std.proofs.Common.{◌≡◌, ℕ, ◌≤◌, Bool, true, false, not, true≢false, inl, inr, refl, sym, ◌∙◌, arith}
use Rattle.std.specs.Prelude.{◌&&◌, ◌||◌, if◌then◌else◌}
use Rattle.std.proofs.Math.Dec.{eqb}
use Rattle.std.proofs.lemmas.Bool.{cases_eq, eq-eqb, ne_eqb}

pub second_not : (a b : Bool) → a ≡ true → (a && not b) ≡ false → b ≡ true
second_not true true t e = refl
second_not true false t e = absurd (true≢false e)
second_not false b t e = absurd (true≢false (sym t))

pub or_not : (a b : Bool) → b ≡ false → (a || b) ≡ a
or_not true b e = refl
or_not false b e = e

pub part : (b : Bool) (n : ℕ) → (if b then n else 0) ≤ n
part true n = omega arith
part false n = omega arith

pub same_if : (b : Bool) (m n : ℕ) → (b ≡ true → m ≡ n) → (if b then m else 0) ≡ (if b then n else 0)
same_if true m n same = same refl
same_if false m n same = refl

pub flips : (x y : ℕ) → eqb x y ≡ eqb y x
flips x y = elim (cases_eq x y) [
  | inl e ↦ eq-eqb x y e ∙ sym (eq-eqb y x (sym e))
  | inr ne ↦ ne_eqb x y ne ∙ sym (ne_eqb y x (λ e. ne (sym e)))
]
