-- Colours of places, from dark to light, and words on them.
use Rattle.std.proofs.Common.{◌≡◌, ℕ, ◌+◌, ◌*◌, ◌-◌, ◌<◌, ◌≤◌, ◌⊎◌, inl, inr, Bool, true, false, cond, ltb, ltb-true, List, [], ◌∷◌, refl, subst, sym, arith}
use Rattle.std.specs.Prelude.{◌&&◌, AllPairs, max}
use Rattle.std.specs.List.{list_all}
use Rattle.std.proofs.Math.Nat.{div-lt_iff_lt-mul, div-mul-le_self}
use Rattle.std.proofs.lemmas.Bool.{cases_Bool, ltb-false}
use Rattle.std.proofs.lemmas.List.Kept.{AllPairs-cons}
use Rattle.std.proofs.lemmas.List.Sums.{AllPass-from_list_all}
use Rattle.std.proofs.lemmas.Nat.{le-div}
use Rattle.picture.specs.declared.palette.TheConstants.{COLOURS}
use Rattle.picture.specs.Palette.{ink_on, level, luminance}

abbrev pub Lighter : ℕ → ℕ → Type 0
Lighter a b = luminance a < luminance b

rises : List ℕ → Bool
rises [] = true
rises (x ∷ xs) = list_all (λ y. ltb (luminance x) (luminance y)) xs && rises xs

pub both : (a b : Bool) → (a && b) ≡ true → (a ≡ true) × (b ≡ true)
both true b e = (refl, e)
both false b e = absurd (cc)

all_lighter : (xs : List ℕ) → rises xs ≡ true → AllPairs Lighter xs
unfolding rises
all_lighter [] e = λ i j d lt within. absurd (omega arith)
all_lighter (x ∷ xs) e =
    let (first, later) = both (list_all (λ y. ltb (luminance x) (luminance y)) xs) (rises xs) e in
    let pass = AllPass-from_list_all (λ y. ltb (luminance x) (luminance y)) xs first in
    AllPairs-cons Lighter x xs (λ k d lt. ltb-true _ _ (pass k d lt)) (all_lighter xs later)

pub colours_rise : AllPairs Lighter COLOURS
unfolding rises
colours_rise = all_lighter COLOURS refl

pub level_monotone : (a b places : ℕ) → a ≤ b → level a places ≤ level b places
level_monotone a b places le =
    let some : 0 < max places 1 = omega arith in
    le-div (level a places) ((b - 1) * 32) (max places 1) some (omega (arith, div-mul-le_self ((a - 1) * 32) (max places 1)))

pub level_inside : (place places : ℕ) → 1 ≤ place → place ≤ places → level place places < 32
level_inside place places counted few =
    let some : 0 < max places 1 = omega arith in
    (div-lt_iff_lt-mul some).1 (omega arith)

pub ink_apart : (colour : ℕ) → (luminance colour + 1200000 ≤ luminance (ink_on colour)) ⊎ (luminance (ink_on colour) + 1200000 ≤ luminance colour)
ink_apart colour = elim (cases_Bool (ltb (luminance colour) 1200000)) [
  | inl e ↦ inl (subst (λ (b : Bool). luminance colour + 1200000 ≤ luminance (cond b 16777215 0)) (sym e) (omega (arith, ltb-true (luminance colour) 1200000 e)))
  | inr e ↦ inr (subst (λ (b : Bool). luminance (cond b 16777215 0) + 1200000 ≤ luminance colour) (sym e) (omega (arith, ltb-false (luminance colour) 1200000 e)))
]
