-- Filtered lists.
use Rattle.std.proofs.Common.{Bool, Contains, List, [], ap, cond, false, refl}
use Rattle.std.proofs.Common.{sym, true, ℕ, ◌-◌, ◌∙◌, ◌∷◌, ◌≡◌}
use Rattle.std.specs.Prelude.{◌&&◌, ◌==◌, ◌||◌}
use Rattle.std.specs.List.{filter}
use Rattle.std.proofs.lemmas.Bool.{and_right, eqb-true}
use Rattle.coflow_units.specs.Schedule.{holds}
use Rattle.coflow_units.proofs.Sums.{in_first, in_tail}

-- what fails for each member leaves nothing
pub filter_out : (p : ℕ → Bool) (xs : List ℕ) → ((x : ℕ) → Contains xs x → p x ≡ false) → filter p xs ≡ []
filter_out p [] out = refl
filter_out p (x ∷ xs) out = ap (λ b. cond b (x ∷ filter p xs) (filter p xs)) (out x (in_first x xs)) ∙ filter_out p xs (λ y has. out y (in_tail x xs y has))

-- a number stands in a filtered list where it stands in the list and passes
filter_one : (x f : ℕ) (fs : List ℕ) (h pf b e : Bool) → (x == f) ≡ e → holds fs f ≡ (h && pf) → (e ≡ true → b ≡ pf) → holds (cond b (x ∷ fs) fs) f ≡ ((e || h) && pf)
filter_one x f fs h pf true true at before same = ap (λ d. d || holds fs f) at ∙ same refl
filter_one x f fs h pf true false at before same = ap (λ d. d || holds fs f) at ∙ before
filter_one x f fs h pf false true at before same = before ∙ ap (λ d. h && d) (sym (same refl)) ∙ and_right h false refl ∙ same refl
filter_one x f fs h pf false false at before same = before

pub holds_filter : (p : ℕ → Bool) (xs : List ℕ) (f : ℕ) → holds (filter p xs) f ≡ (holds xs f && p f)
holds_filter p [] f = refl
holds_filter p (x ∷ xs) f = filter_one x f (filter p xs) (holds xs f) (p f) (p x) (x == f) refl (holds_filter p xs f) (λ e. ap p (eqb-true x f e))
