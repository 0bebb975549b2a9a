-- Members of a list with one more element.
use Rattle.std.proofs.Common.{◌≡◌, ◌≢◌, ℕ, true, false, List, [], ◌∷◌, ◌++◌, refl, sym, ap, ◌∙◌}
use Rattle.std.specs.Prelude.{◌==◌, ◌||◌}
use Rattle.std.proofs.lemmas.Bool.{eq-eqb, ne_eqb}
use Rattle.std.proofs.lemmas.List.Folds.{list_any-append}
use Rattle.coflow_units.proofs.Bools.{or_not}
use Rattle.journal.specs.State.{has}
use Rattle.master_core.proofs.Bools.{or_true}

pub has_push : (xs : List ℕ) (c x : ℕ) → has (xs ++ c ∷ []) x ≡ (has xs x || (c == x))
has_push xs c x = list_any-append (λ (y : ℕ). y == x) xs (c ∷ []) ∙ ap (λ b. has xs x || b) (or_not (c == x) false refl)

pub has_last : (xs : List ℕ) (c x : ℕ) → x ≡ c → has (xs ++ c ∷ []) x ≡ true
has_last xs c x e = has_push xs c x ∙ ap (λ b. has xs x || b) (eq-eqb c x (sym e)) ∙ or_true (has xs x)

pub has_other : (xs : List ℕ) (c x : ℕ) → x ≢ c → has (xs ++ c ∷ []) x ≡ has xs x
has_other xs c x ne = has_push xs c x ∙ ap (λ b. has xs x || b) (ne_eqb c x (λ e. ne (sym e))) ∙ or_not (has xs x) false refl

pub has_more : (xs : List ℕ) (c x : ℕ) → has xs x ≡ true → has (xs ++ c ∷ []) x ≡ true
has_more xs c x e = has_push xs c x ∙ ap (λ b. b || (c == x)) e
