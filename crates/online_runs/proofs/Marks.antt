-- Marks of coflows, and lists of those that are marked.
use Rattle.std.proofs.Common.{◌≡◌, ℕ, ◌+◌, ◌<◌, inl, inr, Bool, true, false, List, [], ◌∷◌, ◌++◌, get_or, length, set, refl, sym, ap, ◌∙◌, arith, cond}
use Rattle.std.specs.Prelude.{◌==◌, count_by, replicate, slice_set}
use Rattle.std.specs.List.{list_any}
use Rattle.std.proofs.lemmas.Bool.{cases_eq, eq-eqb, ne_eqb, or_from, or_left, or_right}
use Rattle.std.proofs.lemmas.List.{get_or-set_other, get_or-set_same}
use Rattle.std.proofs.lemmas.List.Folds.{list_any-append}
use Rattle.std.proofs.lemmas.List.Sums.{sum_by-set}
use Rattle.coflow_units.proofs.Bools.{or_not}
use Rattle.epochs.specs.Course.{is_marked}
use Rattle.epochs.proofs.Actions.{none_marked}
use Rattle.journal.specs.State.{has}

-- the list has the coflows that are marked, and no others
abbrev pub HasMarked : List ℕ → List Bool → Type 0
HasMarked xs marks = (c : ℕ) → has xs c ≡ is_marked marks c

pub marks_none : (n : ℕ) → HasMarked [] (replicate n false)
marks_none n c = sym (none_marked n c)

pub marks_more : (xs : List ℕ) (marks : List Bool) (c : ℕ) → c < length marks → HasMarked xs marks → HasMarked (xs ++ c ∷ []) (slice_set marks c true)
marks_more xs marks c lt h d = elim (cases_eq d c) [
  | inl same ↦
      list_any-append (λ y. y == d) xs (c ∷ []) ∙ or_right (has xs d) (list_any (λ y. y == d) (c ∷ [])) (or_left (c == d) false (eq-eqb c d (sym same))) ∙
      sym (ap (λ i. get_or (set marks c true) i false) same ∙ get_or-set_same marks c true false lt)
  | inr other ↦
      list_any-append (λ y. y == d) xs (c ∷ []) ∙ or_not (has xs d) (list_any (λ y. y == d) (c ∷ [])) (or_from (c == d) false (ne_eqb c d (λ e. other (sym e))) refl) ∙ h d ∙
      sym (get_or-set_other marks c d true false other)
]

abbrev pub marked : List Bool → ℕ
marked marks = count_by (λ b. b) marks

pub one_marked : (marks : List Bool) (c : ℕ) → c < length marks → is_marked marks c ≡ false → marked (slice_set marks c true) ≡ marked marks + 1
one_marked marks c lt none =
    let old : ◌≡◌ {A = ℕ} (cond (get_or marks c false) 1 0) 0 = ap {B = ℕ} (λ b. cond b 1 0) none in
    omega (arith, sum_by-set (λ (b : Bool). cond b 1 0) marks c true false lt, old)
