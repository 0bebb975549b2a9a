-- One more coflow joins.
use Rattle.std.proofs.Common.{◌≡◌, ℕ, ◌<◌, ◌≤◌, Bool, true, false, List, [], ◌∷◌, ◌++◌, length, inl, inr, refl, sym, ap, subst, ◌∙◌, arith, true≢false}
use Rattle.std.specs.Prelude.{All, ◌==◌, ◌||◌, slice_set, slice_index_or}
use Rattle.std.proofs.lemmas.Bool.{cases_eq, eqb-true, ne_eqb}
use Rattle.std.proofs.lemmas.Bool.Decides.{Decides-eqb}
use Rattle.std.proofs.lemmas.List.{length-append, length-set, get_or_default, get_or-set_same, get_or-set_other}
use Rattle.std.proofs.lemmas.List.Elements.{All-contains, All-push, Contains-push}
use Rattle.std.proofs.lemmas.List.Folds.{list_any-append}
use Rattle.std.proofs.lemmas.List.Quantifiers.{all_pairs_push}
use Rattle.std.proofs.lemmas.Map.Made.{IsDistinct-from_AllPairs}
use Rattle.std.proofs.lemmas.Map.Steps.{length-le_from_distinct_below}
use Rattle.coflow_units.specs.Flows.{IsDistinct}
use Rattle.coflow_units.proofs.Bools.{or_not}
use Rattle.coflow_units.proofs.Lists.{any_where}
use Rattle.coflow_units.proofs.Sums.{any_in}
use Rattle.journal.specs.State.{has}
use Rattle.master_core.specs.Attendance.{IsAttendance}

pub distinct_more : (xs : List ℕ) (c : ℕ) → IsDistinct xs → has xs c ≡ false → IsDistinct (xs ++ c ∷ [])
distinct_more xs c once away = all_pairs_push (λ (x : ℕ) (y : ℕ). x ≡ y → ⊥) xs c once (λ k d lt e.
    true≢false (sym (any_in xs c (k, lt, get_or_default xs k c d lt ∙ e)) ∙ away))

-- no more coflows joined than there are
pub joined_few : (xs : List ℕ) (n : ℕ) → IsDistinct xs → All (λ x. x < n) xs → length xs ≤ n
joined_few xs n once below =
    length-le_from_distinct_below xs n (IsDistinct-from_AllPairs Decides-eqb xs once)
    (λ q e. let (x, in', same) = any_where (λ y. q == y) xs e in subst (λ (y : ℕ). y < n) (sym (eqb-true q x same)) (All-contains (λ (x : ℕ). x < n) xs x below in'))

-- a coflow that has not joined leaves room for itself
pub joins_in : (xs : List ℕ) (n c : ℕ) → IsDistinct xs → All (λ x. x < n) xs → has xs c ≡ false → c < n → length xs < n
joins_in xs n c once below away lt =
    let most = joined_few (xs ++ c ∷ []) n (distinct_more xs c once away) (All-push (λ (x : ℕ). x < n) xs c below lt) in
    omega (arith, most, length-append xs (c ∷ []))

seen_more : (xs : List ℕ) (marks : List Bool) (c x : ℕ) → c < length marks → slice_index_or marks x false ≡ has xs x →
    slice_index_or (slice_set marks c true) x false ≡ has (xs ++ c ∷ []) x
seen_more xs marks c x lt old =
    let more = list_any-append (λ (y : ℕ). y == x) xs (c ∷ []) in
    elim (cases_eq x c) [
      | inl e ↦ subst (λ z. slice_index_or (slice_set marks c true) z false ≡ has (xs ++ c ∷ []) z) (sym e)
          (get_or-set_same marks c true false lt ∙ sym (any_in (xs ++ c ∷ []) c (Contains-push xs c)))
      | inr ne ↦ get_or-set_other marks c x true false ne ∙ old ∙ sym (more ∙ ap (λ b. has xs x || (b || false)) (ne_eqb c x (λ e. ne (sym e))) ∙ or_not (has xs x) false refl)
    ]

there_more : (xs : List ℕ) (marks : List Bool) (c x : ℕ) → c < length marks → ((y : ℕ) → slice_index_or marks y false ≡ true → has xs y ≡ true) →
    slice_index_or (slice_set marks c true) x false ≡ true → has (xs ++ c ∷ []) x ≡ true
there_more xs marks c x lt there e = elim (cases_eq x c) [
  | inl same ↦ ap (has (xs ++ c ∷ [])) same ∙ any_in (xs ++ c ∷ []) c (Contains-push xs c)
  | inr ne ↦ list_any-append (λ (y : ℕ). y == x) xs (c ∷ []) ∙ ap (λ b. b || ((c == x) || false)) (there x (sym (get_or-set_other marks c x true false ne) ∙ e))
]

-- a coflow that leaves is present no more
pub there_less : (xs : List ℕ) (marks : List Bool) (c x : ℕ) → c < length marks → ((y : ℕ) → slice_index_or marks y false ≡ true → has xs y ≡ true) →
    slice_index_or (slice_set marks c false) x false ≡ true → has xs x ≡ true
there_less xs marks c x lt there e = elim (cases_eq x c) [
  | inl same ↦ absurd (true≢false (sym e ∙ ap (λ y. slice_index_or (slice_set marks c false) y false) same ∙ get_or-set_same marks c false false lt))
  | inr ne ↦ there x (sym (get_or-set_other marks c x false false ne) ∙ e)
]

pub leaves : (joined : List ℕ) (seen present : List Bool) (room c : ℕ) → IsAttendance joined seen present room → c < length present →
    IsAttendance joined seen (slice_set present c false) room
leaves joined seen present room c h lt =
    let len = length-set present c false in
    record {
      has_room = omega (arith, h.has_room, len);
      seen_len = omega (arith, h.seen_len, len);
      seen_is = h.seen_is;
      there = λ x e. there_less joined present c x lt h.there e;
      once = h.once;
      coflow = subst (λ n. All (λ x. x < n) joined) (sym len) h.coflow;
    }

-- a coflow joins
pub attends : (joined joined' : List ℕ) (seen present : List Bool) (room room' c : ℕ) → IsAttendance joined seen present room → joined' ≡ joined ++ c ∷ [] → room' ≡ room →
    has joined c ≡ false → c < length present →
    IsAttendance joined' (slice_set seen c true) (slice_set present c true) room'
attends joined joined' seen present room room' c h is same away lt =
    let len = length-set present c true in
    record {
      has_room = omega (arith, h.has_room, len, same);
      seen_len = omega (arith, h.seen_len, len, length-set seen c true);
      seen_is = λ x. seen_more joined seen c x (omega (arith, h.seen_len)) (h.seen_is x) ∙ ap (λ l. has l x) (sym is);
      there = λ x e. ap (λ l. has l x) is ∙ there_more joined present c x lt h.there e;
      once = subst IsDistinct (sym is) (distinct_more joined c h.once away);
      coflow = subst (λ l. All (λ x. x < length (slice_set present c true)) l) (sym is)
          (subst (λ n. All (λ x. x < n) (joined ++ c ∷ [])) (sym len) (All-push (λ (x : ℕ). x < length present) joined c h.coflow lt));
    }
