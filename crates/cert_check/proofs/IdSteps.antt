-- The first place of an id in a list of ids.
use Rattle.std.proofs.Common.{◌≡◌, ℕ, ◌+◌, ◌≤◌, ◌<◌, inl, inr, Bool, true, false, cond, List, [], ◌∷◌, ◌++◌, length, take, nat_eq, refl, sym, ap, ◌∙◌, arith}
use Rattle.std.specs.Prelude.{◌==◌, not, None, Option, Some, position, slice_index, unwrap_or}
use Rattle.std.specs.List.{position_or_len}
use Rattle.std.proofs.lemmas.Bool.{cases_lt, eqb-true, eq-eqb, lt-ltb, le-ltb, ne_eqb}
use Rattle.std.proofs.lemmas.List.{length-append, length-take-le, take_more}
use Rattle.std.proofs.lemmas.List.Folds.{position_or_len_push}
use Rattle.std.proofs.lemmas.List.Sums.{prefix_len-le-length}

abbrev pub found : List ℕ → ℕ → Option ℕ
found ids id = position (λ x. x == id) ids

-- where an id is, and where it is not
pub found_at : (ids : List ℕ) (id : ℕ) → position_or_len (λ x. x == id) ids < length ids → found ids id ≡ Some (position_or_len (λ x. x == id) ids)
found_at ids id lt = ap {B = Option ℕ} (λ b. cond b (Some (position_or_len (λ x. x == id) ids)) None) (lt-ltb (position_or_len (λ x. x == id) ids) (length ids) lt)

pub found_not : (ids : List ℕ) (id : ℕ) → length ids ≤ position_or_len (λ x. x == id) ids → found ids id ≡ None
found_not ids id le = ap {B = Option ℕ} (λ b. cond b (Some (position_or_len (λ x. x == id) ids)) None) (le-ltb (position_or_len (λ x. x == id) ids) (length ids) le)

after_push : (ids : List ℕ) (y id : ℕ) → length (ids ++ y ∷ []) ≡ length ids + 1
after_push ids y id = length-append ids (y ∷ [])

first_stays : (ids : List ℕ) (y id : ℕ) → position_or_len (λ x. x == id) ids < length ids → position_or_len (λ x. x == id) (ids ++ y ∷ []) ≡ position_or_len (λ x. x == id) ids
first_stays ids y id lt =
    position_or_len_push (λ x. x == id) ids y
    ∙ ap (λ b. cond b (length ids + cond (y == id) 0 1) (position_or_len (λ x. x == id) ids)) (ne_eqb (position_or_len (λ x. x == id) ids) (length ids) (λ e. omega arith))

last_or_none : (ids : List ℕ) (y id : ℕ) (b : Bool) → y == id ≡ b → length ids ≤ position_or_len (λ x. x == id) ids →
    position_or_len (λ x. x == id) (ids ++ y ∷ []) ≡ length ids + cond b 0 1
last_or_none ids y id b e le =
    position_or_len_push (λ x. x == id) ids y
    ∙ ap (λ t. cond t (length ids + cond (y == id) 0 1) (position_or_len (λ x. x == id) ids))
    (eq-eqb (position_or_len (λ x. x == id) ids) (length ids) (omega (arith, prefix_len-le-length (λ x. not (x == id)) ids)))
    ∙ ap (λ t. length ids + cond t 0 1) e

found_push : (ids : List ℕ) (y id : ℕ) (b : Bool) → y == id ≡ b → found (ids ++ y ∷ []) id ≡ cond b (Some (unwrap_or (found ids id) (length ids))) (found ids id)
found_push ids y id b e = elim (cases_lt (position_or_len (λ x. x == id) ids) (length ids)) [
  | inl lt ↦
      let stays = first_stays ids y id lt in
      let here : found (ids ++ y ∷ []) id ≡ Some (position_or_len (λ x. x == id) ids) = found_at (ids ++ y ∷ []) id (omega (arith, stays, length-append ids (y ∷ []))) ∙
      ap Some stays in
      here ∙ both b (found_at ids id lt)
  | inr le ↦ new b e le
]
  where
    both : (b : Bool) → found ids id ≡ Some (position_or_len (λ x. x == id) ids) →
        Some (position_or_len (λ x. x == id) ids) ≡ cond b (Some (unwrap_or (found ids id) (length ids))) (found ids id)
    both true h = sym (ap (λ o. Some (unwrap_or o (length ids))) h)
    both false h = sym h

    new : (b : Bool) → y == id ≡ b → length ids ≤ position_or_len (λ x. x == id) ids →
        found (ids ++ y ∷ []) id ≡ cond b (Some (unwrap_or (found ids id) (length ids))) (found ids id)
    new true e le =
        let at : position_or_len (λ x. x == id) (ids ++ y ∷ []) ≡ length ids + 0 = last_or_none ids y id true e le in
        let last : position_or_len (λ x. x == id) (ids ++ y ∷ []) ≡ length ids = omega arith in
        found_at (ids ++ y ∷ []) id (omega (arith, at, length-append ids (y ∷ []))) ∙ ap Some last ∙ sym (ap (λ o. Some (unwrap_or o (length ids))) (found_not ids id le))
    new false e le =
        let at : position_or_len (λ x. x == id) (ids ++ y ∷ []) ≡ length ids + 1 = last_or_none ids y id false e le in
        found_not (ids ++ y ∷ []) id (omega (arith, at, length-append ids (y ∷ []))) ∙ sym (found_not ids id le)

-- one id more
pub found_more : (ids : List ℕ) (k id : ℕ) → k < length ids →
    found (take (k + 1) ids) id ≡ cond (nat_eq (slice_index ids k) id) (Some (unwrap_or (found (take k ids) (slice_index ids k)) k)) (found (take k ids) id)
found_more ids k id lt =
    ap (λ l. found l id) (take_more ids k 0 lt) ∙ found_push (take k ids) (slice_index ids k) id (nat_eq (slice_index ids k) id) refl
    ∙ ap (λ n. cond (nat_eq (slice_index ids k) id) (Some (unwrap_or (found (take k ids) id) n)) (found (take k ids) id)) (length-take-le k ids (omega arith))
    ∙ same (nat_eq (slice_index ids k) id) refl
  where
    same : (b : Bool) → nat_eq (slice_index ids k) id ≡ b →
        cond b (Some (unwrap_or (found (take k ids) id) k)) (found (take k ids) id) ≡ cond b (Some (unwrap_or (found (take k ids) (slice_index ids k)) k)) (found (take k ids) id)
    same true e = ap (λ x. Some (unwrap_or (found (take k ids) x) k)) (sym (eqb-true (slice_index ids k) id e))
    same false e = refl
