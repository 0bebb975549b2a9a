-- The numbers of ids.
use Rattle.std.proofs.Common.{◌≡◌, ℕ, ◌+◌, ◌<◌, ◌≤◌, ◌^◌, not, inl, inr, List, [], ◌∷◌, ◌++◌}
use Rattle.std.proofs.Common.{Option, Some, None, Bool, true, false, cond, length, get_or, take, nat_eq, arith, refl, sym, ap, ◌∙◌, Contains}
use Rattle.std.specs.Prelude.{◌==◌, position, slice_index, unwrap_or}
use Rattle.std.specs.List.{list_any}
use Rattle.std.specs.Option.{option_or}
use Rattle.std.proofs.lemmas.Bool.{cases_lt, eq-eqb, eqb-true, le-ltb, lt-ltb, ne_eqb}
use Rattle.std.proofs.lemmas.List.{length-take-le, length_push, take_more}
use Rattle.std.proofs.lemmas.List.Elements.{All-contains, All-more}
use Rattle.std.proofs.lemmas.List.Folds.{position_or_len_push}
use Rattle.std.proofs.lemmas.List.Quantifiers.{position-Some}
use Rattle.std.proofs.lemmas.List.Sums.{prefix_len-le-length}
use Rattle.coflow_units.specs.Grants.{place_in}
use Rattle.coflow_units.proofs.LinePlaces.{first_place, place_of_member}
use Rattle.coflow_units.proofs.Lists.{any_from, any_where}
use Rattle.text_fields.specs.Numbers.{AreIds, capped}

-- The first coflow that has the id, by number.
abbrev pub number_in : List ℕ → ℕ → Option ℕ
number_in ids id = position (λ x. x == id) ids

pub known_has : (ids : List ℕ) (n : ℕ) → list_any (nat_eq n) ids ≡ true → Contains ids n
known_has ids n e =
    let (x, has, same) = any_where (nat_eq n) ids e in
    let at : n ≡ x = eqb-true n x same in
    rw at has

pub has_known : (ids : List ℕ) (n : ℕ) → Contains ids n → list_any (nat_eq n) ids ≡ true
has_known ids n has = any_from (nat_eq n) ids n has (eq-eqb n n refl)

-- An id that has a number is known, and has its first place.
pub some_known : (ids : List ℕ) (n k : ℕ) → Some k ≡ number_in ids n → (list_any (nat_eq n) ids ≡ true) × (k ≡ place_in ids n)
some_known ids n k e =
    let (lt, at, _) = position-Some (λ x. x == n) ids k n (sym e) in (
      has_known ids n (k, lt, eqb-true (get_or ids k n) n at),
      ap (λ (o : Option ℕ). unwrap_or o (length ids)) e,
    )

-- An id that has no number is not known.
pub none_unknown : (ids : List ℕ) (n : ℕ) → None ≡ number_in ids n → list_any (nat_eq n) ids ≡ false
none_unknown ids n e = go (list_any (nat_eq n) ids) refl
  where
    past : place_in ids n ≡ length ids
    past = sym (ap (λ (o : Option ℕ). unwrap_or o (length ids)) e)

    go : (b : Bool) → list_any (nat_eq n) ids ≡ b → list_any (nat_eq n) ids ≡ false
    go true t = absurd (omega (arith, past, place_of_member ids n (known_has ids n t)))
    go false t = t

at_some : (ids : List ℕ) (id : ℕ) → first_place ids id < length ids → number_in ids id ≡ Some (first_place ids id)
at_some ids id lt = ap (λ (b : Bool). cond b (Some (first_place ids id)) None) (lt-ltb (first_place ids id) (length ids) lt)

at_none : (ids : List ℕ) (id : ℕ) → length ids ≤ first_place ids id → number_in ids id ≡ None
at_none ids id le = ap (λ (b : Bool). cond b (Some (first_place ids id)) None) (le-ltb (first_place ids id) (length ids) le)

-- A number beyond 32 bits is no id.
pub large_is_unknown : (ids : List ℕ) (n : ℕ) → AreIds ids → 2 ^ 32 ≤ n → number_in ids n ≡ None
large_is_unknown ids n short large = go (number_in ids n) refl
  where
    go : (o : Option ℕ) → number_in ids n ≡ o → number_in ids n ≡ None
    go None e = e
    go (Some k) e =
        let has = known_has ids n (some_known ids n k (sym e)).0 in
        absurd (omega (arith, large, All-contains (λ (x : ℕ). x < 2 ^ 32) ids n short has))

-- The number of an id in a list with one id more.
pub one_id_more : (id : ℕ) (ids : List ℕ) (y : ℕ) → number_in (ids ++ y ∷ []) id ≡ option_or (number_in ids id) (cond (y == id) (Some (length ids)) None)
one_id_more id ids y = elim (cases_lt (first_place ids id) (length ids)) [
  | inl lt ↦
      let apart : (first_place ids id == length ids) ≡ false = ne_eqb (first_place ids id) (length ids) (λ e. omega (arith, e, lt)) in
      let same : first_place (ids ++ y ∷ []) id ≡ first_place ids id = position_or_len_push (λ x. x == id) ids y ∙ ap first_more apart in
      at_some (ids ++ y ∷ []) id (omega (arith, same, lt, length_push ids y)) ∙ (ap (λ (k : ℕ). Some k) same ∙
      sym (ap (λ (o : Option ℕ). option_or o (cond (y == id) (Some (length ids)) None)) (at_some ids id lt)))
  | inr ge ↦
      let end : first_place ids id ≡ length ids = omega (arith, ge, prefix_len-le-length (λ x. not (x == id)) ids) in
      let at : first_place (ids ++ y ∷ []) id ≡ length ids + cond (y == id) 0 1 =
      position_or_len_push (λ x. x == id) ids y ∙ ap first_more (eq-eqb (first_place ids id) (length ids) end) in
      past (y == id) refl at ∙ sym (ap (λ (o : Option ℕ). option_or o (cond (y == id) (Some (length ids)) None)) (at_none ids id ge))
]
  where
    first_more : Bool → ℕ
    first_more b = cond b (length ids + cond (y == id) 0 1) (first_place ids id)

    past : (b : Bool) → (y == id) ≡ b → first_place (ids ++ y ∷ []) id ≡ length ids + cond (y == id) 0 1 →
        number_in (ids ++ y ∷ []) id ≡ cond (y == id) (Some (length ids)) None
    past true t at =
        let here : first_place (ids ++ y ∷ []) id ≡ length ids = at ∙ (ap (λ (b : Bool). length ids + cond b 0 1) t ∙ omega arith) in
        at_some (ids ++ y ∷ []) id (omega (arith, here, length_push ids y)) ∙ (ap (λ (k : ℕ). Some k) here ∙
        sym (ap (λ (b : Bool). cond b (Some (length ids)) None) t))
    past false t at =
        let behind : first_place (ids ++ y ∷ []) id ≡ length ids + 1 = at ∙ ap (λ (b : Bool). length ids + cond b 0 1) t in
        at_none (ids ++ y ∷ []) id (omega (arith, behind, length_push ids y)) ∙ sym (ap (λ (b : Bool). cond b (Some (length ids)) None) t)

-- A coflow more has its id.
pub one_more : (at more : ℕ → Option ℕ) (ids : List ℕ) (k id : ℕ) → k < length ids → id ≡ slice_index ids k → id < 2 ^ 32 →
    ((n : ℕ) → at n ≡ number_in (take k ids) n) × AreIds (take k ids) → ((n : ℕ) → more n ≡ option_or (at n) (cond (id == n) (Some k) None)) →
    ((n : ℕ) → more n ≡ number_in (take (k + 1) ids) n) × AreIds (take (k + 1) ids)
one_more at more ids k id inside is short h step = (
  λ n. step n ∙ (ap (λ (o : Option ℕ). option_or o (cond (id == n) (Some k) None)) (h.0 n) ∙
      (same n ∙ (sym (one_id_more n (take k ids) id) ∙ ap (λ (l : List ℕ). number_in l n) (sym grown)))),
  All-more (λ n. n < 2 ^ 32) ids k 0 inside h.1 (rw is at short),
)
  where
    grown : take (k + 1) ids ≡ take k ids ++ id ∷ []
    grown = take_more ids k 0 inside ∙ ap (λ (x : ℕ). take k ids ++ x ∷ []) (sym is)

    same : (n : ℕ) → option_or (number_in (take k ids) n) (cond (id == n) (Some k) None) ≡
        option_or (number_in (take k ids) n) (cond (id == n) (Some (length (take k ids))) None)
    same n = ap (λ (l : ℕ). option_or (number_in (take k ids) n) (cond (id == n) (Some l) None)) (sym (length-take-le k ids (omega (arith, inside))))

-- A number that is told as one of 32 bits is told as it is.
pub told : (id n : ℕ) → id ≡ capped n → id < 2 ^ 32 → id ≡ n
told id n is short = omega arith
