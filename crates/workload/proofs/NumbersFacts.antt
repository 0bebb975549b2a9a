-- The numbers of ids.
use Rattle.std.proofs.Common.{◌≡◌, ℕ, ◌+◌, ◌<◌, ◌≤◌, ◌^◌, List, [], ◌∷◌, ◌++◌, Option, Some, None, Bool, true, false, cond, length, nat_eq, suc, arith, refl, ap, ◌∙◌, take, get_or}
use Rattle.std.specs.Prelude.{is_some, option_map, slice_index}
use Rattle.std.proofs.lemmas.List.{length-take-le, take_more}
use Rattle.std.proofs.lemmas.List.Elements.{All-more}
use Rattle.std.proofs.lemmas.Bool.Decides.{nat_tests}
use Rattle.text_fields.specs.Numbers.{AreIds}
use Rattle.workload.specs.Operands.{coflow_with, or_else}

-- A number beyond 32 bits is no id.
pub large_is_unknown : (ids : List ℕ) (n : ℕ) → AreIds ids → 2 ^ 32 ≤ n → coflow_with n ids ≡ None
large_is_unknown [] n h e = refl
large_is_unknown (x ∷ ids) n h e =
    let less : x < 2 ^ 32 = h 0 x (omega arith) in
    let differ : nat_eq n x ≡ false = grind (arith, nat_tests) in
    rw (differ, large_is_unknown ids n (λ k d lt. h (suc k) d (omega arith)) e) refl

one_behind : (o : Option ℕ) (b : Bool) (n : ℕ) → option_map (λ k. k + 1) (or_else o (cond b (Some n) None)) ≡ or_else (option_map (λ k. k + 1) o) (cond b (Some (suc n)) None)
one_behind (Some x) b n = refl
one_behind None true n = ap (λ (k : ℕ). Some k) (omega arith)
one_behind None false n = refl

-- The first coflow of a list with one id more.
pub one_id_more : (id : ℕ) (ids : List ℕ) (y : ℕ) → coflow_with id (ids ++ (y ∷ [])) ≡ or_else (coflow_with id ids) (cond (nat_eq id y) (Some (length ids)) None)
one_id_more id [] y = go (nat_eq id y) refl
  where
    go : (b : Bool) → nat_eq id y ≡ b → coflow_with id (y ∷ []) ≡ cond (nat_eq id y) (Some 0) None
    go true t = rw t refl
    go false t = rw t refl
one_id_more id (x ∷ ids) y = go (nat_eq id x) refl (one_id_more id ids y)
  where
    go : (b : Bool) → nat_eq id x ≡ b → coflow_with id (ids ++ (y ∷ [])) ≡ or_else (coflow_with id ids) (cond (nat_eq id y) (Some (length ids)) None) →
        coflow_with id (x ∷ (ids ++ (y ∷ []))) ≡ or_else (coflow_with id (x ∷ ids)) (cond (nat_eq id y) (Some (suc (length ids))) None)
    go true t rest = rw t refl
    go false t rest = rw (t, rest) (one_behind (coflow_with id ids) (nat_eq id y) (length ids))

none_else : (o : Option ℕ) → or_else o None ≡ o
none_else (Some x) = refl
none_else None = refl

-- A coflow for an id that had none.
pub added : (at : ℕ → Option ℕ) (id n coflow : ℕ) → at id ≡ None → cond (nat_eq id n) (Some coflow) (at n) ≡ or_else (at n) (cond (nat_eq n id) (Some coflow) None)
added at id n coflow none = go (nat_eq id n) refl
  where
    go : (b : Bool) → nat_eq id n ≡ b → cond (nat_eq id n) (Some coflow) (at n) ≡ or_else (at n) (cond (nat_eq n id) (Some coflow) None)
    go true t =
        let back : nat_eq n id ≡ true = grind (arith, nat_tests) in
        let same : id ≡ n = grind (arith, nat_tests) in
        let here : at n ≡ None = rw (← same) none in
        rw (t, back, here) refl
    go false t = let back : nat_eq n id ≡ false = grind (arith, nat_tests) in rw (t, back, none_else (at n)) refl

-- An id that has a coflow keeps it.
pub kept : (at : ℕ → Option ℕ) (id n coflow : ℕ) → is_some (at id) ≡ true → at n ≡ or_else (at n) (cond (nat_eq n id) (Some coflow) None)
kept at id n coflow some = go (nat_eq n id) refl
  where
    full : (o : Option ℕ) → is_some o ≡ true → (y : Option ℕ) → o ≡ or_else o y
    full (Some x) e y = refl
    full None e y = cc

    go : (b : Bool) → nat_eq n id ≡ b → at n ≡ or_else (at n) (cond (nat_eq n id) (Some coflow) None)
    go true t =
        let same : id ≡ n = grind (arith, nat_tests) in
        let here : is_some (at n) ≡ true = rw (← same) some in
        full (at n) here (cond (nat_eq n id) (Some coflow) None)
    go false t = rw (t, none_else (at n)) refl

-- A coflow more has its id.
pub one_more : (at more : ℕ → Option ℕ) (ids : List ℕ) (k id : ℕ) → k < length ids → id ≡ slice_index ids k → id < 2 ^ 32 →
    ((n : ℕ) → at n ≡ coflow_with n (take k ids)) × AreIds (take k ids) → ((n : ℕ) → more n ≡ or_else (at n) (cond (nat_eq n id) (Some k) None)) →
    ((n : ℕ) → more n ≡ coflow_with n (take (k + 1) ids)) × AreIds (take (k + 1) ids)
one_more at more ids k id inside is short h step = (
  λ n. step n ∙ rw (h.0 n, take_more ids k 0 inside, one_id_more n (take k ids) (get_or ids k 0), length-take-le k ids (omega (arith, inside)), is) refl,
  All-more (λ n. n < 2 ^ 32) ids k 0 inside h.1 (rw is at short),
)
