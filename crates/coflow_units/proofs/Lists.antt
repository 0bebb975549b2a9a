-- Members of lists, and the lists of the numbers from one on.
use Rattle.std.proofs.Common.{Bool, Contains, List, [], ap, arith, cond, false, inl, inr, length, map, refl}
use Rattle.std.proofs.Common.{reverse, subst, suc, sym, take, true, true≢false, zero, ℕ, ◌++◌, ◌+◌, ◌-◌, ◌<◌}
use Rattle.std.proofs.Common.{◌∙◌, ◌∷◌, ◌≡◌, ◌≤◌}
use Rattle.std.proofs.lemmas.Bool.{both_ways, cases_Bool, or_cases}
use Rattle.std.proofs.lemmas.List.{reverse-append, take_all}
use Rattle.std.proofs.lemmas.List.Elements.{Contains-append_left, Contains-push, Contains-push_cases}
use Rattle.std.proofs.lemmas.List.FromFn.{get_or-range_with_len, length-range_with_len}
use Rattle.std.proofs.lemmas.List.Sums.{sum_by-cons, sum_by_more, sum_by_push}
use Rattle.std.specs.List.{filter, list_any, range_with_len, slice_index_or}
use Rattle.std.specs.Prelude.{if◌then◌else◌, sum_by}
use Rattle.coflow_units.proofs.Sums.{Apart, first_or_tail, in_first, in_tail, nothing_in}

-- functions that agree on the members make the same list
pub map_same : {X : Type 0} (f g : ℕ → X) (xs : List ℕ) → ((x : ℕ) → Contains xs x → f x ≡ g x) → map f xs ≡ map g xs
map_same f g [] same = refl
map_same f g (x ∷ xs) same = ap (λ y. y ∷ map f xs) (same x (in_first x xs)) ∙ ap (λ l. g x ∷ l) (map_same f g xs (λ y has. same y (in_tail x xs y has)))

-- a member of a list that is made of another comes from a member there
pub from_map : {X Y : Type 0} (w : X → Y) (xs : List X) (y : Y) → Contains (map w xs) y → (x : X) × Contains xs x × (w x ≡ y)
from_map w [] y has = absurd (nothing_in y has)
from_map w (x ∷ xs) y has = elim (first_or_tail (w x) (map w xs) y has) [
  | inl e ↦ (x, in_first x xs, e)
  | inr later ↦ let (found, inside, e) = from_map w xs y later in (found, in_tail x xs found inside, e)
]

-- an element that passes the test
pub any_where : (w : ℕ → Bool) (xs : List ℕ) → list_any w xs ≡ true → (x : ℕ) × Contains xs x × (w x ≡ true)
any_where w [] e = absurd (true≢false (sym e))
any_where w (x ∷ xs) e = elim (or_cases (w x) (list_any w xs) e) [
  | inl here ↦ (x, in_first x xs, here)
  | inr later ↦ let (y, has, at) = any_where w xs later in (y, in_tail x xs y has, at)
]

pub any_from : (w : ℕ → Bool) (xs : List ℕ) (x : ℕ) → Contains xs x → w x ≡ true → list_any w xs ≡ true
any_from w [] x has e = absurd (nothing_in x has)
any_from w (y ∷ ys) x has e = elim (cases_Bool (w y)) [
  | inl t ↦ rw t refl
  | inr t ↦ elim (first_or_tail y ys x has) [
    | inl same ↦ absurd (both_ways (w y) t (ap w same ∙ e))
    | inr later ↦ rw t (any_from w ys x later e)
  ]
]

filter_step : (p : ℕ → Bool) (y : ℕ) (ys : List ℕ) (x : ℕ) → (Contains (filter p ys) x → Contains ys x × (p x ≡ true)) → (b : Bool) → p y ≡ b →
    Contains (if b then y ∷ filter p ys else filter p ys) x → Contains (y ∷ ys) x × (p x ≡ true)
filter_step p y ys x before true e has = elim (first_or_tail y (filter p ys) x has) [
  | inl same ↦ (subst (λ z. Contains (y ∷ ys) z) same (in_first y ys), sym (ap p same) ∙ e)
  | inr h ↦ (in_tail y ys x (before h).0, (before h).1)
]
filter_step p y ys x before false e has = (in_tail y ys x (before has).0, (before has).1)

keeps_first : (p : ℕ → Bool) (y : ℕ) (ys : List ℕ) → p y ≡ true → Contains (filter p (y ∷ ys)) y
keeps_first p y ys e = subst (λ b. Contains (if b then y ∷ filter p ys else filter p ys) y) (sym e) (in_first y (filter p ys))

keeps_tail : (p : ℕ → Bool) (y : ℕ) (ys : List ℕ) (x : ℕ) (b : Bool) → Contains (filter p ys) x → Contains (if b then y ∷ filter p ys else filter p ys) x
keeps_tail p y ys x true has = in_tail y (filter p ys) x has
keeps_tail p y ys x false has = has

pub filter_in : (p : ℕ → Bool) (xs : List ℕ) (x : ℕ) → Contains (filter p xs) x → Contains xs x × (p x ≡ true)
filter_in p [] x has = absurd (nothing_in x has)
filter_in p (y ∷ ys) x has = filter_step p y ys x (filter_in p ys x) (p y) refl has

pub keeps : (p : ℕ → Bool) (xs : List ℕ) (x : ℕ) → Contains xs x → p x ≡ true → Contains (filter p xs) x
keeps p [] x has e = has
keeps p (y ∷ ys) x has e = elim (first_or_tail y ys x has) [
  | inl same ↦ subst (λ z. Contains (filter p (y ∷ ys)) z) same (keeps_first p y ys (ap p same ∙ e))
  | inr h ↦ keeps_tail p y ys x (p y) (keeps p ys x h e)
]

-- what holds of each member keeps all
pub filter_all : (p : ℕ → Bool) (xs : List ℕ) → ((x : ℕ) → Contains xs x → p x ≡ true) → filter p xs ≡ xs
filter_all p [] all = refl
filter_all p (x ∷ xs) all = ap (λ b. cond b (x ∷ filter p xs) (filter p xs)) (all x (in_first x xs)) ∙ ap (λ l. x ∷ l) (filter_all p xs (λ y has. all y (in_tail x xs y has)))

pub filter_same : (p q : ℕ → Bool) (xs : List ℕ) → ((x : ℕ) → Contains xs x → p x ≡ q x) → filter p xs ≡ filter q xs
filter_same p q [] same = refl
filter_same p q (x ∷ xs) same = ap (λ b. cond b (x ∷ filter p xs) (filter p xs)) (same x (in_first x xs)) ∙
    ap (λ l. cond (q x) (x ∷ l) l) (filter_same p q xs (λ y has. same y (in_tail x xs y has)))

-- all flow numbers
pub number_below : (a n f : ℕ) → Contains (range_with_len a n) f → f < a + n
number_below a n f (k, lt, at) = omega (arith, at, lt, length-range_with_len a n, get_or-range_with_len a n k f (omega (arith, lt, length-range_with_len a n)))

number_from : (a n f : ℕ) → Contains (range_with_len a n) f → a ≤ f
number_from a n f (k, lt, at) = omega (arith, at, get_or-range_with_len a n k f (omega (arith, length-range_with_len a n)))

pub numbers_apart : (a n : ℕ) → Apart (range_with_len a n)
numbers_apart a zero = tt
numbers_apart a (suc n) = ((λ has. omega (arith, number_from (a + 1) n a has)), numbers_apart (a + 1) n)

pub number_in : (a n f : ℕ) → a ≤ f → f < a + n → Contains (range_with_len a n) f
number_in a n f low high = (f - a, omega (arith, length-range_with_len a n), get_or-range_with_len a n (f - a) f (omega arith) ∙ omega arith)

pub range_more : (w : ℕ → ℕ) (a n : ℕ) → sum_by w (range_with_len a (suc n)) ≡ sum_by w (range_with_len a n) + w (a + n)
range_more w a zero =
    let e : a + 0 ≡ a = omega arith in
    omega (arith, sum_by-cons w a [], ap w e)
range_more w a (suc n) =
    let e : a + 1 + n ≡ a + suc n = omega arith in
    omega (arith, sum_by-cons w a (range_with_len (a + 1) (suc n)), range_more w (a + 1) n, sum_by-cons w a (range_with_len (a + 1) n), ap w e)

-- a sum over the flows is a sum over their numbers
by_number_upto : {X : Type 0} (w : X → ℕ) (d : X) (xs : List X) (n : ℕ) → n ≤ length xs → sum_by w (take n xs) ≡ sum_by (λ f. w (slice_index_or xs f d)) (range_with_len 0 n)
by_number_upto w d xs zero le = refl
by_number_upto w d xs (suc n) le =
    let next : suc n ≡ n + 1 = omega arith in
    let place : 0 + n ≡ n = omega arith in
    omega (
      arith,
      ap (λ k. sum_by w (take k xs)) next,
      sum_by_more w xs n d (omega arith),
      by_number_upto w d xs n (omega arith),
      range_more (λ f. w (slice_index_or xs f d)) 0 n,
      ap (λ k. w (slice_index_or xs k d)) place,
    )

pub by_number : {X : Type 0} (w : X → ℕ) (d : X) (xs : List X) → sum_by w xs ≡ sum_by (λ f. w (slice_index_or xs f d)) (range_with_len 0 (length xs))
by_number w d xs = sym (ap (sum_by w) (take_all (length xs) xs (omega arith))) ∙ by_number_upto w d xs (length xs) (omega arith)

pub reverse-cons : (x : ℕ) (xs : List ℕ) → reverse (x ∷ xs) ≡ reverse xs ++ x ∷ []
reverse-cons x xs = reverse-append (x ∷ []) xs

pub in_reverse : (xs : List ℕ) (c : ℕ) → Contains (reverse xs) c → Contains xs c
in_reverse [] c has = has
in_reverse (x ∷ xs) c has = elim (Contains-push_cases (reverse xs) x c (subst (λ l. Contains l c) (reverse-cons x xs) has)) [
  | inl later ↦ in_tail x xs c (in_reverse xs c later)
  | inr e ↦ subst (λ n. Contains (x ∷ xs) n) e (in_first x xs)
]

pub into_reverse : (xs : List ℕ) (c : ℕ) → Contains xs c → Contains (reverse xs) c
into_reverse [] c has = has
into_reverse (x ∷ xs) c has = subst (λ l. Contains l c) (sym (reverse-cons x xs)) (elim (first_or_tail x xs c has) [
  | inl e ↦ subst (λ n. Contains (reverse xs ++ x ∷ []) n) e (Contains-push (reverse xs) x)
  | inr h ↦ Contains-append_left (reverse xs) (x ∷ []) c (into_reverse xs c h)
])

pub sum_reverse : (w : ℕ → ℕ) (xs : List ℕ) → sum_by w (reverse xs) ≡ sum_by w xs
sum_reverse w [] = refl
sum_reverse w (x ∷ xs) = ap (sum_by w) (reverse-cons x xs) ∙ sum_by_push w (reverse xs) x ∙ omega (arith, sum_reverse w xs, sum_by-cons w x xs)
