-- Sums over places, counted from the first place on.
use Rattle.std.proofs.Common.{◌≡◌, ℕ, ◌+◌, ◌*◌, ◌<◌, Bool, List, [], ◌∷◌, ◌++◌, map, reverse, length, get_or, refl, sym, ap, ◌∙◌, arith, zero, suc, length-append, true, false, ap₂}
use Rattle.std.specs.Prelude.{sum_by, ◌==◌, ◌||◌, if◌then◌else◌}
use Rattle.std.specs.List.{list_any, range_with_len}
use Rattle.std.proofs.lemmas.List.{take_all, take-append-le, reverse-append, reverse-reverse}
use Rattle.coflow_units.specs.declared.fabric.Flow.{Flow}
use Rattle.coflow_units.specs.declared.fabric.Side.TheVariants.{Ingress}
use Rattle.coflow_units.specs.Load.{load, load_of_all, squares_of_loads}
use Rattle.coflow_units.specs.Certificate.{Entry, front, used, dual_value, over_places, first_coflows, by_number, used_by_number, dual_value_by_number, over_places_by_number}
use Rattle.coflow_units.proofs.Lists.{reverse-cons, sum_reverse, range_more, number_below}
use Rattle.coflow_units.proofs.Sums.{sum_same}

abbrev blank : Entry
blank = record { coflow = 0; port = record { side = Ingress; number = 0 }; y = 0 }

map_push : (xs : List Entry) (e : Entry) → map (λ (x : Entry). x.coflow) (xs ++ e ∷ []) ≡ map (λ (x : Entry). x.coflow) xs ++ e.coflow ∷ []
map_push [] e = refl
map_push (x ∷ xs) e = ap (λ l. x.coflow ∷ l) (map_push xs e)

front_reverse : (l : List Entry) → map (λ (x : Entry). x.coflow) (reverse l) ≡ reverse (front l)
front_reverse [] = refl
front_reverse (e ∷ l) = ap (map (λ (x : Entry). x.coflow)) (reverse-append (e ∷ []) l) ∙ map_push (reverse l) e ∙ ap (λ xs. xs ++ e.coflow ∷ []) (front_reverse l) ∙
    sym (reverse-cons e.coflow (front l))

get_front : (xs : List Entry) (e : Entry) (k : ℕ) → k < length xs → get_or (xs ++ e ∷ []) k blank ≡ get_or xs k blank
get_front [] e k lt = absurd (omega arith)
get_front (x ∷ xs) e zero lt = refl
get_front (x ∷ xs) e (suc k) lt = get_front xs e k (omega arith)

get_last : (xs : List Entry) (e : Entry) → get_or (xs ++ e ∷ []) (length xs) blank ≡ e
get_last [] e = refl
get_last (x ∷ xs) e = get_last xs e

below_same : (term : Entry → List ℕ → ℕ) (xs : List Entry) (e : Entry) (k : ℕ) → k < length xs →
    term (get_or (xs ++ e ∷ []) k blank) (first_coflows (k + 1) (xs ++ e ∷ [])) ≡ term (get_or xs k blank) (first_coflows (k + 1) xs)
below_same term xs e k lt =
    ap (λ x. term x (first_coflows (k + 1) (xs ++ e ∷ []))) (get_front xs e k lt)
    ∙ ap (λ l. term (get_or xs k blank) (map (λ (x : Entry). x.coflow) l)) (take-append-le (k + 1) xs (e ∷ []) (omega arith))

-- one more place at the end
number_push : (term : Entry → List ℕ → ℕ) (xs : List Entry) (e : Entry) → by_number term (xs ++ e ∷ []) ≡ term e (first_coflows (length xs + 1) (xs ++ e ∷ [])) + by_number term xs
number_push term xs e =
    let n = length xs in
    let long : length (xs ++ e ∷ []) ≡ suc n = omega (arith, length-append xs (e ∷ [])) in
    let w = λ (k : ℕ). term (get_or (xs ++ e ∷ []) k blank) (first_coflows (k + 1) (xs ++ e ∷ [])) in
    let same = sum_same w (λ k. term (get_or xs k blank) (first_coflows (k + 1) xs)) (range_with_len 0 n)
    (λ k has. below_same term xs e k (omega (arith, number_below 0 n k has))) in
    let place : 0 + n ≡ n = omega arith in
    let last : w (0 + n) ≡ term e (first_coflows (n + 1) (xs ++ e ∷ [])) = ap w place ∙ ap (λ x. term x (first_coflows (n + 1) (xs ++ e ∷ []))) (get_last xs e) in
    ap (λ m. sum_by w (range_with_len 0 m)) long ∙ range_more w 0 n ∙ omega (arith, same, last)

whole_front : (l : List Entry) (e : Entry) → first_coflows (length (reverse l) + 1) (reverse l ++ e ∷ []) ≡ reverse (front (e ∷ l))
whole_front l e =
    ap (map (λ (x : Entry). x.coflow)) (take_all (length (reverse l) + 1) (reverse l ++ e ∷ []) (omega (arith, length-append (reverse l) (e ∷ []))))
    ∙ ap (map (λ (x : Entry). x.coflow)) (sym (reverse-append (e ∷ []) l)) ∙ front_reverse (e ∷ l)

-- a sum over the tails of a list of entries, last place first, is the sum over the numbers of its places
record IsOverTails (term : Entry → List ℕ → ℕ) (sum_of : List Entry → ℕ) : Type 0 where
  pub none : sum_of [] ≡ 0
  pub more : (e : Entry) (l : List Entry) → sum_of (e ∷ l) ≡ term e (front (e ∷ l)) + sum_of l
  pub turned : (e : Entry) (xs : List ℕ) → term e (reverse xs) ≡ term e xs

over_tails : (term : Entry → List ℕ → ℕ) (sum_of : List Entry → ℕ) → IsOverTails term sum_of → (l : List Entry) → sum_of l ≡ by_number term (reverse l)
over_tails term sum_of is [] = is.none
over_tails term sum_of is (e ∷ l) =
    ap (λ n. n) (is.more e l)
    ∙ omega (
      arith,
      over_tails term sum_of is l,
      number_push term (reverse l) e,
      ap (term e) (whole_front l e),
      is.turned e (front (e ∷ l)),
      ap (by_number term) (reverse-append (e ∷ []) l),
    )

or_turn : (a b c : Bool) → (a || (b || c)) ≡ (b || (a || c))
or_turn true true c = refl
or_turn true false c = refl
or_turn false true c = refl
or_turn false false c = refl

any_push : (c x : ℕ) (xs : List ℕ) → list_any (λ d. d == c) (xs ++ x ∷ []) ≡ ((x == c) || list_any (λ d. d == c) xs)
any_push c x [] = refl
any_push c x (y ∷ ys) = ap (λ b. (y == c) || b) (any_push c x ys) ∙ or_turn (y == c) (x == c) (list_any (λ d. d == c) ys)

any_reverse : (c : ℕ) (xs : List ℕ) → list_any (λ d. d == c) (reverse xs) ≡ list_any (λ d. d == c) xs
any_reverse c [] = refl
any_reverse c (x ∷ xs) = ap (list_any (λ d. d == c)) (reverse-cons x xs) ∙ any_push c x (reverse xs) ∙ ap (λ b. (x == c) || b) (any_reverse c xs)

pub used_numbered : (flows : List Flow) (places : List Entry) (c : ℕ) → used flows (reverse places) c ≡ used_by_number flows places c
used_numbered flows places c =
    over_tails (λ (e : Entry) (up_to : List ℕ). if list_any (λ d. d == c) up_to then e.y * load flows c e.port else 0) (λ l. used flows l c)
    (record { none = refl; more = λ e l. refl; turned = λ e xs. ap {B = ℕ} (λ b. if b then e.y * load flows c e.port else 0) (any_reverse c xs) }) (reverse places)
    ∙ ap (λ l. used_by_number flows l c) (reverse-reverse places)

pub dual_value_numbered : (flows : List Flow) (places : List Entry) → dual_value flows (reverse places) ≡ dual_value_by_number flows places
dual_value_numbered flows places =
    over_tails (λ (e : Entry) (up_to : List ℕ). e.y * (load_of_all flows up_to e.port * load_of_all flows up_to e.port + squares_of_loads flows up_to e.port)) (dual_value flows)
    (record {
      none = refl;
      more = λ e l. refl;
      turned = λ e xs. ap₂ (λ a b. e.y * (a * a + b)) (sum_reverse (λ c. load flows c e.port) xs) (sum_reverse (λ c. load flows c e.port * load flows c e.port) xs);
    })
    (reverse places)
    ∙ ap (dual_value_by_number flows) (reverse-reverse places)

pub over_places_numbered : (flows : List Flow) (number : ℕ → ℕ) (places : List Entry) → over_places flows number (reverse places) ≡ over_places_by_number flows number places
over_places_numbered flows number places =
    over_tails (λ (e : Entry) (up_to : List ℕ). number e.coflow * load_of_all flows up_to e.port) (over_places flows number)
    (record { none = refl; more = λ e l. refl; turned = λ e xs. ap (λ n. number e.coflow * n) (sum_reverse (λ c. load flows c e.port) xs) }) (reverse places)
    ∙ ap (over_places_by_number flows number) (reverse-reverse places)

pub order_numbered : (places : List Entry) → reverse (front (reverse places)) ≡ map (λ (e : Entry). e.coflow) places
order_numbered places = ap reverse (front_reverse places) ∙ reverse-reverse (front places)
