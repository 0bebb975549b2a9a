-- A text that grows.
use Rattle.std.proofs.Common.{◌≡◌, ℕ, ◌<◌, ◌+◌, List, [], ◌∷◌, ◌++◌, append_assoc, append-nil, length, map, take, get_or, refl, sym, ap, ◌∙◌}
use Rattle.std.specs.List.{flat_map, range_with_len}
use Rattle.std.proofs.lemmas.Grind.{flat_map-append}
use Rattle.std.proofs.lemmas.List.{take_more}
use Rattle.std.proofs.lemmas.List.FromFn.{map-range_with_len_more}

-- one piece behind another
pub more : (a : List ℕ) {b c : List ℕ} (x y : List ℕ) → b ≡ a ++ x → c ≡ b ++ y → c ≡ a ++ (x ++ y)
more a {b} {c} x y e f = f ∙ ap (λ t. t ++ y) e ∙ append_assoc a x y

-- the piece of one element more
one_more : {X : Type 0} (piece : X → List ℕ) (xs ys : List X) (x : X) (a b c : List ℕ) → ys ≡ xs ++ (x ∷ []) → b ≡ a ++ flat_map piece xs → c ≡ b ++ piece x →
    c ≡ a ++ flat_map piece ys
one_more piece xs ys x a b c grown old step =
    let whole = flat_map-append piece xs (x ∷ []) ∙ ap (λ t. flat_map piece xs ++ t) (append-nil (piece x)) in
    more a (flat_map piece xs) (piece x) old step ∙ ap (λ t. a ++ t) (sym whole ∙ ap (flat_map piece) (sym grown))

-- the piece of one element of a list more
pub element_more : {X : Type 0} (piece : X → List ℕ) (xs : List X) (k : ℕ) (x : X) (a b c : List ℕ) → k < length xs → x ≡ get_or xs k x → b ≡ a ++ flat_map piece (take k xs) →
    c ≡ b ++ piece x → c ≡ a ++ flat_map piece (take (k + 1) xs)
element_more piece xs k x a b c lt here old step =
    one_more piece (take k xs) (take (k + 1) xs) x a b c (take_more xs k x lt ∙ ap (λ y. take k xs ++ (y ∷ [])) (sym here)) old step

map_same : (xs : List ℕ) → map (λ x. x) xs ≡ xs
map_same [] = refl
map_same (x ∷ xs) = ap (λ ys. x ∷ ys) (map_same xs)

range_more : (first n k : ℕ) → first + n ≡ k → range_with_len first (n + 1) ≡ range_with_len first n ++ (k ∷ [])
range_more first n k e =
    sym (map_same (range_with_len first (n + 1))) ∙ map-range_with_len_more (λ x. x) first n k e ∙ ap (λ xs. xs ++ (k ∷ [])) (map_same (range_with_len first n))

-- the piece of one number more
pub number_more : (piece : ℕ → List ℕ) (first n k : ℕ) (a b c : List ℕ) → first + n ≡ k → b ≡ a ++ flat_map piece (range_with_len first n) → c ≡ b ++ piece k →
    c ≡ a ++ flat_map piece (range_with_len first (n + 1))
number_more piece first n k a b c e old step =
    one_more piece (range_with_len first n) (range_with_len first (n + 1)) k a b c (range_more first n k e) old step
