-- Lists that stand in a strict order are equal where they have the same members.
use Rattle.std.proofs.Common.{◌≡◌, inl, inr, List, [], ◌∷◌, Contains, refl, sym, ap, subst, ◌∙◌, arith, suc}
use Rattle.std.specs.Prelude.{All, AllPairs}
use Rattle.coflow_units.proofs.Sums.{first_or_tail, in_first, in_tail, nothing_in}

pub tail_pairs : {X : Type 0} (R : X → X → Type 0) (x : X) (xs : List X) → AllPairs R (x ∷ xs) → AllPairs R xs
tail_pairs R x xs pairs i j d lt within = pairs (suc i) (suc j) d (omega arith) (omega arith)

pub first_pairs : {X : Type 0} (R : X → X → Type 0) (x : X) (xs : List X) (y : X) → AllPairs R (x ∷ xs) → Contains xs y → R x y
first_pairs R x xs y pairs has =
    let (k, lt, is) = has in
    subst (λ z. R x z) is (pairs 0 (suc k) y (omega arith) (omega arith))

-- the order puts no two members that meet the fact before one another
abbrev pub IsStrict : {X : Type 0} → (X → X → Type 0) → (X → Type 0) → Type 0
IsStrict {X} R P = (x y : X) → P x → P y → R x y → R y x → ⊥

same_first : {X : Type 0} (R : X → X → Type 0) (P : X → Type 0) (x y : X) (xs ys : List X) → IsStrict R P → P x → P y → AllPairs R (x ∷ xs) → AllPairs R (y ∷ ys) →
    Contains (y ∷ ys) x → Contains (x ∷ xs) y → x ≡ y
same_first R P x y xs ys strict px py rx ry x_in y_in = elim (first_or_tail y ys x x_in) [
  | inl e ↦ sym e
  | inr x_later ↦ elim (first_or_tail x xs y y_in) [
    | inl e ↦ e
    | inr y_later ↦ absurd (strict x y px py (first_pairs R x xs y rx y_later) (first_pairs R y ys x ry x_later))
  ]
]

in_tails : {X : Type 0} (R : X → X → Type 0) (P : X → Type 0) (x y z : X) (xs ys : List X) → IsStrict R P → P x → AllPairs R (x ∷ xs) → x ≡ y → Contains xs z →
    Contains (y ∷ ys) z → Contains ys z
in_tails R P x y z xs ys strict px rx same has other = elim (first_or_tail y ys z other) [
  | inl e ↦
      let itself : R x x = subst (λ w. R x w) (sym (same ∙ e)) (first_pairs R x xs z rx has) in
      absurd (strict x x px px itself itself)
  | inr later ↦ later
]

pub one_list : {X : Type 0} (R : X → X → Type 0) (P : X → Type 0) (a b : List X) → IsStrict R P → All P a → All P b → AllPairs R a → AllPairs R b →
    ((x : X) → Contains a x → Contains b x) → ((x : X) → Contains b x → Contains a x) → a ≡ b
one_list R P [] [] strict pa pb ra rb to from = refl
one_list R P [] (y ∷ ys) strict pa pb ra rb to from = absurd (nothing_in y (from y (in_first y ys)))
one_list R P (x ∷ xs) [] strict pa pb ra rb to from = absurd (nothing_in x (to x (in_first x xs)))
one_list {X} R P (x ∷ xs) (y ∷ ys) strict pa pb ra rb to from =
    let px : P x = pa 0 x (omega arith) in
    let py : P y = pb 0 y (omega arith) in
    let same : x ≡ y = same_first R P x y xs ys strict px py ra rb (to x (in_first x xs)) (from y (in_first y ys)) in
    let rest : xs ≡ ys =
    one_list R P xs ys strict (λ k d lt. pa (suc k) d (omega arith)) (λ k d lt. pb (suc k) d (omega arith)) (tail_pairs R x xs ra) (tail_pairs R y ys rb)
    (λ z has. in_tails R P x y z xs ys strict px ra same has (to z (in_tail x xs z has)))
    (λ z has. in_tails R P y x z ys xs strict py rb (sym same) has (from z (in_tail y ys z has))) in
    ap {B = List X} (λ l. x ∷ l) rest ∙ ap {B = List X} (λ z. z ∷ ys) same
