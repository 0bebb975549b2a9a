-- The front of a list, and where an element stands.
use Rattle.std.proofs.Common.{◌≡◌, ℕ, ◌≤◌, List, ◌∷◌, ◌++◌, None, Some, Bool, true, false, not, ltb, length, take, drop, position, refl, ◌∙◌, arith}
use Rattle.std.proofs.lemmas.Grind.{common_steps}
use Rattle.std.proofs.lemmas.Bool.Decides.{nat_tests}
use Rattle.std.proofs.lemmas.List.Sums.{prefix_len-le-length}
use Rattle.std.specs.List.{position_or_len}

pub front_again : (n : ℕ) (front old : List ℕ) → length front ≡ n → take n (front ++ drop n old) ≡ front
front_again n front old e = grind (arith, common_steps, e)

pub written_back : {X : Type 0} (n : ℕ) (new old : List X) → length new ≡ n → take n (new ++ drop (length new) old) ≡ new
written_back n new old e = grind (arith, common_steps, e)

pub head_of : (h k : List ℕ) (x y : List (List ℕ)) → h ∷ x ≡ k ∷ y → h ≡ k
head_of h k x y e = cc

-- where no element is such a one, the place of the first is the length
pub none_length : {X : Type 0} (p : X → Bool) (xs : List X) → None ≡ position p xs → length xs ≡ position_or_len p xs
none_length p xs none =
    let le : position_or_len p xs ≤ length xs = prefix_len-le-length (λ x. not (p x)) xs in
    go (ltb (position_or_len p xs) (length xs)) refl le
  where
    go : (b : Bool) → ltb (position_or_len p xs) (length xs) ≡ b → position_or_len p xs ≤ length xs → length xs ≡ position_or_len p xs
    go true e le = let bad : None ≡ Some (position_or_len p xs) = none ∙ rw e refl in cc
    go false e le = grind (arith, nat_tests)
