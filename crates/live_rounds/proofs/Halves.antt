-- Two parts of lists, side by side.
use Rattle.std.proofs.Common.{◌≡◌, List, [], ◌∷◌, ◌++◌, sym, subst}
use Rattle.live_rounds.specs.Parts.{Each}

each_append : {A B : Type 0} (R : A → A → B → B → Type 0) (aas bs : List A) (cs ds : List A) (xs ys us vs : List B) → Each R aas bs xs ys → Each R cs ds us vs → Each R
    (aas ++ cs) (bs ++ ds) (xs ++ us) (ys ++ vs)
each_append R [] [] cs ds [] [] us vs h k = k
each_append R (a ∷ aas) (b ∷ bs) cs ds (x ∷ xs) (y ∷ ys) us vs h k = (h.0, each_append R aas bs cs ds xs ys us vs h.1 k)
each_append R [] (b ∷ bs) cs ds xs ys us vs h k = absurd h
each_append R [] [] cs ds (x ∷ xs) ys us vs h k = absurd h
each_append R [] [] cs ds [] (y ∷ ys) us vs h k = absurd h
each_append R (a ∷ aas) [] cs ds xs ys us vs h k = absurd h
each_append R (a ∷ aas) (b ∷ bs) cs ds [] ys us vs h k = absurd h
each_append R (a ∷ aas) (b ∷ bs) cs ds (x ∷ xs) [] us vs h k = absurd h

pub each_halves : {A B : Type 0} (R : A → A → B → B → Type 0) (ss : List A) (ws : List B) (a a' b b' : List A) (x x' y y' : List B) → ss ≡ a ++ b → ws ≡ x ++ y → Each R a a' x
    x' → Each R b b' y y' → Each R ss (a' ++ b') ws (x' ++ y')
each_halves {A} {B} R ss ws a a' b b' x x' y y' p q h k = subst (λ (z : List A × List B). Each R z.0 (a' ++ b') z.1 (x' ++ y')) (λ i. (sym p i, sym q i))
    (each_append R a a' b b' x x' y y' h k)
