-- Totals over all views.
use Rattle.std.proofs.Common.{◌≡◌, ◌≢◌, ℕ, zero, suc, ◌+◌, ◌≤◌, List, [], ◌∷◌, ◌++◌, set, refl, sym, ap, arith}
use mathlib.Core.Option.{some, some-ne-none, some-injective}
use lib.ListN.{get_elem?}
use Rattle.turnstile.specs.Tickets.{total}

module _ {V : Type 0} where
  pub total_set : (f : V → ℕ) (vs : List V) (j : ℕ) (v w : V) → get_elem? vs j ≡ some v → total f (set vs j w) + f v ≡ total f vs + f w
  total_set f [] j v w e = absurd (some-ne-none v (sym e))
  total_set f (x ∷ xs) zero v w e = let same : f x ≡ f v = ap f (some-injective x v e) in omega arith
  total_set f (x ∷ xs) (suc j) v w e = let t = total_set f xs j v w e in omega arith

  pub total_le : (f g : V → ℕ) → ((v : V) → f v ≤ g v) → (vs : List V) → total f vs ≤ total g vs
  total_le f g le [] = omega arith
  total_le f g le (x ∷ xs) = let a = le x in let b = total_le f g le xs in omega arith

  pub total_push : (f : V → ℕ) (vs : List V) (w : V) → total f (vs ++ w ∷ []) ≡ total f vs + f w
  total_push f [] w = omega arith
  total_push f (x ∷ xs) w = let t = total_push f xs w in omega arith

  -- one element counts no more than all
  pub total_here : (f : V → ℕ) (vs : List V) (j : ℕ) (v : V) → get_elem? vs j ≡ some v → f v ≤ total f vs
  total_here f [] j v e = absurd (some-ne-none v (sym e))
  total_here f (x ∷ xs) zero v e = let same : f x ≡ f v = ap f (some-injective x v e) in omega arith
  total_here f (x ∷ xs) (suc j) v e = let t = total_here f xs j v e in omega arith

  -- and so do two at different places
  pub total_two : (f : V → ℕ) (vs : List V) (i j : ℕ) (u v : V) → i ≢ j → get_elem? vs i ≡ some u → get_elem? vs j ≡ some v → f u + f v ≤ total f vs
  total_two f [] i j u v apart a b = absurd (some-ne-none u (sym a))
  total_two f (x ∷ xs) zero zero u v apart a b = absurd (apart refl)
  total_two f (x ∷ xs) zero (suc j) u v apart a b = let e : f x ≡ f u = ap f (some-injective x u a) in let h = total_here f xs j v b in omega arith
  total_two f (x ∷ xs) (suc i) zero u v apart a b = let e : f x ≡ f v = ap f (some-injective x v b) in let h = total_here f xs i u a in omega arith
  total_two f (x ∷ xs) (suc i) (suc j) u v apart a b = let h = total_two f xs i j u v (λ e. apart (ap suc e)) a b in omega arith
