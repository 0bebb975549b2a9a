-- One draw more.
use Rattle.std.proofs.Common.{◌≡◌, ℕ, suc, ◌+◌, ◌*◌, List, [], ◌∷◌, ◌++◌, map, arith, ap, zero-add, refl}
use Rattle.std.specs.List.{range_with_len}
use Rattle.std.proofs.lemmas.List.FromFn.{map-range_with_len_more}
use Rattle.workload.specs.Draws.{after, next}

pub after_more : (n x : ℕ) → after (n + 1) x ≡ next (after n x)
after_more n x = let e : n + 1 ≡ suc n = omega arith in ap (λ k. after k x) e

pub after_two : (n x : ℕ) → after (2 * (n + 1)) x ≡ next (next (after (2 * n) x))
after_two n x = let e : 2 * (n + 1) ≡ suc (suc (2 * n)) = omega arith in ap (λ k. after k x) e

-- what is made from the index k is the next element
pub element_more : {X : Type 0} (f : ℕ → X) (k : ℕ) (x : X) (old new : List X) → old ≡ map f (range_with_len 0 k) → new ≡ old ++ (x ∷ []) → x ≡ f k →
    new ≡ map f (range_with_len 0 (k + 1))
element_more f k x old new before step here = rw (step, before, here, map-range_with_len_more f 0 k k (zero-add k)) refl
