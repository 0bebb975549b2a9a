-- Lists of neighbouring numbers, one number longer.
use Rattle.std.proofs.Common.{◌≡◌, ℕ, ◌+◌, [], ◌∷◌, ◌++◌, List, ap, ◌∙◌, arith, zero, suc}
use Rattle.std.specs.List.{range_with_len}

-- the list grows at its head
range_suc : (a n : ℕ) → range_with_len a (n + 1) ≡ a ∷ range_with_len (a + 1) n
range_suc a n = let e : n + 1 ≡ suc n = omega arith in ap (range_with_len a) e

-- and at its end
pub range_more : (a n j : ℕ) → a + n ≡ j → range_with_len a (n + 1) ≡ range_with_len a n ++ j ∷ []
range_more a zero j e = let h : a ≡ j = omega (arith, e) in ap (λ (x : ℕ). x ∷ []) h
range_more a (suc n) j e =
    range_suc a (suc n) ∙ ap (λ (xs : List ℕ). a ∷ xs) ((let s : suc n ≡ n + 1 = omega arith in ap (range_with_len (a + 1)) s) ∙ range_more (a + 1) n j (omega (arith, e)))
