-- The lines of pulls, client by client.
use Rattle.std.proofs.Common.{◌≡◌, ℕ, ◌+◌, List, ◌++◌, flat_map, sym, ap, ◌∙◌, arith, append-nil, append_assoc, suc, zero}
use Rattle.std.specs.List.{range_with_len}
use Rattle.live_text.specs.declared.value.PullLine.{PullLine}

-- one client more
range_more : (f : ℕ → List PullLine) (a n : ℕ) → flat_map f (range_with_len a (n + 1)) ≡ flat_map f (range_with_len a n) ++ f (a + n)
range_more f a zero = let e : a ≡ a + 0 = omega arith in append-nil (f a) ∙ ap f e
range_more f a (suc n) =
    let e : a + 1 + n ≡ a + suc n = omega arith in
    let long : suc n + 1 ≡ suc (n + 1) = omega arith in
    ap (λ m. flat_map f (range_with_len a m)) long ∙ ap (λ l. f a ++ l) (range_more f (a + 1) n) ∙ sym (append_assoc (f a) (flat_map f (range_with_len (a + 1) n)) (f (a + 1 + n)))
    ∙ ap (λ m. flat_map f (range_with_len a (suc n)) ++ f m) e

pub clients_next : (f : ℕ → List PullLine) (n : ℕ) (now next : List PullLine) → now ≡ flat_map f (range_with_len 1 n) → next ≡ now ++ f (n + 1) →
    next ≡ flat_map f (range_with_len 1 (n + 1))
clients_next f n now next had goes =
    let e : n + 1 ≡ 1 + n = omega arith in
    goes ∙ (λ i. had i ++ f (e i)) ∙ sym (range_more f 1 n)
