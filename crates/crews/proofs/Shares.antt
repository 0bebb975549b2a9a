-- Stretches of even length are no longer than a share, and leave no more than the shares of the others.
use Rattle.std.proofs.Common.{◌≡◌, ⊎_elim, ℕ, ◌+◌, ◌-◌, ◌*◌, ◌/◌, ◌<◌, ◌≤◌, min, sym, ap, ◌∙◌, subst, arith}
use Rattle.std.proofs.lemmas.Nat.{mul-le}
use Rattle.std.proofs.Math.Nat.{add-mul, div-le_of_le-mul, lt-div-mul-add, mul-add}
use Rattle.std.proofs.lemmas.Bool.{cases_lt}

module _ (n k m share : ℕ) (parts : m ≡ min n (k + 2)) (two : 2 ≤ m) (enough : n ≤ (k + 2) * share) (some : 1 ≤ share) where
  wide : n ≤ m * share
  wide = ⊎_elim
      (λ (lt : n < k + 2). let is : m ≡ n = omega (arith, parts, lt) in let le = mul-le n 1 n share (omega arith) some in subst (λ z. n ≤ z * share) (sym is) (omega (arith, le)))
      (λ (ge : k + 2 ≤ n). let is : m ≡ k + 2 = omega (arith, parts, ge) in subst (λ z. n ≤ z * share) (sym is) enough)
      (cases_lt n (k + 2))

  -- the last stretch is no longer than a share
  pub last_share : n / m ≤ share
  last_share = div-le_of_le-mul m wide

  -- the last stretch has a port
  pub some_last : 1 ≤ n / m
  some_last = ⊎_elim
      (λ (lt : 0 < n / m). omega (arith, lt))
      (λ (none : n / m ≤ 0).
      let zero_is : n / m ≡ 0 = omega (arith, none) in
      let more : n < n / m * m + m = lt-div-mul-add {a = n} {b = m} (omega (arith, two)) in
      let less : n < 0 * m + m = subst (λ z. n < z * m + m) zero_is more in
      absurd (omega (arith, parts, less)))
      (cases_lt 0 (n / m))

  split : (a b : ℕ) → (a + 1) * b ≡ a * b + b
  split a b = let e = add-mul a 1 b in omega (arith, e)

  -- the others have room at the other stations and with the driver
  pub other_shares : n - n / m ≤ (k + 1) * share
  other_shares =
      let g : ℕ = n / m in
      let low = last_share in
      ⊎_elim
      (λ (lt : g < share).
      let more : n < g * m + m = lt-div-mul-add {a = n} {b = m} (omega (arith, two)) in
      let top : m ≤ k + 2 = omega (arith, parts) in
      let a : g * m + m ≡ (g + 1) * m = sym (split g m) in
      let b : (g + 1) * m ≤ (g + 1) * (k + 2) = mul-le (g + 1) m (g + 1) (k + 2) (omega arith) top in
      let c : (g + 1) * (k + 2) ≡ (g + 1) * (k + 1) + (g + 1) = ap (λ z. (g + 1) * z) (plus) ∙ (mul-add (g + 1) (k + 1) 1 ∙ ap (λ z. (g + 1) * (k + 1) + z) (omega arith)) in
      let d : (g + 1) * (k + 1) ≤ share * (k + 1) = mul-le (g + 1) (k + 1) share (k + 1) (omega (arith, lt)) (omega arith) in
      let e : share * (k + 1) ≡ (k + 1) * share = omega arith in
      omega (arith, more, a, b, c, d, e))
      (λ (ge : share ≤ g).
      let same : g ≡ share = omega (arith, ge, low) in
      let a : (k + 2) * share ≡ (k + 1) * share + share = ap (λ z. z * share) plus ∙ split (k + 1) share in
      omega (arith, same, a, enough))
      (cases_lt g share)
    where
      plus : k + 2 ≡ k + 1 + 1
      plus = omega arith
