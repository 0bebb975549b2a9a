-- The search for a step.
use Rattle.std.proofs.Common.{◌≡◌, ℕ, ◌<◌, ◌≤◌, ◌+◌, ◌*◌, ◌^◌, leb, true, false, suc, ap, refl, ◌∙◌, arith}
use Rattle.std.proofs.Math.Nat.{pow-succ'}
use Rattle.std.proofs.lemmas.Bool.Decides.{nat_tests}
use Rattle.picture.specs.Ticks.{step_from}

pub found_one : (k power count : ℕ) → count ≤ 6 * power → step_from (suc k) power count ≡ power
unfolding step_from
found_one k power count le = let e : leb count (6 * power) ≡ true = grind (arith, nat_tests) in rw e refl

pub found_two : (k power count : ℕ) → 6 * power < count → count ≤ 12 * power → step_from (suc k) power count ≡ 2 * power
unfolding step_from
found_two k power count lt le =
    let d : leb count (6 * power) ≡ false = grind (arith, nat_tests) in
    let e : leb count (12 * power) ≡ true = grind (arith, nat_tests) in
    rw (d, e) refl

pub found_five : (k power count : ℕ) → 12 * power < count → count ≤ 30 * power → step_from (suc k) power count ≡ 5 * power
unfolding step_from
found_five k power count lt le =
    let d : leb count (6 * power) ≡ false = grind (arith, nat_tests) in
    let e : leb count (12 * power) ≡ false = grind (arith, nat_tests) in
    let f : leb count (30 * power) ≡ true = grind (arith, nat_tests) in
    rw (d, e, f) refl

pub goes_on : (k power count : ℕ) → 30 * power < count → step_from (suc k) power count ≡ step_from k (power * 10) count
unfolding step_from
goes_on k power count lt =
    let d : leb count (6 * power) ≡ false = grind (arith, nat_tests) in
    let e : leb count (12 * power) ≡ false = grind (arith, nat_tests) in
    let f : leb count (30 * power) ≡ false = grind (arith, nat_tests) in
    rw (d, e, f) refl

pub ended : (power count : ℕ) → step_from 0 power count ≡ power
unfolding step_from
ended power count = refl

one_more_is : (n : ℕ) → n + 1 ≡ suc n
one_more_is n = omega arith

times_ten : (p : ℕ) → 10 * p ≡ p * 10
times_ten p = omega arith

pub pow_more : (n : ℕ) → 10 ^ (n + 1) ≡ 10 ^ n * 10
pow_more n = ap (λ k. 10 ^ k) (one_more_is n) ∙ (pow-succ' 10 n ∙ times_ten (10 ^ n))
