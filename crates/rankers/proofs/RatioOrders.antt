-- Bottlenecks over weights, rounded down in parts, compare as the products do.
use Rattle.std.proofs.Common.{◌≡◌, ℕ, ◌+◌, ◌*◌, ◌/◌, ◌≤◌, ◌<◌, inl, inr, length, get_or, sym, ap, arith}
use Rattle.std.specs.Prelude.{All}
use Rattle.std.proofs.Math.Nat.{div-mul-le_self, le_of_mul-le-mul_right, mul-le-mul_right}
use Rattle.std.proofs.lemmas.Bool.{cases_lt}
use Rattle.std.proofs.lemmas.Bool.Decides.{nat_tests}
use Rattle.std.proofs.lemmas.List.Elements.{Contains-get_or}
use Rattle.std.proofs.lemmas.Nat.{le-div, mul-le}
use Rattle.class_rates.specs.Classes.{ClassBefore}
use Rattle.rankers.specs.ByKey.{by_key}
use Rattle.rankers.specs.FactsTold.{FactsTold, IsFacts, coflows_in}
use Rattle.rankers.specs.Kinds.{GoesByRatio, ratio_in}
use Rattle.rankers.proofs.KeyOrders.{by_key_is, by_key_low}

-- ---- ratios b over v and c over w

-- the lesser one is rounded to fewer parts, where there are as many parts as the product of the weights
less_parts : (parts b c v w : ℕ) → 0 < v → 0 < w → v * w ≤ parts → c * v < b * w → c * parts / w < b * parts / v
less_parts parts b c v w some_v some_w fine less =
    let q : ℕ = c * parts / w in
    let down : q * w * v ≤ c * parts * v = mul-le-mul_right v (div-mul-le_self (c * parts) w) in
    let up : (c * v + 1) * parts ≤ b * w * parts = mul-le-mul_right parts (omega (arith, less)) in
    let times : (q + 1) * v * w ≤ b * parts * w = omega (arith, down, up, fine) in
    omega (arith, le-div (q + 1) (b * parts) v some_v (le_of_mul-le-mul_right times some_w))

-- equal ones are rounded to as many
equal_parts : (parts b c v w : ℕ) → 0 < v → 0 < w → c * v ≡ b * w → c * parts / w ≤ b * parts / v
equal_parts parts b c v w some_v some_w same =
    let q : ℕ = c * parts / w in
    let down : q * w * v ≤ c * parts * v = mul-le-mul_right v (div-mul-le_self (c * parts) w) in
    let times : q * v * w ≤ b * parts * w = omega (arith, down, ap (λ n. n * parts) same) in
    le-div q (b * parts) v some_v (le_of_mul-le-mul_right times some_w)

-- ---- coflows that have weights

ratio_is : (facts : FactsTold) (c : ℕ) → 0 < get_or facts.weights c 0 → ratio_in facts c ≡ get_or facts.bottlenecks c 0 * 18446744073709551616 / get_or facts.weights c 0
ratio_is facts c some = grind (arith, nat_tests)

module _ (facts : FactsTold) (fits : IsFacts facts) (least : All (λ w. 1 ≤ w) facts.weights) where
  some_weight : (c : ℕ) → c < coflows_in facts → 0 < get_or facts.weights c 0
  some_weight c lt = omega (arith, least c 0 lt)

  fine_parts : (c d : ℕ) → c < coflows_in facts → d < coflows_in facts → get_or facts.weights c 0 * get_or facts.weights d 0 ≤ 18446744073709551616
  fine_parts c d lc ld = mul-le (get_or facts.weights c 0) (get_or facts.weights d 0) 4294967296 4294967296 (fits.weight c 0 lc) (fits.weight d 0 ld)

  least_first : (x y : ℕ) → x < coflows_in facts → y < coflows_in facts → ClassBefore (ratio_in facts) x y →
      get_or facts.bottlenecks x 0 * get_or facts.weights y 0 ≤ get_or facts.bottlenecks y 0 * get_or facts.weights x 0
  least_first x y lx ly before = elim (cases_lt (get_or facts.bottlenecks y 0 * get_or facts.weights x 0) (get_or facts.bottlenecks x 0 * get_or facts.weights y 0)) [
    | inl gt ↦
        let less = less_parts 18446744073709551616 (get_or facts.bottlenecks x 0) (get_or facts.bottlenecks y 0) (get_or facts.weights x 0) (get_or facts.weights y 0)
        (some_weight x lx) (some_weight y ly) (fine_parts x y lx ly) gt in
        let at_x = ratio_is facts x (some_weight x lx) in
        let at_y = ratio_is facts y (some_weight y ly) in
        elim before [
          | inl lt ↦ absurd (omega (arith, lt, less, at_x, at_y))
          | inr same ↦ absurd (omega (arith, same.0, less, at_x, at_y))
        ]
    | inr le ↦ le
  ]

  ties_by_number : (x y : ℕ) → x < coflows_in facts → y < coflows_in facts → ClassBefore (ratio_in facts) x y →
      get_or facts.bottlenecks x 0 * get_or facts.weights y 0 ≡ get_or facts.bottlenecks y 0 * get_or facts.weights x 0 → x < y
  ties_by_number x y lx ly before same = elim before [
    | inl lt ↦
        let le = equal_parts 18446744073709551616 (get_or facts.bottlenecks x 0) (get_or facts.bottlenecks y 0) (get_or facts.weights x 0) (get_or facts.weights y 0)
        (some_weight x lx) (some_weight y ly) (sym same) in
        absurd (omega (arith, lt, le, ratio_is facts x (some_weight x lx), ratio_is facts y (some_weight y ly)))
    | inr equal ↦ equal.1
  ]

  pub goes_by_ratio : GoesByRatio facts (by_key (ratio_in facts) (coflows_in facts))
  goes_by_ratio =
      let order = by_key (ratio_in facts) (coflows_in facts) in
      let is = by_key_is (ratio_in facts) (coflows_in facts) in
      let low = λ (k : ℕ) (lt : k < length order). by_key_low (ratio_in facts) (coflows_in facts) (get_or order k 0) (Contains-get_or order k 0 lt) in
      record {
        least = λ k l lt in'. least_first (get_or order k 0) (get_or order l 0) (low k (omega (arith, lt, in'))) (low l in') (is.sorted k l 0 lt in');
        ties = λ k l lt in' same. ties_by_number (get_or order k 0) (get_or order l 0) (low k (omega (arith, lt, in'))) (low l in') (is.sorted k l 0 lt in') same;
      }
