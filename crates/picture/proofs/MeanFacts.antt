-- Where means lie.
use Rattle.std.proofs.Common.{◌≡◌, ℕ, ◌*◌, ◌-◌, ◌/◌, ◌^◌, ◌<◌, ◌≤◌, true, leb, leb-true, ltb, ltb-true, arith}
use Rattle.std.specs.Prelude.{◌&&◌}
use Rattle.std.proofs.Math.Nat.{div-le_of_le-mul, mul_comm, mul-sub}
use Rattle.std.proofs.lemmas.Nat.{mul-lt}
use Rattle.picture.proofs.ColourFacts.{both}

-- slots times a weight
pub product_small : (slots weight : ℕ) → slots ≤ 2199023255551 → weight < 2 ^ 64 → slots * weight < 2 ^ 105
product_small slots weight few small = omega (arith, mul-lt slots weight 2199023255552 18446744073709551616 (omega arith) (omega arith))

-- the slots of a window times a weight
window_product : (before last weight : ℕ) → (last - before) * weight ≡ last * weight - before * weight
window_product before last weight =
    omega (arith, mul_comm (last - before) weight, mul-sub weight last before, mul_comm weight last, mul_comm weight before)

-- a mean in the window lies over the curve
pub x_small : (before last weight total : ℕ) → total ≤ last * weight → (total - before * weight) * 720 / ((last - before) * weight) ≤ 720
x_small before last weight total upto =
    div-le_of_le-mul ((last - before) * weight) (omega (arith, window_product before last weight))

-- what the test of a window says
pub record LiesInWindow (before last weight total : ℕ) : Type 0 where
  pub some : 0 < weight
  pub from : before * weight ≤ total
  pub upto : total ≤ last * weight

pub in_window : (before last weight total : ℕ) → (ltb 0 weight && leb (before * weight) total && leb total (last * weight)) ≡ true → LiesInWindow before last weight total
in_window before last weight total e =
    let (front, upto) = both (ltb 0 weight && leb (before * weight) total) (leb total (last * weight)) e in
    let (some, from) = both (ltb 0 weight) (leb (before * weight) total) front in
    record { some = ltb-true 0 weight some; from = leb-true (before * weight) total from; upto = leb-true total (last * weight) upto }
