-- Summaries of a list and of the same list in another order, and sums that fit.
use Rattle.std.proofs.Common.{ℕ, ◌*◌, ◌≤◌, List, length, sym, ap, ◌∙◌, arith}
use Rattle.std.specs.Prelude.{Option, Some, None, filter}
use Rattle.std.specs.List.Sorted.{IsPermutation}
use Rattle.std.proofs.lemmas.List.{length-map, nil_from_length}
use Rattle.std.proofs.lemmas.List.Sorted.{length_permutation}
use Rattle.std.proofs.lemmas.List.Sums.{count_by-le-length, length-filter}
use Rattle.std.proofs.Math.Nat.{mul-le-mul_left}
use Rattle.coflow_stats.specs.declared.value.Finished.{Finished}
use Rattle.coflow_stats.specs.declared.value.Group.{Group}
use Rattle.coflow_stats.specs.declared.value.Ranks.{Ranks}
use Rattle.coflow_stats.specs.Groups.{duration, durations_of, is_in}
use Rattle.coflow_stats.specs.Summary.{AreRanks}
use Rattle.coflow_stats.proofs.RankSteps.{other_order}

pub other_ranks : (xs sorted : List ℕ) (r : Option Ranks) → IsPermutation xs sorted → AreRanks sorted r → AreRanks xs r
other_ranks xs sorted None moved empty = nil_from_length xs (sym (length_permutation xs sorted moved) ∙ ap length empty)
other_ranks xs sorted (Some r) moved are = record {
  median = other_order 50 xs sorted r.median moved are.median;
  p95 = other_order 95 xs sorted r.p95 moved are.p95;
  p99 = other_order 99 xs sorted r.p99 moved are.p99;
}

-- a group has no more durations than there are coflows
pub few_durations : (group : Group) (unit : ℕ) (xs : List Finished) (most : ℕ) → length xs ≤ most → length (durations_of group unit xs) ≤ most
few_durations group unit xs most le =
    omega (arith, le, length-map (filter (is_in group unit) xs) duration, length-filter (is_in group unit) xs, count_by-le-length (is_in group unit) xs)

pub product_below : (a b : ℕ) → a ≤ 4294967296 → b ≤ 18446744073709551615 → a * b ≤ 79228162514264337593543950336
product_below a b ha hb = omega (arith, mul-le-mul_left a hb, ha)
