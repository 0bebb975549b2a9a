-- Summaries of numbers.
use Rattle.std.specs.Prelude.{◌≡◌, ℕ, List, [], Option, Some, None, length, sum}
use Rattle.coflow_stats.specs.declared.value.Ranks.{Ranks}
use Rattle.coflow_stats.specs.declared.value.Summary.{Summary}
use Rattle.coflow_stats.specs.Percentile.{IsPercentile}

-- the numbers at 50, 95 and 99 per cent of the list
pub record IsRanks (xs : List ℕ) (r : Ranks) : Type 0 where
  pub median : IsPercentile 50 xs r.median
  pub p95 : IsPercentile 95 xs r.p95
  pub p99 : IsPercentile 99 xs r.p99

-- the ranks of a list, which an empty list has not
abbrev pub AreRanks : List ℕ → Option Ranks → Type 0
AreRanks xs None = xs ≡ []
AreRanks xs (Some r) = IsRanks xs r

-- how many numbers there are, their sum and their ranks
pub record IsSummary (xs : List ℕ) (s : Summary) : Type 0 where
  pub count_is : s.count ≡ length xs
  pub total_is : s.total ≡ sum xs
  pub ranks_are : AreRanks xs s.ranks
