-- The numbers of a schedule.
use Rattle.std.specs.Prelude.{◌≡◌, ℕ, ◌*◌, ◌≤◌, ◌^◌, ◌==◌, Bool, if◌then◌else◌, List, Option, Some, None, OnSome, length, map, sum_by}
use Rattle.coflow_stats.specs.declared.value.Finished.{Finished}
use Rattle.coflow_stats.specs.declared.value.Group.{Group}
use Rattle.coflow_stats.specs.declared.value.Group.TheVariants.{ShortNarrow, LongNarrow, ShortWide, LongWide}
use Rattle.coflow_stats.specs.declared.value.Stats.{Stats}
use Rattle.coflow_stats.specs.declared.value.Summary.{Summary}
use Rattle.coflow_stats.specs.declared.value.Totals.{Totals}
use Rattle.coflow_stats.specs.Groups.{duration, durations_of}
use Rattle.coflow_stats.specs.Summary.{IsSummary}

-- what the arrival of a coflow costs every schedule: its weight times its arrival, and nothing where it has no units
abbrev pub weighted_arrival : Finished → ℕ
weighted_arrival x = if x.units == 0 then 0 else x.weight * x.arrival

-- what arrivals cost every schedule
abbrev pub weighted_arrivals : List Finished → ℕ
weighted_arrivals xs = sum_by weighted_arrival xs

-- the same of an online run; of a plan there is none
abbrev pub arrivals_if : Bool → List Finished → Option ℕ
arrivals_if online xs = if online then Some (weighted_arrivals xs) else None

-- the summary of a group
abbrev pub summary_in : Stats → Group → Summary
summary_in s ShortNarrow = s.short_narrow
summary_in s LongNarrow = s.long_narrow
summary_in s ShortWide = s.short_wide
summary_in s LongWide = s.long_wide

-- the numbers of a schedule with these coflows, where a unit has so many megabytes
pub record IsStats (unit : ℕ) (totals : Totals) (slots : List (List ℕ)) (xs : List Finished) (s : Stats) : Type 0 where
  pub bound_is : s.bound ≡ totals.bound
  pub cost_is : s.cost ≡ totals.cost
  pub arrivals_is : s.arrivals ≡ arrivals_if totals.online xs
  pub makespan_is : s.makespan ≡ length slots
  pub all : IsSummary (map duration xs) s.all
  pub each_group : (group : Group) → IsSummary (durations_of group unit xs) (summary_in s group)

-- the sum is at most 2^80, and where there are ranks there is a number
pub record IsSmall (s : Summary) : Type 0 where
  pub total : s.total ≤ 2 ^ 80
  pub some : OnSome s.ranks (1 ≤ s.count)

-- the cost is at most 2^100, and the summaries are small
pub record IsWritable (s : Stats) : Type 0 where
  pub cost : s.cost ≤ 2 ^ 100
  pub all : IsSmall s.all
  pub each_group : (group : Group) → IsSmall (summary_in s group)
