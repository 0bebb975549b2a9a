-- The text of the numbers of a schedule, line by line.
use Rattle.std.specs.Prelude.{ℕ, ◌*◌, ◌-◌, ◌/◌, ◌%◌, ◌++◌, suc, zero, List, [], ◌∷◌, Option, Some, None, codes, decimal}
use Rattle.std.specs.Int.{div_ceil}
use Rattle.coflow_units.specs.Text.{spaced, text_of}
use Rattle.coflow_stats.specs.declared.value.Group.{Group}
use Rattle.coflow_stats.specs.declared.value.Group.TheVariants.{ShortNarrow, LongNarrow, ShortWide, LongWide}
use Rattle.coflow_stats.specs.declared.value.Ranks.{Ranks}
use Rattle.coflow_stats.specs.declared.value.Stats.{Stats}
use Rattle.coflow_stats.specs.declared.value.Summary.{Summary}
use Rattle.coflow_stats.specs.Groups.{group_word}
use Rattle.coflow_stats.specs.Stats.{summary_in}

-- ---- numbers with digits behind a point

-- the last three digits of a number, with zeros in front
abbrev pub last_three : ℕ → List ℕ
last_three n = decimal (n / 100 % 10) ++ decimal (n / 10 % 10) ++ decimal (n % 10)

-- a number of thousandths
abbrev pub of_thousandths : ℕ → List ℕ
of_thousandths n = decimal (n / 1000) ++ codes "." ++ last_three n

-- a number of ten-thousandths
abbrev pub of_ten_thousandths : ℕ → List ℕ
of_ten_thousandths n = decimal (n / 10000) ++ codes "." ++ decimal (n / 1000 % 10) ++ last_three n

-- the ten-thousandths of cost by bound, rounded up
abbrev pub ten_thousandths : ℕ → ℕ → ℕ
ten_thousandths cost bound = div_ceil (10000 * cost) bound

-- cost by bound, and a hyphen where the bound is 0, which says nothing of it
abbrev pub ratio_words : ℕ → ℕ → List ℕ
ratio_words cost zero = codes " -"
ratio_words cost (suc b) = codes " " ++ of_ten_thousandths (ten_thousandths cost (suc b))

-- ---- the lines

-- how many coflows there are, and what the schedule costs
abbrev pub cost_lines : Stats → List (List ℕ)
cost_lines s = (codes "coflows" ++ spaced s.all.count) ∷ (codes "bound" ++ spaced s.bound) ∷
    (codes "cost" ++ spaced s.cost) ∷ (codes "ratio" ++ ratio_words s.cost s.bound) ∷ []

-- what arrivals cost any schedule, and bound and cost less that; a plan has none of it
abbrev pub net_lines : ℕ → ℕ → Option ℕ → List (List ℕ)
net_lines bound cost None = []
net_lines bound cost (Some arrivals) = (codes "arrivals" ++ spaced arrivals) ∷
    (codes "net-bound" ++ spaced (bound - arrivals)) ∷ (codes "net-cost" ++ spaced (cost - arrivals)) ∷
    (codes "net-ratio" ++ ratio_words (cost - arrivals) (bound - arrivals)) ∷ []

-- the thousandths of the mean of so many numbers with this sum, each taken so many times, rounded down
abbrev pub mean : ℕ → ℕ → ℕ → ℕ
mean times total count = 1000 * total * times / count

-- the mean and the ranks, where there are any, of numbers each taken so many times
abbrev pub figures : ℕ → ℕ → ℕ → Option Ranks → List ℕ
figures times total count None = []
figures times total count (Some r) = codes " mean " ++ of_thousandths (mean times total count) ++
    codes " median" ++ spaced (r.median * times) ++ codes " p95" ++ spaced (r.p95 * times) ++
    codes " p99" ++ spaced (r.p99 * times)

-- the line of a summary: its measure, whose it is, how many numbers there are, and their mean and ranks
abbrev pub summary_line : List ℕ → List ℕ → ℕ → Summary → List ℕ
summary_line measure name times s = measure ++ codes " " ++ name ++ spaced s.count ++
    figures times s.total s.count s.ranks

-- the line of a group
abbrev pub group_line : List ℕ → ℕ → Stats → Group → List ℕ
group_line measure times s group = summary_line measure (group_word group) times (summary_in s group)

-- the lines of all coflows and of each group
abbrev pub summary_lines : List ℕ → ℕ → Stats → List (List ℕ)
summary_lines measure times s = summary_line measure (codes "all") times s.all ∷
    group_line measure times s ShortNarrow ∷ group_line measure times s LongNarrow ∷
    group_line measure times s ShortWide ∷ group_line measure times s LongWide ∷ []

-- the same in milliseconds, where those of a slot are given
abbrev pub ms_lines : Stats → Option ℕ → List (List ℕ)
ms_lines s None = []
ms_lines s (Some ms) = summary_lines (codes "ms") ms s

-- the lines of the numbers of a schedule
abbrev pub stats_lines : Stats → Option ℕ → List (List ℕ)
stats_lines s slot_ms = (codes "sincronia stats 1" ∷ []) ++ cost_lines s ++ net_lines s.bound s.cost s.arrivals ++
    ((codes "makespan" ++ spaced s.makespan) ∷ []) ++ summary_lines (codes "slots") 1 s ++ ms_lines s slot_ms ++
    (codes "end" ∷ [])

-- the text of the numbers of a schedule
abbrev pub stats_text : Stats → Option ℕ → List ℕ
stats_text s slot_ms = text_of (stats_lines s slot_ms)
