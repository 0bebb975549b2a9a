-- The groups of coflows, and how long a coflow takes.
use Rattle.std.specs.Prelude.{ℕ, ◌*◌, ◌-◌, ◌&&◌, Bool, not, nat_le, nat_lt, if◌then◌else◌, List, codes, filter, map}
use Rattle.coflow_stats.specs.declared.value.Finished.{Finished}
use Rattle.coflow_stats.specs.declared.value.Group.{Group}
use Rattle.coflow_stats.specs.declared.value.Group.TheVariants.{ShortNarrow, LongNarrow, ShortWide, LongWide}

-- the longest flow has less than 5 megabytes, where a unit has so many
abbrev pub is_short : ℕ → Finished → Bool
is_short unit x = nat_lt (x.longest * unit) 5

-- there are at most 50 flows
abbrev pub is_narrow : Finished → Bool
is_narrow x = nat_le x.flows 50

-- the coflow is of the group
abbrev pub is_in : Group → ℕ → Finished → Bool
is_in ShortNarrow unit x = is_short unit x && is_narrow x
is_in LongNarrow unit x = not (is_short unit x) && is_narrow x
is_in ShortWide unit x = is_short unit x && not (is_narrow x)
is_in LongWide unit x = not (is_short unit x) && not (is_narrow x)

-- the group of a coflow
abbrev pub group_of : ℕ → Finished → Group
group_of unit x = if is_narrow x then (if is_short unit x then ShortNarrow else LongNarrow)
    else (if is_short unit x then ShortWide else LongWide)

-- how a group is spelled
abbrev pub group_word : Group → List ℕ
group_word ShortNarrow = codes "short-narrow"
group_word LongNarrow = codes "long-narrow"
group_word ShortWide = codes "short-wide"
group_word LongWide = codes "long-wide"

-- how many slots pass from the arrival of a coflow to its completion; a coflow without units takes none
abbrev pub duration : Finished → ℕ
duration x = x.completion - x.arrival

-- the durations of the coflows of a group
abbrev pub durations_of : Group → ℕ → List Finished → List ℕ
durations_of group unit xs = map duration (filter (is_in group unit) xs)
