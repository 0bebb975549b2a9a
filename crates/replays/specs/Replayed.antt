-- What the replay of a ranker comes to.
use Rattle.std.specs.Prelude.{◌≡◌, ℕ, ◌+◌, ◌≤◌, ◌⊎◌, List, [], ◌∷◌, ◌++◌, All, length, slice_index}
use Rattle.std.specs.List.{range_with_len}
use Rattle.coflow_units.specs.declared.limits.TheConstants.{MAX_ARRIVAL, MAX_OPTION_SLOTS, MAX_WEIGHT}
use Rattle.coflow_units.specs.Completion.{cost}
use Rattle.epochs.specs.declared.action.Action.TheVariants.{End, Publish, TooMany}
use Rattle.flow_table.specs.Table.{IsTable}
use Rattle.rankers.specs.FactsTold.{FactsTold}
use Rattle.rankers.specs.Meaning.{Meaning, answer_of}
use Rattle.rankers.specs.Scores.{IsFirstUnfit}
use Rattle.replays.specs.declared.rows.Replayed.{Replayed}
use Rattle.replays.specs.declared.rows.Replayed.TheVariants.{Cost, Unfit}
use Rattle.replays.specs.declared.rows.ReplayRow.{ReplayRow}
use Rattle.replays.specs.Moments.{DoesNext, Input, IsAsked, IsMoment, Moment, asked_at}

-- there is a weight and an arrival for each coflow, and they are within their limits
pub record IsInput (x : Input) : Type 0 where
  pub table : IsTable x.table
  pub each_weight : length x.weights ≡ length x.table.ids
  pub weight : All (λ w. w ≤ MAX_WEIGHT) x.weights
  pub each_arrival : length x.arrivals ≡ length x.table.ids
  pub arrival : All (λ a. a ≤ MAX_ARRIVAL + 1) x.arrivals
  pub some : 1 ≤ x.every
  pub most : x.every ≤ MAX_OPTION_SLOTS

-- the replay of the ranker ended, and these are its slots
pub record IsReplay (x : Input) (ranker : Meaning) (slots : List (List ℕ)) : Type 0 where
  pub moment : Moment
  pub reached : IsMoment x ranker moment
  pub ends : DoesNext x moment End
  pub slots_are : slots ≡ moment.slots

-- at the publishing of this number, counted from 1, the answer is no order of the coflows from this place on
pub record IsUnfitAt (x : Input) (ranker : Meaning) (epoch place : ℕ) : Type 0 where
  pub moment : Moment
  pub reached : IsMoment x ranker moment
  pub publishes : DoesNext x moment Publish
  pub epoch_is : epoch ≡ moment.course.published + 1
  pub facts : FactsTold
  pub asked : IsAsked x moment facts
  pub place_is : IsFirstUnfit (length x.table.ids) (answer_of (asked_at x moment) facts) place

-- more orders would be published than may be; this would have been the number of the next one
pub record IsTooManyFor (x : Input) (ranker : Meaning) (count : ℕ) : Type 0 where
  pub moment : Moment
  pub reached : IsMoment x ranker moment
  pub next : DoesNext x moment (TooMany count)

-- the sum of weight times completion in these slots
abbrev pub cost_of_slots : Input → List (List ℕ) → ℕ
cost_of_slots x slots = cost x.table.flows (slice_index x.weights) (range_with_len 0 (length x.table.ids)) slots

-- what the replay of a ranker comes to: the cost of its schedule, or the first answer that is no order
abbrev pub IsReplayed : Input → Meaning → Replayed → Type 0
IsReplayed x ranker (Cost total) =
    (slots : List (List ℕ)) × IsReplay x ranker slots × (total ≡ cost_of_slots x slots)
IsReplayed x ranker (Unfit epoch place) = IsUnfitAt x ranker epoch place

-- the rows of rankers with the numbers from the index on, each with the name of its own ranker and from it alone
abbrev pub AreRowsFrom : Input → ℕ → List Meaning → List ReplayRow → Type 0
AreRowsFrom x index [] rows = rows ≡ []
AreRowsFrom x index (m ∷ ms) rows = (result : Replayed) × (rest : List ReplayRow) × IsReplayed x m result ×
    (rows ≡ record { index = index; name = m.name; result = result } ∷ rest) × AreRowsFrom x (index + 1) ms rest

-- these are left of the bench, and rankers before them were taken off it: the replay of each but the last of these came to
-- something
pub record WereTaken (x : Input) (bench left : List Meaning) : Type 0 where
  pub before : List Meaning
  pub last : Meaning
  pub bench_is : bench ≡ before ++ last ∷ left
  pub rows : List ReplayRow
  pub came : AreRowsFrom x 1 before rows

-- the replay of the last one that was taken off would publish more orders than may be
pub record StopsAt (x : Input) (count : ℕ) (bench left : List Meaning) : Type 0 where
  pub taken : WereTaken x bench left
  pub too_many : IsTooManyFor x taken.last count

-- none was taken off, or the replay of each but the last one that was came to something
abbrev pub IsCutOff : Input → List Meaning → List Meaning → Type 0
IsCutOff x bench left = (bench ≡ left) ⊎ WereTaken x bench left
