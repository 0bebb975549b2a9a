-- What is told of an online run of a table, and what the wires have of it.
use Rattle.std.specs.Prelude.{◌≡◌, ℕ, ◌+◌, ◌<◌, ◌≤◌, true, List, [], ◌∷◌, ◌++◌, All, Option, length, slice_index}
use Rattle.std.specs.List.{slice_index_or}
use Rattle.coflow_units.specs.declared.limits.TheConstants.{MAX_PUBLISHINGS}
use Rattle.coflow_units.specs.Completion.{cost, holds_coflow}
use Rattle.coflow_units.specs.Flows.{IsDistinct}
use Rattle.coflow_units.specs.Schedule.{IsValid}
use Rattle.flow_table.specs.Table.{TableFacts, instance_of}
use Rattle.release_bound.specs.Release.{IsReleased}
use Rattle.schedule_model.specs.RunList.{slots_in}
use Rattle.online_text.specs.declared.value.Epoch.{Epoch}
use Rattle.online_text.specs.declared.value.Online.{Online}
use Rattle.online_text.specs.Text.{online_text}
use Rattle.online_check.specs.Arrivals.{arrivals_in}
use Rattle.online_check.specs.Sound.{BoundsReleasedSchedules, IsSoundOnline}
use Rattle.journal.specs.declared.command.Entry.{Entry}
use Rattle.journal.specs.declared.opening.Opening.{Opening}
use Rattle.journal.specs.Journal.{is_version, left_at}
use Rattle.online_runs.specs.Deeds.{IsServedOnline, PublishesTooMany}
use Rattle.online_runs.specs.Input.{online_opening}
use Rattle.online_runs.specs.Value.{epoch_at, IsOnlineOf}
use Rattle.slot_runner.specs.Cuts.{HaveStopped}
use Rattle.slot_runner.specs.Wires.{AreAllUnits, AreUnits, HaveMore}
use Rattle.hall_online.specs.Serving.{IsOnlineBegun}
use Rattle.outside.specs.Rose.{Rose}

-- What is said of an epoch tells of an order that the journal published. Its bound is at most the cost of every valid
-- schedule of what was left there, in slots counted from its time.
pub record IsPublishing (o : Opening) (journal : List Entry) (e : Epoch) : Type 0 where
  pub before : List Entry
  pub published : Entry
  pub later : List Entry
  pub journal_is : journal ≡ before ++ (published ∷ later)
  pub gives : is_version published.reply ≡ true
  pub told : e ≡ epoch_at o before
  pub bounds : (slots : List (List ℕ)) → IsValid (left_at o before).flows slots →
      e.bound ≤ cost (left_at o before).flows (left_at o before).weight (left_at o before).coflows slots

-- more orders than may be published would be published; the count is that of one more than may be
pub record PublishesMore (t : TableFacts) (weights : List ℕ) (slot_ms every count : ℕ) : Type 0 where
  pub count_is : count ≡ MAX_PUBLISHINGS + 1
  pub next : PublishesTooMany (online_opening t weights) (arrivals_in t slot_ms) every count

-- The text is that of the online run of the table's coflows with these weights, where a slot takes so many milliseconds
-- and an epoch has so many slots. As many orders were published as may be, or fewer, and what is said of each has a bound
-- of what was left there. Its schedule serves all units, and nobody at or before its arrival. No schedule that serves
-- nobody before its arrival costs less than its total. Where ids differ, by which the checker of online runs finds
-- coflows, all that it says is right as the checker defines it.
pub record TellsOnline (t : TableFacts) (weights : List ℕ) (slot_ms every : ℕ) (text : List ℕ) : Type 0 where
  pub online : Online
  pub run : IsOnlineOf (online_opening t weights) (arrivals_in t slot_ms) every online
  pub text_is : text ≡ online_text online
  pub few : (count : ℕ) → PublishesMore t weights slot_ms every count → ⊥
  pub publishings : All (IsPublishing (online_opening t weights) run.journal) online.epochs
  pub released : IsReleased t.flows (slice_index (arrivals_in t slot_ms)) (slots_in online.runs)
  pub bounds : BoundsReleasedSchedules (instance_of t weights) (slice_index (arrivals_in t slot_ms)) online
  pub right : IsDistinct t.ids →
      IsSoundOnline (instance_of t weights) (slice_index (arrivals_in t slot_ms)) t.ids online

module _ {W : Type 0} (runs : W → Option (List (ℕ × ℕ × ℕ))) where
  -- each wire has the units of the online run's schedule at its port, each once, behind what it had, and nothing else
  abbrev pub SendsAll : List W → List W → TableFacts → Online → Type 0
  SendsAll before after t online = HaveMore runs (AreAllUnits t.flows (slots_in online.runs)) t.ports before after

  -- Each wire has units at its port of what the online run has served so far, none twice, behind what it had, and
  -- nothing else. No slot at or before its arrival has a flow of a coflow.
  pub record SendsSoFar (before after : List W) (t : TableFacts) (weights : List ℕ) (slot_ms every : ℕ) : Type 0 where
    pub slots : List (List ℕ)
    pub served : IsServedOnline (online_opening t weights) (arrivals_in t slot_ms) every slots
    pub early : (coflow k : ℕ) → holds_coflow t.flows (slice_index_or slots k []) coflow ≡ true →
        slice_index (arrivals_in t slot_ms) coflow ≤ k
    pub sent : HaveMore runs (AreUnits t.flows slots) t.ports before after

  -- What was sent is what the journal of the online run sent up to a run that fell short. This run was cut short at the
  -- port, and each earlier one was sent whole.
  abbrev pub StopsShort : List W → List W → ℕ → TableFacts → List ℕ → ℕ → ℕ → Type 0
  StopsShort before after port t weights slot_ms every =
      HaveStopped runs (IsOnlineBegun (online_opening t weights) (arrivals_in t slot_ms) every)
      (online_opening t weights) port before after

module _ {W : Type 0} (faults : W → ℕ) where
  -- the count of faults of the port's wire rose
  pub record FailsAt (before after : List W) (port : ℕ) (t : TableFacts) : Type 0 where
    pub fits : port < t.ports
    pub wire : port < length before
    pub rose : (b a : W) → Rose (faults (slice_index_or before port b)) (faults (slice_index_or after port a))
