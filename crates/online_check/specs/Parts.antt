-- What the parts of a check find.
use Rattle.std.specs.Prelude.{◌≡◌, ℕ, ◌<◌, ◌≤◌, List, All, length, map, slice_index}
use Rattle.coflow_units.specs.Completion.{completion, cost}
use Rattle.coflow_units.specs.Flows.{Instance}
use Rattle.cert_check.specs.Places.{NamesEach, coflows_in}
use Rattle.online_text.specs.declared.value.Online.{Online}
use Rattle.release_bound.specs.Release.{IsReleasedFeasible, released_total}
use Rattle.report_text.specs.declared.value.PlaceLine.{PlaceLine}
use Rattle.schedule_model.specs.declared.fault.ScheduleFault.{ScheduleFault}
use Rattle.schedule_model.specs.declared.fault.ScheduleFault.TheVariants as fault
use Rattle.schedule_model.specs.RunList.{slots_in}
use Rattle.online_check.specs.declared.places.Placed.{Placed}
use Rattle.online_check.specs.declared.places.Placed.TheVariants.{Places, Wrong}
use Rattle.online_check.specs.declared.verdict.OnlineReason.{OnlineReason}
use Rattle.online_check.specs.declared.verdict.OnlineReason.TheVariants as reason
use Rattle.online_check.specs.Done.{ids_done, slots_done}
use Rattle.online_check.specs.Reasons.{HasOnlineReason, NamesOneOf, online_kind}
use Rattle.online_check.specs.Released.{plain_lines, released_for, released_in}

-- The reason holds, and none of an earlier kind does, from a kind on. A coflow that it names is one of the instance.
pub record IsFirstFrom (i : Instance) (arrival : ℕ → ℕ) (ids : List ℕ) (o : Online) (from : ℕ) (reason : OnlineReason) :
    Type 0 where
  pub holds : HasOnlineReason i arrival ids o reason
  pub first : (other : OnlineReason) → from ≤ online_kind other → online_kind other < online_kind reason →
      HasOnlineReason i arrival ids o other → ⊥
  pub coflow : NamesOneOf (length ids) reason

-- the release lines name the coflows, each once, and their ports are in range
pub record ArePlaced (i : Instance) (ids : List ℕ) (o : Online) : Type 0 where
  pub names : NamesEach (length ids) (coflows_in ids (plain_lines o.release))
  pub port : All (λ (p : PlaceLine). p.port.number < i.ports) (plain_lines o.release)

-- the places are those of the release lines, or a reason holds of their ids and ports
abbrev pub IsPlaced : Instance → (ℕ → ℕ) → List ℕ → Online → Placed → Type 0
IsPlaced i arrival ids o (Places places) = (places.items ≡ map (released_for ids) o.release) × ArePlaced i ids o
IsPlaced i arrival ids o (Wrong reason) = IsFirstFrom i arrival ids o 0 reason

-- what a right online run says of its certificate, its places apart
pub record HasSoundTotal (i : Instance) (arrival : ℕ → ℕ) (ids : List ℕ) (o : Online) : Type 0 where
  pub feasible : IsReleasedFeasible i.flows i.weight (released_in ids o.release)
  pub total_is_low : o.total ≤ released_total i.flows arrival i.ports (released_in ids o.release)

-- what a right online run says of its completions and its cost
pub record HasSoundEnds (i : Instance) (ids : List ℕ) (o : Online) : Type 0 where
  pub listed : ids_done o.done ≡ ids
  pub ends : (c : ℕ) → c < length ids → slice_index (slots_done o.done) c ≡ completion i.flows (slots_in o.runs) c
  pub cost_is : o.cost ≡ cost i.flows i.weight i.coflows (slots_in o.runs)

-- the fault of a schedule as a reason
abbrev pub reason_for : ScheduleFault → OnlineReason
reason_for (fault.NoFlow slot flow) = reason.NoFlow slot flow
reason_for (fault.Clash slot port) = reason.ClashIn slot port
reason_for (fault.Units flow have want) = reason.UnitsOf flow have want
