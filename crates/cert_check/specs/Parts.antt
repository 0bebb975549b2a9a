-- What the parts of a check find.
use Rattle.std.specs.Prelude.{◌≡◌, ℕ, ◌+◌, ◌*◌, ◌^◌, ◌<◌, ◌≤◌, List, All, length}
use Rattle.coflow_units.specs.Certificate.{IsFeasible, bound, slack}
use Rattle.coflow_units.specs.Completion.{completion, cost}
use Rattle.coflow_units.specs.Flows.{Instance}
use Rattle.coflow_units.specs.Schedule.{IsValid}
use Rattle.report_text.specs.declared.value.PlaceLine.{PlaceLine}
use Rattle.report_text.specs.declared.value.Report.{Report}
use Rattle.schedule_model.specs.RunList.{slots_in}
use Rattle.cert_check.specs.declared.places.Named.{Named}
use Rattle.cert_check.specs.declared.places.Named.TheVariants.{Coflows, Wrong}
use Rattle.cert_check.specs.declared.verdict.Reason.{Reason}
use Rattle.cert_check.specs.declared.verdict.Reason.TheVariants as reason
use Rattle.schedule_model.specs.declared.fault.ScheduleFault.{ScheduleFault}
use Rattle.schedule_model.specs.declared.fault.ScheduleFault.TheVariants as fault
use Rattle.cert_check.specs.Places.{IsFirstWrong, NamesEach, certificate_in, coflows_in, ends_in, ids_in}
use Rattle.cert_check.specs.Reasons.{HasReason, kind}
use Rattle.cert_check.specs.Stated.{AreReal, AreRealIfAny}

-- the coflows of the places are those of the table, each once, or a place is the first wrong one
abbrev pub IsNamed : List ℕ → List PlaceLine → Named → Type 0
IsNamed ids places (Coflows coflows) = (coflows.items ≡ coflows_in ids places) ×
    NamesEach (length ids) (coflows_in ids places)
IsNamed ids places (Wrong place) = IsFirstWrong ids (ids_in places) place

-- the reason holds, and none of an earlier kind does, from a kind on
pub record IsFirstFrom (i : Instance) (ids : List ℕ) (r : Report) (from : ℕ) (reason : Reason) : Type 0 where
  pub holds : HasReason i ids r reason
  pub first : (other : Reason) → from ≤ kind other → kind other < kind reason → HasReason i ids r other → ⊥

-- what a right report says of its certificate
pub record HasSoundCertificate (i : Instance) (ids : List ℕ) (r : Report) : Type 0 where
  pub port : All (λ (p : PlaceLine). p.port.number < i.ports) r.places
  pub weights : AreRealIfAny (coflows_in ids r.places) r.weights i.weight
  pub feasible : IsFeasible i.flows i.weight (certificate_in ids r.places)
  pub bound_is_low : r.bound ≤ bound i.flows (certificate_in ids r.places)
  pub slack_is : r.slack ≡ slack i.flows i.weight (certificate_in ids r.places)
  pub fits : 4 * r.bound + r.slack < 2 ^ 128

-- what a right report says of its schedule
pub record HasSoundSchedule (i : Instance) (ids : List ℕ) (r : Report) : Type 0 where
  pub valid : IsValid i.flows (slots_in r.runs)
  pub ends : AreReal (coflows_in ids r.places) (ends_in r.places) (completion i.flows (slots_in r.runs))
  pub cost_is : r.cost ≡ cost i.flows i.weight i.coflows (slots_in r.runs)
  pub within_four : r.cost ≤ 4 * r.bound + r.slack

-- the fault of a schedule as a reason
abbrev pub reason_for : ScheduleFault → Reason
reason_for (fault.NoFlow slot flow) = reason.NoFlow slot flow
reason_for (fault.Clash slot port) = reason.ClashIn slot port
reason_for (fault.Units flow have want) = reason.UnitsOf flow have want
