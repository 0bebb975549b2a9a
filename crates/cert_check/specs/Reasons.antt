-- Why a report is not right, and which reason comes first.
use Rattle.std.specs.Prelude.{◌≡◌, ◌≢◌, ℕ, ◌+◌, ◌*◌, ◌<◌, List}
use Rattle.coflow_units.specs.Certificate.{bound, slack}
use Rattle.coflow_units.specs.Completion.{completion, cost}
use Rattle.coflow_units.specs.Flows.{Instance}
use Rattle.dual_cert.specs.TableCertificate.{IsLeastInfeasible}
use Rattle.report_text.specs.declared.value.Report.{Report}
use Rattle.schedule_model.specs.Fault.{IsFirstClash, IsFirstMiscount, IsFirstNoFlow}
use Rattle.schedule_model.specs.RunList.{slots_in}
use Rattle.cert_check.specs.declared.verdict.Reason.{Reason}
use Rattle.cert_check.specs.declared.verdict.Reason.TheVariants.{BoundTooHigh, ClashIn, CostWrong, DoneWrong}
use Rattle.cert_check.specs.declared.verdict.Reason.TheVariants.{Infeasible, NoFlow, NotPermutation, PortRange}
use Rattle.cert_check.specs.declared.verdict.Reason.TheVariants.{RatioBroken, SlackWrong, UnitsOf, WeightWrong}
use Rattle.cert_check.specs.declared.verdict.Verdict.{Verdict}
use Rattle.cert_check.specs.declared.verdict.Verdict.TheVariants.{No, Yes}
use Rattle.cert_check.specs.Places.{IsFirstOutOfRange, IsFirstWrong, certificate_in, coflows_in, ends_in, ids_in}
use Rattle.cert_check.specs.Sound.{IsSound}
use Rattle.cert_check.specs.Stated.{IsLeastWrong, IsLeastWrongOfAny}

-- the reason holds of the report, with its values; of its kind it is the one with the least place, coflow or slot
abbrev pub HasReason : Instance → List ℕ → Report → Reason → Type 0
HasReason i ids r (NotPermutation place) = IsFirstWrong ids (ids_in r.places) place
HasReason i ids r (PortRange place number) = IsFirstOutOfRange i.ports r.places place number
HasReason i ids r (WeightWrong coflow stated real) =
    IsLeastWrongOfAny (coflows_in ids r.places) r.weights i.weight coflow stated real
HasReason i ids r (Infeasible coflow) = IsLeastInfeasible i.flows i.weight (certificate_in ids r.places) coflow
HasReason i ids r (BoundTooHigh stated real) = (stated ≡ r.bound) ×
    (real ≡ bound i.flows (certificate_in ids r.places)) × (real < stated)
HasReason i ids r (SlackWrong stated real) = (stated ≡ r.slack) ×
    (real ≡ slack i.flows i.weight (certificate_in ids r.places)) × (stated ≢ real)
HasReason i ids r (NoFlow slot flow) = IsFirstNoFlow i.flows (slots_in r.runs) slot flow
HasReason i ids r (ClashIn slot port) = IsFirstClash i.flows (slots_in r.runs) slot port
HasReason i ids r (UnitsOf flow have want) = IsFirstMiscount i.flows (slots_in r.runs) flow have want
HasReason i ids r (DoneWrong coflow stated real) =
    IsLeastWrong (coflows_in ids r.places) (ends_in r.places) (completion i.flows (slots_in r.runs)) coflow stated real
HasReason i ids r (CostWrong stated real) = (stated ≡ r.cost) ×
    (real ≡ cost i.flows i.weight i.coflows (slots_in r.runs)) × (stated ≢ real)
HasReason i ids r (RatioBroken cost most) = (cost ≡ r.cost) × (most ≡ 4 * r.bound + r.slack) × (most < cost)

-- the place of the reason's kind in the order of kinds
abbrev pub kind : Reason → ℕ
kind (NotPermutation place) = 0
kind (PortRange place number) = 1
kind (WeightWrong coflow stated real) = 2
kind (Infeasible coflow) = 3
kind (BoundTooHigh stated real) = 4
kind (SlackWrong stated real) = 5
kind (NoFlow slot flow) = 6
kind (ClashIn slot port) = 7
kind (UnitsOf flow have want) = 8
kind (DoneWrong coflow stated real) = 9
kind (CostWrong stated real) = 10
kind (RatioBroken cost most) = 11

-- the first kind of the reasons that are looked for in the ports, the weights and the certificate
abbrev pub certificate_kind : ℕ
certificate_kind = kind (PortRange 0 0)

-- the first kind of the reasons that are looked for in the schedule, the completions and the cost
abbrev pub schedule_kind : ℕ
schedule_kind = kind (NoFlow 0 0)

-- the reason holds, and none of an earlier kind does
pub record IsFirstReason (i : Instance) (ids : List ℕ) (r : Report) (reason : Reason) : Type 0 where
  pub holds : HasReason i ids r reason
  pub first : (other : Reason) → kind other < kind reason → HasReason i ids r other → ⊥

-- the verdict is yes on a right report, and else it tells the first reason
abbrev pub IsVerdict : Instance → List ℕ → Report → Verdict → Type 0
IsVerdict i ids r Yes = IsSound i ids r
IsVerdict i ids r (No reason) = IsFirstReason i ids r reason

-- a coflow that the reason names is one of so many
abbrev pub NamesCoflow : ℕ → Reason → Type 0
NamesCoflow count (WeightWrong coflow stated real) = coflow < count
NamesCoflow count (Infeasible coflow) = coflow < count
NamesCoflow count (DoneWrong coflow stated real) = coflow < count
NamesCoflow count _ = Unit {0}

-- the same of the verdict's reason, if it has one
abbrev pub NamesCoflowIfAny : ℕ → Verdict → Type 0
NamesCoflowIfAny count Yes = Unit {0}
NamesCoflowIfAny count (No reason) = NamesCoflow count reason
