-- A reason is the first where no kind before it has one.
use Rattle.std.proofs.Common.{◌≡◌, ◌≢◌, ℕ, ◌+◌, ◌*◌, ◌≤◌, ◌<◌, inl, inr, List, length, refl, sym, ◌∙◌, arith}
use Rattle.std.specs.Prelude.{All, Some}
use Rattle.std.proofs.lemmas.Bool.{cases_lt}
use Rattle.coflow_units.specs.Certificate.{IsFeasible, bound, slack}
use Rattle.coflow_units.specs.Completion.{completion, cost}
use Rattle.coflow_units.specs.Flows.{Instance}
use Rattle.coflow_units.specs.Schedule.{IsValid}
use Rattle.report_text.specs.declared.value.PlaceLine.{PlaceLine}
use Rattle.report_text.specs.declared.value.Report.{Report}
use Rattle.schedule_model.specs.declared.fault.ScheduleFault.{ScheduleFault}
use Rattle.schedule_model.specs.declared.fault.ScheduleFault.TheVariants as fault
use Rattle.schedule_model.specs.Fault.{IsFirstClash, IsFirstFault, IsFirstMiscount}
use Rattle.schedule_model.specs.RunList.{slots_in}
use Rattle.dual_cert.specs.TableCertificate.{IsLeastInfeasible}
use Rattle.cert_check.specs.declared.verdict.Reason.{Reason}
use Rattle.cert_check.specs.declared.verdict.Reason.TheVariants.{BoundTooHigh, ClashIn, CostWrong, DoneWrong, Infeasible, NoFlow, NotPermutation, PortRange, RatioBroken}
use Rattle.cert_check.specs.declared.verdict.Reason.TheVariants.{SlackWrong, UnitsOf, WeightWrong}
use Rattle.cert_check.specs.Parts.{HasSoundCertificate, IsFirstFrom, reason_for}
use Rattle.cert_check.specs.Places.{IsFirstWrong, NamesEach, certificate_in, coflows_in, ends_in, ids_in}
use Rattle.cert_check.specs.Reasons.{HasReason, IsFirstReason, certificate_kind, kind, schedule_kind}
use Rattle.cert_check.specs.Stated.{AreReal, AreRealIfAny, IsLeastWrong}
use Rattle.cert_check.proofs.Refusals.{clear_names, no_bad_port, no_clash, no_infeasible, no_miscount, no_stranger, no_wrong_number, no_wrong_place, no_wrong_weight}

module _ (i : Instance) (ids : List ℕ) (r : Report) where
  abbrev PortsAre : Type 0
  PortsAre = All (λ (p : PlaceLine). p.port.number < i.ports) r.places

  abbrev WeightsAre : Type 0
  WeightsAre = AreRealIfAny (coflows_in ids r.places) r.weights i.weight

  abbrev EndsAre : Type 0
  EndsAre = AreReal (coflows_in ids r.places) (ends_in r.places) (completion i.flows (slots_in r.runs))

  -- ---- from the ports on

  before_ports : NamesEach (length ids) (coflows_in ids r.places) → (other : Reason) → kind other < 1 → HasReason i ids r other → ⊥
  before_ports names (NotPermutation place) high has = no_wrong_place ids r.places place names has
  before_ports names _ high has = absurd (omega arith)

  before_budgets : PortsAre → WeightsAre → (other : Reason) → 1 ≤ kind other → kind other < 3 → HasReason i ids r other → ⊥
  before_budgets ports weights (PortRange place number) low high has = no_bad_port i.ports r.places place number ports has
  before_budgets ports weights (WeightWrong coflow stated real) low high has = no_wrong_weight (coflows_in ids r.places) r.weights i.weight coflow stated real weights has
  before_budgets ports weights _ low high has = absurd (omega arith)

  pub first_infeasible : (coflow : ℕ) → PortsAre → WeightsAre → IsLeastInfeasible i.flows i.weight (certificate_in ids r.places) coflow →
      IsFirstFrom i ids r certificate_kind (Infeasible coflow)
  first_infeasible coflow ports weights least = record { holds = least; first = before_budgets ports weights }

  before_bounds : PortsAre → WeightsAre → IsFeasible i.flows i.weight (certificate_in ids r.places) → (other : Reason) → 1 ≤ kind other → kind other < 4 → HasReason i ids r other →
      ⊥
  before_bounds ports weights feasible (Infeasible coflow) low high has = no_infeasible i.flows i.weight (certificate_in ids r.places) coflow feasible has
  before_bounds ports weights feasible other low high has = elim (cases_lt (kind other) 3) [
    | inl less ↦ before_budgets ports weights other low less has
    | inr le ↦ absurd (omega arith)
  ]

  pub first_high_bound : (real : ℕ) → PortsAre → WeightsAre → IsFeasible i.flows i.weight (certificate_in ids r.places) → real ≡ bound i.flows (certificate_in ids r.places) →
      real < r.bound → IsFirstFrom i ids r certificate_kind (BoundTooHigh r.bound real)
  first_high_bound real ports weights feasible is high = record { holds = (refl, is, high); first = before_bounds ports weights feasible }

  before_slack : PortsAre → WeightsAre → IsFeasible i.flows i.weight (certificate_in ids r.places) → r.bound ≤ bound i.flows (certificate_in ids r.places) → (other : Reason) →
      1 ≤ kind other → kind other < 5 → HasReason i ids r other → ⊥
  before_slack ports weights feasible within (BoundTooHigh stated real) low high has = omega (arith, has)
  before_slack ports weights feasible within other low high has = elim (cases_lt (kind other) 4) [
    | inl less ↦ before_bounds ports weights feasible other low less has
    | inr le ↦ absurd (omega arith)
  ]

  pub first_wrong_slack : (real : ℕ) → PortsAre → WeightsAre → IsFeasible i.flows i.weight (certificate_in ids r.places) → r.bound ≤ bound i.flows (certificate_in ids r.places) →
      real ≡ slack i.flows i.weight (certificate_in ids r.places) → r.slack ≢ real →
      IsFirstFrom i ids r certificate_kind (SlackWrong r.slack real)
  first_wrong_slack real ports weights feasible within is differ = record { holds = (refl, is, differ); first = before_slack ports weights feasible within }

  -- ---- from the slots on

  pub first_fault : (found : ScheduleFault) → IsFirstFault i.flows (slots_in r.runs) (Some found) → IsFirstFrom i ids r schedule_kind (reason_for found)
  first_fault (fault.NoFlow slot flow) first = record { holds = first; first = λ other low high has. omega arith }
  first_fault (fault.Clash slot port) first = record { holds = first; first = before_clash first }
    where
      before_clash : IsFirstClash i.flows (slots_in r.runs) slot port → (other : Reason) → 6 ≤ kind other → kind other < 7 → HasReason i ids r other → ⊥
      before_clash clash (NoFlow slot' flow) low high has = no_stranger i.flows (slots_in r.runs) slot' flow clash.names has
      before_clash clash _ low high has = absurd (omega arith)
  first_fault (fault.Units flow have want) first = record { holds = first; first = before_units first }
    where
      before_units : IsFirstMiscount i.flows (slots_in r.runs) flow have want → (other : Reason) → 6 ≤ kind other → kind other < 8 → HasReason i ids r other → ⊥
      before_units miscount (NoFlow slot flow') low high has = no_stranger i.flows (slots_in r.runs) slot flow' (clear_names i.flows (slots_in r.runs) miscount.clear) has
      before_units miscount (ClashIn slot port) low high has = no_clash i.flows (slots_in r.runs) slot port miscount.clear has
      before_units miscount _ low high has = absurd (omega arith)

  before_ends : IsValid i.flows (slots_in r.runs) → (other : Reason) → 6 ≤ kind other → kind other < 9 → HasReason i ids r other → ⊥
  before_ends valid (NoFlow slot flow) low high has = no_stranger i.flows (slots_in r.runs) slot flow (clear_names i.flows (slots_in r.runs) valid.clear) has
  before_ends valid (ClashIn slot port) low high has = no_clash i.flows (slots_in r.runs) slot port valid.clear has
  before_ends valid (UnitsOf flow have want) low high has = no_miscount i.flows (slots_in r.runs) flow have want valid has
  before_ends valid _ low high has = absurd (omega arith)

  pub first_wrong_end : (coflow said is : ℕ) → IsValid i.flows (slots_in r.runs) →
      IsLeastWrong (coflows_in ids r.places) (ends_in r.places) (completion i.flows (slots_in r.runs)) coflow said is → IsFirstFrom i ids r schedule_kind (DoneWrong coflow said is)
  first_wrong_end coflow said is valid least = record { holds = least; first = before_ends valid }

  before_cost : IsValid i.flows (slots_in r.runs) → EndsAre → (other : Reason) → 6 ≤ kind other → kind other < 10 → HasReason i ids r other → ⊥
  before_cost valid ends (DoneWrong coflow stated real) low high has =
      no_wrong_number (coflows_in ids r.places) (ends_in r.places) (completion i.flows (slots_in r.runs)) coflow stated real ends has
  before_cost valid ends other low high has = elim (cases_lt (kind other) 9) [
    | inl less ↦ before_ends valid other low less has
    | inr le ↦ absurd (omega arith)
  ]

  pub first_wrong_cost : (real : ℕ) → IsValid i.flows (slots_in r.runs) → EndsAre → real ≡ cost i.flows i.weight i.coflows (slots_in r.runs) → r.cost ≢ real →
      IsFirstFrom i ids r schedule_kind (CostWrong r.cost real)
  first_wrong_cost real valid ends is differ = record { holds = (refl, is, differ); first = before_cost valid ends }

  before_ratio : IsValid i.flows (slots_in r.runs) → EndsAre → r.cost ≡ cost i.flows i.weight i.coflows (slots_in r.runs) → (other : Reason) → 6 ≤ kind other → kind other < 11 →
      HasReason i ids r other → ⊥
  before_ratio valid ends is (CostWrong stated real) low high has = has.2 (has.0 ∙ is ∙ sym has.1)
  before_ratio valid ends is other low high has = elim (cases_lt (kind other) 10) [
    | inl less ↦ before_cost valid ends other low less has
    | inr le ↦ absurd (omega arith)
  ]

  pub first_broken_ratio : IsValid i.flows (slots_in r.runs) → EndsAre → r.cost ≡ cost i.flows i.weight i.coflows (slots_in r.runs) → 4 * r.bound + r.slack < r.cost →
      IsFirstFrom i ids r schedule_kind (RatioBroken r.cost (4 * r.bound + r.slack))
  first_broken_ratio valid ends is above = record { holds = (refl, refl, above); first = before_ratio valid ends is }

  -- ---- the whole certificate

  before_schedule : NamesEach (length ids) (coflows_in ids r.places) → HasSoundCertificate i ids r → (other : Reason) → kind other < 6 → HasReason i ids r other → ⊥
  before_schedule names certificate (NotPermutation place) high has = no_wrong_place ids r.places place names has
  before_schedule names certificate (SlackWrong stated real) high has = has.2 (has.0 ∙ certificate.slack_is ∙ sym has.1)
  before_schedule names certificate other high has = elim (cases_lt (kind other) 5) [
    | inl less ↦ before_slack certificate.port certificate.weights certificate.feasible certificate.bound_is_low other (omega arith) less has
    | inr le ↦ absurd (omega arith)
  ]

  -- a wrong place is the first reason of all
  pub first_wrong_place : (place : ℕ) → IsFirstWrong ids (ids_in r.places) place → IsFirstReason i ids r (NotPermutation place)
  first_wrong_place place wrong = record { holds = wrong; first = λ other high has. omega arith }

  -- a reason of the certificate is the first of all where the coflows are named
  pub first_of_certificate : (reason : Reason) → NamesEach (length ids) (coflows_in ids r.places) → IsFirstFrom i ids r certificate_kind reason → IsFirstReason i ids r reason
  first_of_certificate reason names from_ports = record {
    holds = from_ports.holds;
    first = λ other high has. elim (cases_lt (kind other) 1) [
      | inl less ↦ before_ports names other less has
      | inr le ↦ from_ports.first other le high has
    ];
  }

  -- a reason of the schedule is the first of all where the certificate is right
  pub first_of_schedule : (reason : Reason) → NamesEach (length ids) (coflows_in ids r.places) → HasSoundCertificate i ids r → IsFirstFrom i ids r schedule_kind reason →
      IsFirstReason i ids r reason
  first_of_schedule reason names certificate from_slots = record {
    holds = from_slots.holds;
    first = λ other high has. elim (cases_lt (kind other) 6) [
      | inl less ↦ before_schedule names certificate other less has
      | inr le ↦ from_slots.first other le high has
    ];
  }
