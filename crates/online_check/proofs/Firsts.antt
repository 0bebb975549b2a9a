-- A reason is the first where no kind before it has one.
use Rattle.std.proofs.Common.{◌≡◌, ◌≢◌, ℕ, ◌≤◌, ◌<◌, inl, inr, List, length, refl, sym, ◌∙◌, arith}
use Rattle.std.specs.Prelude.{Some, slice_index}
use Rattle.std.proofs.lemmas.Bool.{cases_lt}
use Rattle.coflow_units.specs.Completion.{completion, cost}
use Rattle.coflow_units.specs.Flows.{Instance}
use Rattle.coflow_units.specs.Schedule.{IsValid}
use Rattle.cert_check.specs.Places.{IsFirstOutOfRange, IsFirstWrong, NamesEach, coflows_in, ids_in}
use Rattle.cert_check.proofs.Refusals.{clear_names, no_bad_port, no_clash, no_miscount, no_stranger, no_wrong_place}
use Rattle.online_text.specs.declared.value.Online.{Online}
use Rattle.release_bound.specs.Release.{IsReleased, IsReleasedFeasible, released_total}
use Rattle.release_bound.specs.ReleaseTable.{IsLeastReleasedInfeasible}
use Rattle.schedule_model.specs.declared.fault.ScheduleFault.{ScheduleFault}
use Rattle.schedule_model.specs.declared.fault.ScheduleFault.TheVariants as fault
use Rattle.schedule_model.specs.Fault.{IsFirstClash, IsFirstFault, IsFirstMiscount}
use Rattle.schedule_model.specs.RunList.{slots_in}
use Rattle.online_check.specs.declared.verdict.OnlineReason.{OnlineReason}
use Rattle.online_check.specs.declared.verdict.OnlineReason.TheVariants.{ClashIn, CostWrong, DoneWrong, Early, Infeasible, Listed, NoFlow, NotPermutation, PortRange}
use Rattle.online_check.specs.declared.verdict.OnlineReason.TheVariants.{TotalTooHigh, UnitsOf}
use Rattle.online_check.specs.Done.{IsFirstUnlisted, IsFirstWrongEnd, ids_done, slots_done}
use Rattle.online_check.specs.Early.{IsFirstEarly}
use Rattle.online_check.specs.Parts.{ArePlaced, HasSoundEnds, HasSoundTotal, IsFirstFrom, reason_for}
use Rattle.online_check.specs.Reasons.{HasOnlineReason, IsFirstOnlineReason, certificate_kind, ends_kind, online_kind, schedule_kind}
use Rattle.online_check.specs.Released.{plain_lines, released_in}
use Rattle.online_check.proofs.DoneSteps.{no_unlisted, no_wrong_end}
use Rattle.online_check.proofs.ReleasedSteps.{no_infeasible}
use Rattle.online_check.proofs.WaitingSteps.{no_early}

module _ (i : Instance) (arrival : ℕ → ℕ) (ids : List ℕ) (o : Online) where
  abbrev Refused : OnlineReason → Type 0
  Refused reason = HasOnlineReason i arrival ids o reason → ⊥

  -- ---- the places

  pub first_wrong_place : (place : ℕ) → IsFirstWrong ids (ids_in (plain_lines o.release)) place → IsFirstFrom i arrival ids o 0 (NotPermutation place)
  first_wrong_place place wrong = record { holds = wrong; first = λ other low high has. omega arith; coflow = tt }

  before_ports : NamesEach (length ids) (coflows_in ids (plain_lines o.release)) → (other : OnlineReason) → online_kind other < 1 → Refused other
  before_ports names (NotPermutation place) high has = no_wrong_place ids (plain_lines o.release) place names has
  before_ports names _ high has = absurd (omega arith)

  pub first_bad_port : (place number : ℕ) → NamesEach (length ids) (coflows_in ids (plain_lines o.release)) → IsFirstOutOfRange i.ports (plain_lines o.release) place number →
      IsFirstFrom i arrival ids o 0 (PortRange place number)
  first_bad_port place number names bad = record { holds = bad; first = λ other low high has. before_ports names other high has; coflow = tt }

  before_certificate : ArePlaced i ids o → (other : OnlineReason) → online_kind other < 2 → Refused other
  before_certificate placed (PortRange place number) high has = no_bad_port i.ports (plain_lines o.release) place number placed.port has
  before_certificate placed other high has = elim (cases_lt (online_kind other) 1) [
    | inl less ↦ before_ports placed.names other less has
    | inr le ↦ absurd (omega arith)
  ]

  -- ---- the certificate

  pub first_infeasible : (coflow : ℕ) → coflow < length ids → IsLeastReleasedInfeasible i.flows i.weight (released_in ids o.release) coflow →
      IsFirstFrom i arrival ids o certificate_kind (Infeasible coflow)
  first_infeasible coflow inside least = record { holds = least; first = λ other low high has. omega arith; coflow = inside }

  before_total : IsReleasedFeasible i.flows i.weight (released_in ids o.release) → (other : OnlineReason) → 2 ≤ online_kind other → online_kind other < 3 → Refused other
  before_total feasible (Infeasible coflow) low high has = no_infeasible i.flows i.weight (released_in ids o.release) coflow feasible has
  before_total feasible _ low high has = absurd (omega arith)

  pub first_high_total : (real : ℕ) → IsReleasedFeasible i.flows i.weight (released_in ids o.release) →
      real ≡ released_total i.flows arrival i.ports (released_in ids o.release) → real < o.total → IsFirstFrom i arrival ids o certificate_kind (TotalTooHigh o.total real)
  first_high_total real feasible is high = record { holds = (refl, is, high); first = before_total feasible; coflow = tt }

  before_schedule : ArePlaced i ids o → HasSoundTotal i arrival ids o → (other : OnlineReason) → online_kind other < 4 → Refused other
  before_schedule placed total (TotalTooHigh stated real) high has = omega (arith, has, total.total_is_low)
  before_schedule placed total other high has = elim (cases_lt (online_kind other) 2) [
    | inl less ↦ before_certificate placed other less has
    | inr le ↦ elim (cases_lt (online_kind other) 3) [
      | inl less ↦ before_total total.feasible other le less has
      | inr le ↦ absurd (omega arith)
    ]
  ]

  -- ---- the slots

  pub first_fault : (found : ScheduleFault) → IsFirstFault i.flows (slots_in o.runs) (Some found) → IsFirstFrom i arrival ids o schedule_kind (reason_for found)
  first_fault (fault.NoFlow slot flow) first = record { holds = first; first = λ other low high has. omega arith; coflow = tt }
  first_fault (fault.Clash slot port) first = record { holds = first; first = before_clash first; coflow = tt }
    where
      before_clash : IsFirstClash i.flows (slots_in o.runs) slot port → (other : OnlineReason) → 4 ≤ online_kind other → online_kind other < 5 → Refused other
      before_clash clash (NoFlow slot' flow) low high has = no_stranger i.flows (slots_in o.runs) slot' flow clash.names has
      before_clash clash _ low high has = absurd (omega arith)
  first_fault (fault.Units flow have want) first = record { holds = first; first = before_units first; coflow = tt }
    where
      before_units : IsFirstMiscount i.flows (slots_in o.runs) flow have want → (other : OnlineReason) → 4 ≤ online_kind other → online_kind other < 6 → Refused other
      before_units miscount (NoFlow slot flow') low high has = no_stranger i.flows (slots_in o.runs) slot flow' (clear_names i.flows (slots_in o.runs) miscount.clear) has
      before_units miscount (ClashIn slot port) low high has = no_clash i.flows (slots_in o.runs) slot port miscount.clear has
      before_units miscount _ low high has = absurd (omega arith)

  before_early : IsValid i.flows (slots_in o.runs) → (other : OnlineReason) → 4 ≤ online_kind other → online_kind other < 7 → Refused other
  before_early valid (NoFlow slot flow) low high has = no_stranger i.flows (slots_in o.runs) slot flow (clear_names i.flows (slots_in o.runs) valid.clear) has
  before_early valid (ClashIn slot port) low high has = no_clash i.flows (slots_in o.runs) slot port valid.clear has
  before_early valid (UnitsOf flow have want) low high has = no_miscount i.flows (slots_in o.runs) flow have want valid has
  before_early valid _ low high has = absurd (omega arith)

  pub first_early : (slot coflow : ℕ) → IsValid i.flows (slots_in o.runs) → coflow < length ids → IsFirstEarly i.flows arrival (slots_in o.runs) slot coflow →
      IsFirstFrom i arrival ids o schedule_kind (Early slot coflow)
  first_early slot coflow valid inside early = record { holds = early; first = before_early valid; coflow = inside }

  before_ends : ArePlaced i ids o → HasSoundTotal i arrival ids o → IsReleased i.flows arrival (slots_in o.runs) → (other : OnlineReason) → online_kind other < 8 → Refused other
  before_ends placed total released (Early slot coflow) high has = no_early i.flows arrival (slots_in o.runs) slot coflow released.none_early has.early
  before_ends placed total released other high has = elim (cases_lt (online_kind other) 4) [
    | inl less ↦ before_schedule placed total other less has
    | inr le ↦ elim (cases_lt (online_kind other) 7) [
      | inl less ↦ before_early released.valid other le less has
      | inr le ↦ absurd (omega arith)
    ]
  ]

  -- ---- the completions and the cost

  pub first_unlisted : (index : ℕ) → IsFirstUnlisted ids (ids_done o.done) index → IsFirstFrom i arrival ids o ends_kind (Listed index)
  first_unlisted index wrong = record { holds = wrong; first = λ other low high has. omega arith; coflow = tt }

  before_wrong_end : ids_done o.done ≡ ids → (other : OnlineReason) → 8 ≤ online_kind other → online_kind other < 9 → Refused other
  before_wrong_end listed (Listed index) low high has = no_unlisted ids (ids_done o.done) index listed has
  before_wrong_end listed _ low high has = absurd (omega arith)

  pub first_wrong_end : (coflow said is : ℕ) → ids_done o.done ≡ ids → coflow < length ids →
      IsFirstWrongEnd (slots_done o.done) (completion i.flows (slots_in o.runs)) coflow said is → IsFirstFrom i arrival ids o ends_kind (DoneWrong coflow said is)
  first_wrong_end coflow said is listed inside wrong = record { holds = wrong; first = before_wrong_end listed; coflow = inside }

  abbrev pub EndsAre : Type 0
  EndsAre = (c : ℕ) → c < length ids → slice_index (slots_done o.done) c ≡ completion i.flows (slots_in o.runs) c

  before_cost : ids_done o.done ≡ ids → length (slots_done o.done) ≡ length ids → EndsAre → (other : OnlineReason) → 8 ≤ online_kind other → online_kind other < 10 → Refused other
  before_cost listed count ends (DoneWrong coflow stated real) low high has =
      no_wrong_end (slots_done o.done) (completion i.flows (slots_in o.runs)) (length ids) coflow stated real count ends has
  before_cost listed count ends other low high has = elim (cases_lt (online_kind other) 9) [
    | inl less ↦ before_wrong_end listed other low less has
    | inr le ↦ absurd (omega arith)
  ]

  pub first_wrong_cost : (real : ℕ) → ids_done o.done ≡ ids → length (slots_done o.done) ≡ length ids → EndsAre → real ≡ cost i.flows i.weight i.coflows (slots_in o.runs) →
      o.cost ≢ real → IsFirstFrom i arrival ids o ends_kind (CostWrong o.cost real)
  first_wrong_cost real listed count ends is differ = record { holds = (refl, is, differ); first = before_cost listed count ends; coflow = tt }

  -- no reason holds of a right online run
  pub refuses : ArePlaced i ids o → HasSoundTotal i arrival ids o → IsReleased i.flows arrival (slots_in o.runs) → HasSoundEnds i ids o → length (slots_done o.done) ≡ length ids →
      (reason : OnlineReason) → Refused reason
  refuses placed total released ends count (CostWrong stated real) has = has.2 (has.0 ∙ ends.cost_is ∙ sym has.1)
  refuses placed total released ends count reason has = elim (cases_lt (online_kind reason) 8) [
    | inl less ↦ before_ends placed total released reason less has
    | inr le ↦ elim (cases_lt (online_kind reason) 10) [
      | inl less ↦ before_cost ends.listed count ends.ends reason le less has
      | inr le ↦ absurd (omega arith)
    ]
  ]

  -- ---- the first of all

  abbrev FirstOfAll : OnlineReason → Type 0
  FirstOfAll reason = IsFirstOnlineReason i arrival ids o reason

  pub first_of_places : (reason : OnlineReason) → IsFirstFrom i arrival ids o 0 reason → FirstOfAll reason
  first_of_places reason from = record { holds = from.holds; first = λ other high has. from.first other (omega arith) high has }

  pub first_of_certificate : (reason : OnlineReason) → ArePlaced i ids o → IsFirstFrom i arrival ids o certificate_kind reason → FirstOfAll reason
  first_of_certificate reason placed from = record {
    holds = from.holds;
    first = λ other high has. elim (cases_lt (online_kind other) 2) [
      | inl less ↦ before_certificate placed other less has
      | inr le ↦ from.first other le high has
    ];
  }

  pub first_of_schedule : (reason : OnlineReason) → ArePlaced i ids o → HasSoundTotal i arrival ids o → IsFirstFrom i arrival ids o schedule_kind reason → FirstOfAll reason
  first_of_schedule reason placed total from = record {
    holds = from.holds;
    first = λ other high has. elim (cases_lt (online_kind other) 4) [
      | inl less ↦ before_schedule placed total other less has
      | inr le ↦ from.first other le high has
    ];
  }

  pub first_of_ends : (reason : OnlineReason) → ArePlaced i ids o → HasSoundTotal i arrival ids o → IsReleased i.flows arrival (slots_in o.runs) →
      IsFirstFrom i arrival ids o ends_kind reason → FirstOfAll reason
  first_of_ends reason placed total released from = record {
    holds = from.holds;
    first = λ other high has. elim (cases_lt (online_kind other) 8) [
      | inl less ↦ before_ends placed total released other less has
      | inr le ↦ from.first other le high has
    ];
  }
