-- What the serving of a plan by a crew comes to.
use Rattle.std.specs.Prelude.{◌≡◌, ℕ, ◌<◌, List, map, Option, Result, Err, IfOk, slice_index_or}
use Rattle.outside.specs.Rose.{Rose}
use Rattle.coflow_units.specs.Served.{IsServed}
use Rattle.client_session.specs.Models.{HallModel}
use Rattle.crews.specs.Sections.{ended}
use Rattle.slot_runner.specs.Crews.{CrewModel}
use Rattle.hall_plan.specs.declared.answer.PlanFault.{PlanFault}
use Rattle.hall_plan.specs.declared.answer.PlanFault.TheVariants.{WireFault}
use Rattle.slot_runner.specs.Cuts.{HaveStopped}
use Rattle.hall_plan.specs.Journals.{IsPlanBegun}
use Rattle.hall_plan.specs.Journals.{plan_order}
use Rattle.slot_runner.specs.Wires.{AreAllUnits, AreUnits, HaveMore, StopsAt}

module _ {W : Type 0} (faults : W → ℕ) (runs : W → Option (List (ℕ × ℕ × ℕ))) where
  pub record IsPlanServed (hall : HallModel) (old new : CrewModel W) (result : Result (List (List ℕ)) PlanFault)
      : Type 0 where
    pub schedule : IfOk result (λ slots.
        IsServed hall.setting.opening.table.flows (plan_order hall.setting.opening) slots)
    pub sent : IfOk result (λ slots. HaveMore runs (AreAllUnits hall.setting.opening.table.flows slots)
        hall.setting.opening.table.ports old.wires new.wires)
    pub wires : (slots : List (List ℕ)) →
        IsServed hall.setting.opening.table.flows (plan_order hall.setting.opening) slots →
        HaveMore runs (AreUnits hall.setting.opening.table.flows slots) hall.setting.opening.table.ports
        old.wires new.wires
    pub fault : (port : ℕ) → result ≡ Err (WireFault port) → (port < hall.setting.opening.table.ports) ×
        ((b a : W) → Rose (faults (slice_index_or old.wires port b)) (faults (slice_index_or new.wires port a)))
    pub least : (port : ℕ) (slots : List (List ℕ)) → result ≡ Err (WireFault port) →
        IsServed hall.setting.opening.table.flows (plan_order hall.setting.opening) slots →
        (end : ℕ) × HaveMore runs (StopsAt hall.setting.opening.table.flows slots port end)
        hall.setting.opening.table.ports old.wires new.wires
    pub stops : (port : ℕ) → result ≡ Err (WireFault port) →
        HaveStopped runs (IsPlanBegun hall.setting.opening) hall.setting.opening port old.wires new.wires
    pub over : new.places ≡ map ended old.places
    pub ports : new.runner.ports ≡ hall.setting.opening.table.ports
