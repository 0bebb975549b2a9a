-- A crew that served a plan, and the wires that no port has.
use Rattle.std.proofs.Common.{◌≡◌, ℕ, ◌<◌, List, ◌++◌, length, sym, ◌∙◌, subst, arith, Option, Result, Ok, Err, get_or, length-append}
use Rattle.std.specs.Prelude.{IfOk}
use Rattle.std.proofs.lemmas.List.{get_or_append_left, get_or-append_right}
use Rattle.outside.specs.Rose.{Rose}
use Rattle.client_session.specs.Models.{HallModel}
use Rattle.slot_runner.specs.Crews.{CrewModel}
use Rattle.hall_plan.specs.declared.answer.PlanFault.{PlanFault}
use Rattle.hall_plan.specs.Beside.{IsPlanServed}
use Rattle.slot_runner.specs.Wires.{AreAllUnits, HaveMore}
use Rattle.slot_runner.proofs.FarWires.{more_whole, rose_whole}

ok_so : {A E : Type 0} (P Q : A → Type 0) → ((x : A) → P x → Q x) → (r : Result A E) → IfOk r P → IfOk r Q
ok_so P Q f (Ok x) h = f x h
ok_so P Q f (Err e) h = h

module _ {W : Type 0} where
  module _ (faults : W → ℕ) (runs : W → Option (List (ℕ × ℕ × ℕ))) where
    served_whole : (hall : HallModel) (old new : CrewModel W) (result : Result (List (List ℕ)) PlanFault) (far : List W) → length old.wires ≡ hall.setting.opening.table.ports →
        length new.wires ≡ hall.setting.opening.table.ports → IsPlanServed faults runs hall old new result →
        IsPlanServed faults runs hall (record old { wires = old.wires ++ far }) (record new { wires = new.wires ++ far }) result
    served_whole hall old new result far long long' s = record {
      schedule = s.schedule;
      sent = ok_so (λ slots. HaveMore runs (AreAllUnits hall.setting.opening.table.flows slots) hall.setting.opening.table.ports old.wires new.wires)
          (λ slots. HaveMore runs (AreAllUnits hall.setting.opening.table.flows slots) hall.setting.opening.table.ports (old.wires ++ far) (new.wires ++ far))
          (λ slots more. more_whole runs _ hall.setting.opening.table.ports old.wires new.wires far long more) result s.sent;
      wires = λ slots is. more_whole runs _ hall.setting.opening.table.ports old.wires new.wires far long (s.wires slots is);
      fault = λ port e. let f = s.fault port e in let low = f.0 in
          (f.0, rose_whole faults old.wires new.wires far port (omega (arith, low, long)) (omega (arith, low, long')) f.1);
      least = λ port slots e is. let l = s.least port slots e is in (l.0, more_whole runs _ hall.setting.opening.table.ports old.wires new.wires far long l.1);
      stops = λ port e. let h = s.stops port e in record {
        begun = h.begun;
        drive = h.drive;
        begins = h.begins;
        journal = h.journal;
        goes_on = h.goes_on;
        alone = h.alone;
        legal = h.legal;
        cut = h.cut;
        sent = more_whole runs _ hall.setting.opening.table.ports old.wires new.wires far long h.sent;
      };
      over = s.over;
      ports = s.ports;
    }

    -- with the wires as they were given and as they come back
    pub served_camp : (hall : HallModel) (old new : CrewModel W) (result : Result (List (List ℕ)) PlanFault) (far before after : List W) → length old.wires ≡
        hall.setting.opening.table.ports →
        length new.wires ≡ new.runner.ports → old.wires ++ far ≡ before → after ≡ new.wires ++ far → IsPlanServed faults runs hall old new result →
        IsPlanServed faults runs hall (record old { wires = before }) (record new { wires = after }) result
    served_camp hall old new result far before after long long' before_is after_is s =
        subst (λ (z : List W × List W). IsPlanServed faults runs hall (record old { wires = z.0 }) (record new { wires = z.1 }) result) (λ i. (before_is i, sym after_is i))
        (served_whole hall old new result far long (long' ∙ s.ports) s)
