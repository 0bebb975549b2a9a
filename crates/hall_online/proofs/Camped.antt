-- A crew that served an online run, and the wires that no port has.
use Rattle.std.proofs.Common.{◌≡◌, ℕ, List, ◌++◌, length, sym, ◌∙◌, subst, arith, Option, Result, Ok, Err}
use Rattle.std.specs.Prelude.{OnOk, ⊤}
use Rattle.client_session.specs.Models.{HallModel}
use Rattle.slot_runner.specs.Crews.{CrewModel}
use Rattle.slot_runner.specs.Models.{RunnerModel}
use Rattle.slot_runner.proofs.FarWires.{more_whole, rose_whole}
use Rattle.hall_online.specs.declared.answer.OnlineFault.{OnlineFault}
use Rattle.hall_online.specs.declared.beginning.Kept.{Kept}
use Rattle.hall_online.specs.Beside.{IsOnlineServed}

on_ok_so : {A E P Q : Type 0} → (P → Q) → (r : Result A E) → OnOk r P → OnOk r Q
on_ok_so f (Ok x) h = f h
on_ok_so f (Err e) h = h

module _ {W : Type 0} (faults : W → ℕ) (runs : W → Option (List (ℕ × ℕ × ℕ))) where
  served_whole : (hall : HallModel) (old new : CrewModel W) (kept after : Kept) (result : Result ⊤ OnlineFault) (far : List W) →
      length old.wires ≡ hall.setting.opening.table.ports → length new.wires ≡ hall.setting.opening.table.ports →
      IsOnlineServed faults runs hall old new kept after result →
      IsOnlineServed faults runs hall (record old { wires = old.wires ++ far }) (record new { wires = new.wires ++ far }) kept after result
  served_whole hall old new kept after result far long long' s =
      let ports = hall.setting.opening.table.ports in
      record {
        ends = s.ends;
        sent = on_ok_so (more_whole runs _ ports old.wires new.wires far long) result s.sent;
        served = λ arrivals every h.
            let x = s.served arrivals every h in
            record { slots = x.slots; served = x.served; units = more_whole runs _ ports old.wires new.wires far long x.units };
        fault = λ port e.
            let f = s.fault port e in
            let low = f.0 in
            (low, rose_whole faults old.wires new.wires far port (omega (arith, low, long)) (omega (arith, low, long')) f.1);
        stops = λ port arrivals every e h.
            let x = s.stops port arrivals every e h in
            record {
              begun = x.begun;
              drive = x.drive;
              begins = x.begins;
              journal = x.journal;
              goes_on = x.goes_on;
              alone = x.alone;
              legal = x.legal;
              cut = x.cut;
              sent = more_whole runs _ ports old.wires new.wires far long x.sent;
            };
        too_many = s.too_many;
        over = s.over;
        ports = s.ports;
      }

  -- with the runner and the wires as they were given, and the wires as they come back
  pub served_camp : (hall : HallModel) (r : RunnerModel) (old new : CrewModel W) (kept kept' : Kept) (result : Result ⊤ OnlineFault) (far before after : List W) → old.runner ≡ r →
      length old.wires ≡ hall.setting.opening.table.ports → length new.wires ≡ new.runner.ports → old.wires ++ far ≡ before → after ≡ new.wires ++ far →
      IsOnlineServed faults runs hall old new kept kept' result →
      IsOnlineServed faults runs hall (record old { runner = r; wires = before }) (record new { wires = after }) kept kept' result
  served_camp hall r old new kept kept' result far before after runner long long' before_is after_is s =
      subst (λ (z : RunnerModel × List W × List W). IsOnlineServed faults runs hall (record old { runner = z.0; wires = z.1 }) (record new { wires = z.2 }) kept kept' result)
      (λ i. (runner i, before_is i, sym after_is i)) (served_whole hall old new kept kept' result far long (long' ∙ s.ports) s)
