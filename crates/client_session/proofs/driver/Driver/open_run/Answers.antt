-- A run may need a note for each port, and its close.
use Rattle.std.proofs.Common.{◌+◌, ap, sym, ◌∙◌, arith}
use Rattle.std.proofs.lemmas.Bool.{ltb-false, ltb-true}
use Rattle.journal.specs.declared.command.Command.TheVariants.{Open}
use Rattle.client_session.specs.Models.{DriverModel}
use Rattle.client_session.proofs.Driving.{enough_left, none_left}
use Rattle.client_session.proofs.driver.Driver.open_run.Goals as goal

pub returns-then-is_spent : goal.returns-then-is_spent
returns-then-is_spent g c =
    let s = c.args.hall.now.setting in
    let own = ap (λ (m : DriverModel). m.setting) c.self.view_is ∙ c.requires.own.1 in
    let ports = (c.self.invariant.grants s own).ports in
    let left = ap (λ (m : DriverModel). m.left) c.self.view_is in
    record {
      turn = none_left s.opening (Open c.args.most) (s.opening.table.ports + 2) c.args.self.now
          (omega (arith, ports, left, c.ports.ensures, ltb-true c.self.inside.left (c.ports.result + 2) (sym c.is_spent.ensures ∙ c.if-is_spent.true)));
    }

pub returns : goal.returns
returns g c =
    let s = c.args.hall.now.setting in
    let own = ap (λ (m : DriverModel). m.setting) c.self.view_is ∙ c.requires.own.1 in
    let ports = (c.self.invariant.grants s own).ports in
    let left = ap (λ (m : DriverModel). m.left) c.self.view_is in
    record {
      turn = enough_left s.opening (Open c.args.most) (s.opening.table.ports + 2) c.args.self.now c.ask.new.self c.ask.result (omega arith)
          (omega (arith, ports, left, c.ports.ensures, ltb-false c.self.inside.left (c.ports.result + 2) (sym c.is_spent.ensures ∙ c.if-is_spent.false))) c.ask.ensures.turn;
    }
