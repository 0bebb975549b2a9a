-- The wires of the ports and those behind them have room, and nothing is out with a helper.
use Rattle.std.proofs.Common.{◌≡◌, ◌+◌, length, length-append, ap, sym, subst, ◌∙◌, arith}
use Rattle.crews.specs.Attached.{AreOver}
use Rattle.crews.specs.Gathering.{HaveNoOutlets}
use Rattle.crews.specs.Wires.{wires_of}
use Rattle.crews.proofs.Whole.{as_long}
use Rattle.slot_runner.specs.Crews.{CrewModel}
use Rattle.slot_runner.proofs.camp.Camp.disband.Goals as goal

pub retire-requires-clause-over : goal.retire-requires-clause-over
retire-requires-clause-over g c = subst (λ (m : CrewModel g.row.W.Denot). AreOver c.args.self.site.trays.items m.places) (sym c.crew.view_is) c.requires.over

pub retire-requires-clause-none : goal.retire-requires-clause-none
retire-requires-clause-none g c = subst (λ (m : CrewModel g.row.W.Denot). HaveNoOutlets m.places) (sym c.crew.view_is) c.requires.none

pub append-requires : goal.append-requires
append-requires g c =
    let near = c.crew.inside.wires.items in
    let long : length (wires_of near) ≡ c.crew.inside.ports = as_long near c.crew.invariant.3 ∙ c.crew.invariant.2 in
    let ports : c.crew.inside.ports ≡ c.args.self.crew.runner.ports = ap (λ (m : CrewModel g.row.W.Denot). m.runner.ports) c.crew.view_is in
    let grown : length c.retire.new.to.items ≡ length c.args.wires.now.items + length (wires_of near) = ap (λ l. length l) c.retire.ensures.to
    ∙ length-append c.args.wires.now.items (wires_of near) in
    let kept = c.retire.ensures.room in
    let room = c.requires.room in
    record { room = omega (arith, long, ports, grown, kept, room) }

pub returns-clause-many : goal.returns-clause-many
returns-clause-many g c =
    let near = c.crew.inside.wires.items in
    ap (λ (m : CrewModel g.row.W.Denot). length m.wires) (sym c.crew.view_is) ∙ as_long near c.crew.invariant.3 ∙ c.crew.invariant.2 ∙
    ap (λ (m : CrewModel g.row.W.Denot). m.runner.ports) c.crew.view_is
