use Rattle.std.proofs.Common.{◌≡◌, ◌<◌, ◌+◌, ℕ, take, get_or, set, length, List, Option, Some, None, sym, ◌∙◌, subst}
use Rattle.std.proofs.lemmas.List.{get_or_default}
use Rattle.crews.specs.declared.part.Outlet.{Outlet}
use Rattle.crews.specs.Wires.{AreTaken}
use Rattle.crews.proofs.Places.{there_within}
use Rattle.crews.proofs.Taking.{next_there, take_next}
use Rattle.crews.proofs.wires.take_out.Goals as goal

pub loop-port-preserved : goal.loop-port-preserved
loop-port-preserved g c =
    let i : ℕ = c.loop-port.port-index in
    let ports : List ℕ = c.args.ports.now in
    let p : ℕ = get_or ports i 0 in
    let so = c.loop-port.invariant.taken in
    let within : p < length c.loop-port.wires = there_within c.loop-port.wires p (next_there ports i 0 c.args.wires.now c.loop-port.wires c.loop-port.outlets.items so
    c.requires.distinct c.requires.there c.loop-port-test.true) in
    let is : get_or c.loop-port.wires p None ≡ Some c.in-Some.wire =
    get_or_default c.loop-port.wires p None c.index-wires-port.result within ∙ (sym c.take.ensures.value ∙ c.in-Some.is) in record {
      taken = subst (λ (z : Option g.row.W.Denot × List (Outlet g.row.W.Denot)). AreTaken (take (i + 1) ports) c.args.wires.now (set c.loop-port.wires p z.0) z.1)
          (λ t. (sym c.take.ensures.after t, sym c.push_reserved.ensures.items t))
          (take_next ports i 0 c.args.wires.now c.loop-port.wires c.loop-port.outlets.items c.in-Some.wire so c.requires.distinct c.requires.there c.loop-port-test.true is);
      room = c.push_reserved.ensures.capacity ∙ c.loop-port.invariant.room;
    }
