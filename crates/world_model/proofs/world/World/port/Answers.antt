use Rattle.std.proofs.Common.{◌<◌, subst, sym}
use Rattle.journal.specs.Fold.{state_of}
use Rattle.world_model.specs.Port.{PortFacts, port_of}
use Rattle.world_model.specs.World.{WorldFacts, run_of}
use Rattle.world_model.specs.Kept.{IsPort}
use Rattle.world_model.proofs.Fields.{port_read}
use Rattle.world_model.proofs.world.World.port.Goals as goal

pub returns-clause-stage : goal.returns-clause-stage
returns-clause-stage c =
    let i = c.self.inside in
    let m = i.master in
    let xs = i.ports.items in
    let p = c.args.port in
    let x = c.index.result.now in
    let low = subst (λ (v : WorldFacts). p < v.opening.table.ports) (sym c.self.view_is) c.requires in
    let read = port_read m i.agents xs i.sent.items p x c.self.invariant.0 low c.index.ensures in
    let s = state_of m.opening m.journal in
    subst (λ (v : WorldFacts). IsPort v.opening.table.flows (state_of v.opening v.journal).next (run_of v) v.sent p (port_of x)) c.self.view_is
    (subst (λ (y : PortFacts). IsPort m.opening.table.flows s.next s.run i.sent.items p y) (sym read) (c.self.invariant.0.kept.port p low))
