use Rattle.std.proofs.Common.{◌<◌, length, ap, sym, ◌∙◌, arith}
use Rattle.port_load.specs.LoadTable.{load_at}
use Rattle.rankers.specs.FactsTold.{FactsTold}
use Rattle.rankers.proofs.LoadCells.{same_load}
use Rattle.rankers.proofs.facts.Facts.load.Goals as goal

pub returns : goal.returns
returns c =
    let loads = c.self.inside.loads in
    let low : c.args.coflow < loads.coflows = omega (arith, c.requires.coflow, c.self.invariant.coflows, ap (λ (f : FactsTold). length f.weights) c.self.view_is) in
    let inside : c.args.port.number < loads.ports = omega (arith, c.requires.port, ap (λ (f : FactsTold). f.loads.ports) c.self.view_is) in
    c.get.ensures ∙ sym (same_load loads c.args.coflow c.args.port low inside) ∙ ap (λ (f : FactsTold). load_at f.loads c.args.coflow c.args.port) c.self.view_is
