use Rattle.std.specs.Prelude.{◌≡◌, take}
use Rattle.coflow_units.specs.Load.{load}
use Rattle.coflow_units.proofs.plain.load_of.Given as goal

abbrev pub invariant-loop-flow : goal.invariant-loop-flow
invariant-loop-flow l = l.total ≡ load (take l.flow-index l.flows) l.coflow l.port
