use Rattle.std.proofs.Common.{◌≡◌, ℕ, ◌<◌}
use Rattle.coflow_units.specs.declared.fabric.Port.{Port}
use Rattle.port_load.specs.LoadTable.{IsSameSize, load_at}
use Rattle.port_load.proofs.loads.Loads.drop_all.Given as goal

abbrev pub invariant-loop-coflow : goal.invariant-loop-coflow
invariant-loop-coflow l = record {
  size : IsSameSize l.fn.self l.self;
  none : (c : ℕ) (port : Port) → c < l.coflow → port.number < l.fn.self.ports → load_at l.self c port ≡ 0;
}
