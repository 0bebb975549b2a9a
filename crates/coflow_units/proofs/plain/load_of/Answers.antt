use Rattle.std.proofs.Common.{arith}
use Rattle.coflow_units.proofs.PlainSums.{next_load_fits}
use Rattle.coflow_units.proofs.plain.load_of.Goals as goal

pub overflow_add-total : goal.overflow_add-total
overflow_add-total c = omega (
  arith,
  c.loop-flow.invariant,
  c.requires.small,
  next_load_fits c.args.flows.now c.args.coflow c.args.port c.loop-flow.flow-index record {
    coflow = 0;
    ingress = 0;
    egress = 0;
    units = 0;
  } c.loop-flow-test.true,
)
