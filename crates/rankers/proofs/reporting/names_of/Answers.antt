use Rattle.std.proofs.Common.{arith}
use Rattle.rankers.proofs.RowFacts.{names_done}
use Rattle.rankers.proofs.reporting.names_of.Goals as goal

pub returns-clause-names : goal.returns-clause-names
returns-clause-names g c =
    names_done (λ b. (goal.Ranker-dyn g (b.vtable, b.value)).meaning b.value) c.args.bench.now c.loop-ranker.ranker-index c.loop-ranker.names.items c.loop-ranker.invariant.names
    (omega (arith, c.loop-ranker-test.false))
