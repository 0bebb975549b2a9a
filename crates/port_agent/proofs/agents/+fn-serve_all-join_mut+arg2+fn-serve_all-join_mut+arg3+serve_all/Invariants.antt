use Rattle.std.proofs.Common.{◌+◌, ◌*◌, length}
use Rattle.port_agent.proofs.agents.+fn-serve_all-join_mut+arg2+fn-serve_all-join_mut+arg3+serve_all.Given as goal

abbrev pub decreases-join_mut+arg2 : goal.decreases-join_mut+arg2
decreases-join_mut+arg2 g l = 2 * length l.a.now + 1

abbrev pub decreases-join_mut+arg3 : goal.decreases-join_mut+arg3
decreases-join_mut+arg3 g l = 2 * length l.b.now + 1

abbrev pub decreases-serve_all : goal.decreases-serve_all
decreases-serve_all g l = 2 * length l.agents.now
