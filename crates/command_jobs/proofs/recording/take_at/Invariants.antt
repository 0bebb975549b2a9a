-- so many are gone
use Rattle.std.proofs.Common.{◌≡◌, drop}
use Rattle.command_jobs.proofs.recording.take_at.Given as goal

abbrev pub invariant-loop : goal.invariant-loop
invariant-loop g l = l.bench.items ≡ drop l.counter l.fn.bench.items
