-- the ids so far
use Rattle.std.proofs.Common.{◌≡◌, take}
use Rattle.journal_audit.proofs.ids.ids_of.Given as goal

abbrev pub invariant-loop-coflow : goal.invariant-loop-coflow
invariant-loop-coflow l = l.ids.items ≡ take l.coflow l.table.ids
