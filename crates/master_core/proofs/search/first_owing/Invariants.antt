use Rattle.master_core.specs.Owing.{IsNoneOwing}
use Rattle.master_core.proofs.search.first_owing.Given as goal

abbrev pub invariant-loop-number : goal.invariant-loop-number
invariant-loop-number l = IsNoneOwing l.table.flows l.roster.present l.ledger.owed l.number
