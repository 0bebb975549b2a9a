-- the commands so far, and that their ids are coflows'
use Rattle.std.proofs.Common.{nat_eq}
use Rattle.indexmap.specs.IndexMap.{get}
use Rattle.journal_audit.proofs.StatedSteps.{CommandsSoFar}
use Rattle.journal_audit.proofs.stated.commands_of.Given as goal

abbrev pub invariant-loop-line : goal.invariant-loop-line
invariant-loop-line l = CommandsSoFar l.entries l.line-index (get nat_eq l.coflows) l.commands.items
