-- the pulls so far name versions that they may have
use Rattle.std.proofs.Common.{◌<◌, ℕ, List, nat_eq}
use Rattle.indexmap.specs.IndexMap.{get}
use Rattle.journal_audit.specs.Pulls.{HasVersion}
use Rattle.journal_audit.specs.Ids.{Finds}
use Rattle.journal_audit.proofs.pulls.wrong_version.Given as goal

abbrev pub invariant-loop-index : goal.invariant-loop-index
invariant-loop-index l = (ids : List ℕ) → Finds ids (get nat_eq l.coflows) → (k : ℕ) → k < l.index → HasVersion ids l.newest l.pulls k
