-- the ranks of the places so far
use Rattle.std.proofs.Common.{◌≡◌, ℕ, nat_eq, take}
use Rattle.indexmap.specs.IndexMap.{get}
use Rattle.master_core.specs.Published.{ranked}
use Rattle.journal_audit.proofs.RankSteps.{found_rank}
use Rattle.journal_audit.proofs.ranks.ranks_of.Given as goal

abbrev pub invariant-loop-index : goal.invariant-loop-index
invariant-loop-index l = (coflow : ℕ) → get nat_eq l.ranks coflow ≡ found_rank (take l.index (ranked l.places)) coflow
