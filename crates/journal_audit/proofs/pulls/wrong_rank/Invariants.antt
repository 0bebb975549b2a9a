-- the pulls so far were told the right ranks
use Rattle.std.proofs.Common.{◌≡◌, ◌<◌, ℕ, List, nat_eq}
use Rattle.indexmap.specs.IndexMap.{get}
use Rattle.journal.specs.declared.command.Entry.{Entry}
use Rattle.journal.specs.declared.opening.Opening.{Opening}
use Rattle.journal_audit.specs.Pulls.{pull_at, real_rank}
use Rattle.journal_audit.specs.Ranks.{AreRanks}
use Rattle.journal_audit.specs.Ids.{Finds}
use Rattle.journal_audit.proofs.pulls.wrong_rank.Given as goal

abbrev pub invariant-loop-pull : goal.invariant-loop-pull
invariant-loop-pull l = (o : Opening) (journal : List Entry) → Finds o.table.ids (get nat_eq l.coflows) → AreRanks (get nat_eq) o journal l.ranks →
    (k : ℕ) → k < l.pull-index → (pull_at l.pulls k).rank ≡ real_rank o journal (pull_at l.pulls k)
