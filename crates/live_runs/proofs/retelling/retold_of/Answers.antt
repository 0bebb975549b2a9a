use Rattle.std.proofs.Common.{List, sym, subst, ◌∙◌}
use Rattle.std.specs.Prelude.{IfOk}
use Rattle.journal.specs.declared.command.Entry.{Entry}
use Rattle.journal.specs.declared.opening.Opening.{Opening}
use Rattle.journal.specs.Journal.{IsLegal}
use Rattle.journal.specs.Sound.{InRange}
use Rattle.journal_audit.specs.Replay.{IsPlain}
use Rattle.live_runs.specs.Retold.{IsRetold}
use Rattle.live_runs.proofs.FollowingEntries.{same_opening}
use Rattle.live_runs.proofs.retelling.retold_of.Goals as goal

pub retold_by-retold-requires-clause-legal : goal.retold_by-retold-requires-clause-legal
retold_by-retold-requires-clause-legal c =
    let o = c.args.closed.now.opening in
    let same = c.in_ok-master.ensures.opening
    ∙ same_opening o c.in_ok-table.table c.args.weights c.args.limit (c.in_ok-table.ensures ∙ c.table.ensures) c.requires.weights c.requires.limit in
    subst (λ (x : Opening). IsLegal x c.journal-journal.result.now) (sym same)
    (subst (λ (j : List Entry). IsLegal o j) (sym c.journal-journal.ensures.journal) c.journal-journal.ensures.legal)

pub retold_by-retold-requires-clause-in_range : goal.retold_by-retold-requires-clause-in_range
retold_by-retold-requires-clause-in_range c =
    let o = c.args.closed.now.opening in
    let same = c.in_ok-master.ensures.opening
    ∙ same_opening o c.in_ok-table.table c.args.weights c.args.limit (c.in_ok-table.ensures ∙ c.table.ensures) c.requires.weights c.requires.limit in
    subst (λ (x : Opening). InRange x c.journal-journal.result.now) (sym same)
    (subst (λ (j : List Entry). InRange o j) (sym c.journal-journal.ensures.journal) c.journal-journal.ensures.in_range)

pub retold_by-retold-requires-clause-plain : goal.retold_by-retold-requires-clause-plain
retold_by-retold-requires-clause-plain c = subst IsPlain (sym c.journal-journal.ensures.journal) c.requires.plain

pub returns : goal.returns
returns c =
    let o = c.args.closed.now.opening in
    let same = c.in_ok-master.ensures.opening
    ∙ same_opening o c.in_ok-table.table c.args.weights c.args.limit (c.in_ok-table.ensures ∙ c.table.ensures) c.requires.weights c.requires.limit in
    subst (λ (j : List Entry). IfOk c.retold_by-retold.result (IsRetold o j)) c.journal-journal.ensures.journal
    (subst (λ (x : Opening). IfOk c.retold_by-retold.result (IsRetold x c.journal-journal.result.now)) same c.retold_by-retold.ensures)
