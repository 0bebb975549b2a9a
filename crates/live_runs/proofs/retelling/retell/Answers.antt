use Rattle.std.proofs.Common.{refl}
use Rattle.live_runs.proofs.FollowingEntries.{all_retold, entry_retold, follows_here, none_retold, told_here}
use Rattle.live_runs.proofs.retelling.retell.Goals as goal

pub loop-entry-init : goal.loop-entry-init
loop-entry-init c =
    none_retold c.args.master.now.opening c.args.master.now.opening c.args.journal.now c.args.master.now.journal c.args.retold.now refl c.requires.empty c.requires.nothing

pub retell_entry-requires-clause-follows : goal.retell_entry-requires-clause-follows
retell_entry-requires-clause-follows c =
    let at = c.loop-entry in
    follows_here c.args.master.now.opening at.master.opening c.args.journal.now at.master.journal at.entry-index at.retold at.invariant _ c.requires.legal c.requires.in_range
    c.requires.plain c.loop-entry-test.true

pub retell_entry-requires-clause-before : goal.retell_entry-requires-clause-before
retell_entry-requires-clause-before c =
    let at = c.loop-entry in
    told_here c.args.master.now.opening at.master.opening c.args.journal.now at.master.journal at.entry-index at.retold at.invariant

pub loop-entry-preserved : goal.loop-entry-preserved
loop-entry-preserved c =
    let at = c.loop-entry in
    entry_retold c.args.master.now.opening at.master.opening c.args.journal.now at.master.journal at.entry-index at.retold at.invariant _ c.retell_entry.new.master.opening
    c.retell_entry.new.master.journal c.retell_entry.new.retold c.loop-entry-test.true c.in_ok-retell_entry.ensures.opening c.in_ok-retell_entry.ensures.journal
    c.in_ok-retell_entry.ensures.after

pub returns : goal.returns
returns c =
    let at = c.loop-entry in
    all_retold c.args.master.now.opening at.master.opening c.args.journal.now at.master.journal at.entry-index at.retold at.invariant c.loop-entry-test.false
