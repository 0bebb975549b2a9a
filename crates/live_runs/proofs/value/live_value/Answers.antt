use Rattle.std.proofs.Common.{ℕ, List, map, subst}
use Rattle.coflow_units.specs.Schedule.{IsRuns}
use Rattle.live_model.specs.Printed.{run_of}
use Rattle.journal_audit.proofs.EntriesAnew.{replayed_schedule}
use Rattle.live_runs.proofs.FollowingEntries.{plain_by_words}
use Rattle.live_runs.proofs.value.live_value.Goals as goal

pub retold_of-requires-clause-plain : goal.retold_of-requires-clause-plain
retold_of-requires-clause-plain c = plain_by_words c.args.closed.now.opening c.args.closed.now.journal c.requires.words

pub returns-clause-runs : goal.returns-clause-runs
returns-clause-runs c =
    let o = c.args.closed.now.opening in
    let journal = c.args.closed.now.journal in
    subst (λ (slots : List (List ℕ)). IsRuns slots (map run_of c.into_runs.result))
    (replayed_schedule o journal c.in_ok-orders.field-0.schedule c.in_ok-orders.ensures.replay) c.into_runs.ensures.runs
