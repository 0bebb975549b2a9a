use Rattle.std.proofs.Common.{◌≡◌, ℕ, ◌+◌, ◌<◌, List, length, refl, sym, ap, subst, ◌∙◌, arith}
use Rattle.std.specs.Prelude.{All, if◌then◌else◌, slice_index}
use Rattle.coflow_units.specs.declared.fabric.Flow.{Flow}
use Rattle.coflow_units.specs.Completion.{holds_coflow}
use Rattle.flow_table.specs.Table.{TableFacts}
use Rattle.epochs.specs.Tallies.{IsTallied}
use Rattle.replays.specs.Moments.{served_at}
use Rattle.replays.proofs.ActionSteps.{line_is_known, ran_line, ran_tells}
use Rattle.replays.proofs.Recordings.{short_recorded}
use Rattle.replays.proofs.Running.{IsRunOf, run_kept, settled_kept, settled_moment, served_progress}
use Rattle.replays.proofs.kept.Kept.run.Goals as goal

pub grant-requires-clause-coflows : goal.grant-requires-clause-coflows
grant-requires-clause-coflows c =
    let (x, m, at, same, does) = c.requires.may in
    subst (λ (t : TableFacts). All (λ d. d < length t.ids) c.args.self.now.line.coflows.items) same (line_is_known x m c.args.self.now at)

pub grant-requires-clause-settled : goal.grant-requires-clause-settled
grant-requires-clause-settled c =
    let (x, m, at, same, does) = c.requires.may in
    settled_kept x m c.args.self.now c.args.table.now c.deref.result.now at same c.deref.ensures.value

pub serve-requires-clause-short : goal.serve-requires-clause-short
serve-requires-clause-short c =
    let (x, m, at, same, does) = c.requires.may in
    let run = run_kept x m c.args.self.now c.args.table.now c.deref.result.now c.grant.new.self.grants c.args.most c.least_left.result c.min-slots.result at same does
    c.deref.ensures.value c.grant.ensures.settled c.least_left.ensures c.min-slots.ensures in
    omega (arith, run.short, at.tells.progress.time_is)

pub record_run-requires-clause-some : goal.record_run-requires-clause-some
record_run-requires-clause-some c =
    let (x, m, at, same, does) = c.requires.may in
    (run_kept x m c.args.self.now c.args.table.now c.deref.result.now c.grant.new.self.grants c.args.most c.least_left.result c.min-slots.result at same does
    c.deref.ensures.value c.grant.ensures.settled c.least_left.ensures c.min-slots.ensures).some

pub record_run-requires-clause-short : goal.record_run-requires-clause-short
record_run-requires-clause-short c =
    let (x, m, at, same, does) = c.requires.may in
    let run = run_kept x m c.args.self.now c.args.table.now c.deref.result.now c.grant.new.self.grants c.args.most c.least_left.result c.min-slots.result at same does
    c.deref.ensures.value c.grant.ensures.settled c.least_left.ensures c.min-slots.ensures in
    short_recorded x m c.min-slots.result c.args.self.now.recording at.tells.recording run.short

pub returns-clause-tells : goal.returns-clause-tells
returns-clause-tells c = λ x m at same does.
    let old = c.args.self.now in
    let table = c.args.table.now in
    let left = c.deref.result.now in
    let granted = c.flows-flows.result.now in
    let n = c.min-slots.result in
    let grants = c.grant.new.self.grants in
    let run = subst (λ l. IsRunOf x m c.args.most l n) (sym c.flows-flows.ensures) (run_kept x m old table left grants c.args.most c.least_left.result n at same does
    c.deref.ensures.value c.grant.ensures.settled c.least_left.ensures c.min-slots.ensures) in
    let flows : c.flows.result.now ≡ x.table.flows = c.flows.ensures.flows ∙ ap (λ (t : TableFacts). t.flows) (sym same) in
    let progress = served_progress x m granted n old.progress c.serve.new.progress at.tells.progress run.some c.serve.ensures.time
    (subst (λ (fs : List Flow). IsTallied fs c.serve.new.progress.left.items c.serve.new.progress.owed.items) flows c.serve.ensures.tallied) c.serve.ensures.left
    (λ d lt. c.serve.ensures.ends d (omega (arith, lt, at.tells.each.ends)) ∙
    ap {B = ℕ} (λ (fs : List Flow). if holds_coflow fs granted d then old.progress.time + n else slice_index old.progress.ends.items d) flows) in
    let line = ran_line x m granted n old.line c.grant.new.self c.pass.new.self at.tells.line c.grant.ensures.line c.grant.ensures.room
    (settled_moment x m old table left grants at same c.deref.ensures.value c.grant.ensures.settled) c.flows-flows.ensures
    c.pass.ensures.line c.pass.ensures.room c.pass.ensures.settled in (
      served_at m n granted,
      record { granted = granted; count = n; grants = run.grants; run = run.run; next_is = refl },
      ran_tells x m granted n old _ at progress line c.serve.ensures.each c.serve.ensures.each_end refl refl c.in_ok-record_run.ensures,
    )
