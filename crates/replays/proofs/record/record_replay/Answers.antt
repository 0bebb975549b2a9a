use Rattle.std.proofs.Common.{◌≡◌, ◌∙◌}
use Rattle.online_runs.proofs.Releases.{all_within}
use Rattle.rankers.specs.Meaning.{Meaning}
use Rattle.replays.specs.Moments.{Input}
use Rattle.replays.proofs.Records.{has_form, is_record, names, reported_alone}
use Rattle.replays.proofs.record.record_replay.Goals as goal

pub told-requires-clause-places : goal.told-requires-clause-places
told-requires-clause-places g c = all_within c.args.table.now c.args.weights.now c.in_ok-best.best.places.items c.in_ok-best.ensures.certificate.certificate

pub told-requires-clause-names : goal.told-requires-clause-names
told-requires-clause-names g c =
    let x : Input = record { table = c.args.table.now; weights = c.args.weights.now; arrivals = c.args.arrivals.now; every = c.args.every } in
    let ranker : Meaning = (goal.Ranker-dyn g (c.args.ranker.vtable, c.args.ranker.value)).meaning c.args.ranker.value in
    let kept = c.in_ok-result.field-0.kept in
    let ends = c.in_ok-result.ensures.ends c.in-Cost.field-0 c.in-Cost.is in
    names x ranker kept c.recorded-epochs.result ends c.recorded-epochs.ensures

pub returns-in-Cost-clause-recorded : goal.returns-in-Cost-clause-recorded
returns-in-Cost-clause-recorded g c =
    let x : Input = record { table = c.args.table.now; weights = c.args.weights.now; arrivals = c.args.arrivals.now; every = c.args.every } in
    let ranker : Meaning = (goal.Ranker-dyn g (c.args.ranker.vtable, c.args.ranker.value)).meaning c.args.ranker.value in
    let kept = c.in_ok-result.field-0.kept in
    let ends = c.in_ok-result.ensures.ends c.in-Cost.field-0 c.in-Cost.is in
    let told = c.in_ok-online-in-Cost.ensures in
    is_record x ranker kept c.recorded-epochs.result ends c.recorded-epochs.ensures c.in_ok-online-in-Cost.online told.epochs told.runs c.in_ok-best.best.places.items
    c.in_ok-best.best.total c.in_ok-best.ensures told.done told.cost told.release told.total

pub returns-in-Cost-clause-form : goal.returns-in-Cost-clause-form
returns-in-Cost-clause-form g c =
    let x : Input = record { table = c.args.table.now; weights = c.args.weights.now; arrivals = c.args.arrivals.now; every = c.args.every } in
    let ranker : Meaning = (goal.Ranker-dyn g (c.args.ranker.vtable, c.args.ranker.value)).meaning c.args.ranker.value in
    let kept = c.in_ok-result.field-0.kept in
    let ends = c.in_ok-result.ensures.ends c.in-Cost.field-0 c.in-Cost.is in
    let told = c.in_ok-online-in-Cost.ensures in
    has_form x ranker kept c.recorded-epochs.result ends c.recorded-epochs.ensures c.in_ok-online-in-Cost.online told.epochs told.runs

pub returns-in-Cost-clause-few : goal.returns-in-Cost-clause-few
returns-in-Cost-clause-few g c = λ count many.
    let x : Input = record { table = c.args.table.now; weights = c.args.weights.now; arrivals = c.args.arrivals.now; every = c.args.every } in
    let ranker : Meaning = (goal.Ranker-dyn g (c.args.ranker.vtable, c.args.ranker.value)).meaning c.args.ranker.value in
    c.replays_are_one.ensures.too_many x ranker c.in_ok-result.field-0.result count c.requires.input c.in_ok-result.ensures.replayed many

pub returns-clause-few : goal.returns-clause-few
returns-clause-few g c = λ count many.
    let x : Input = record { table = c.args.table.now; weights = c.args.weights.now; arrivals = c.args.arrivals.now; every = c.args.every } in
    let ranker : Meaning = (goal.Ranker-dyn g (c.args.ranker.vtable, c.args.ranker.value)).meaning c.args.ranker.value in
    c.replays_are_one.ensures.too_many x ranker c.in_ok-result.field-0.result count c.requires.input c.in_ok-result.ensures.replayed many

pub returns-clause-recorded : goal.returns-clause-recorded
returns-clause-recorded g c =
    let x : Input = record { table = c.args.table.now; weights = c.args.weights.now; arrivals = c.args.arrivals.now; every = c.args.every } in
    let ranker : Meaning = (goal.Ranker-dyn g (c.args.ranker.vtable, c.args.ranker.value)).meaning c.args.ranker.value in
    let report = c.in_ok-report-in-Unfit.ensures in (
      reported_alone x ranker c.in_ok-report-in-Unfit.report _ c.in_ok-best.best.total c.in_ok-name.name c.in_ok-result.field-0.result c.in_ok-best.ensures report.total
          (report.arrivals ∙ c.arrivals_cost-arrivals.ensures) report.rows
          c.in_ok-name.ensures.name c.in_ok-result.ensures.replayed,
      _,
      report.rows,
      (c.in-Unfit.epoch, c.in-Unfit.place, c.in-Unfit.is),
    )
