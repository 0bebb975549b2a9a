use Rattle.std.proofs.Common.{◌≤◌, ℕ, List, length, sym, ap, subst}
use Rattle.std.specs.Prelude.{map, reverse, slice_index}
use Rattle.coflow_units.specs.Flows.{Instance}
use Rattle.flow_table.specs.Table.{instance_of}
use Rattle.rankers.specs.Meaning.{Meaning}
use Rattle.release_bound.specs.declared.place.ReleasePlace.{ReleasePlace}
use Rattle.replays.specs.declared.writing.ReplayReport.{ReplayReport}
use Rattle.replays.specs.Moments.{Input}
use Rattle.replays.specs.Replayed.{AreRowsFrom}
use Rattle.replays.proofs.Numbers.{numbers_differ}
use Rattle.replays.proofs.RowCosts.{rows_at_least}
use Rattle.replays.proofs.RowRankers.{has_row}
use Rattle.replays.proofs.TakenBenches.{all_taken}
use Rattle.replays.proofs.reporting.replays_text.Goals as goal

pub returns-clause-text : goal.returns-clause-text
returns-clause-text g c =
    let x : Input = record { table = c.args.table.now; weights = c.args.weights.now; arrivals = c.args.arrivals.now; every = c.args.every } in
    let i : Instance = instance_of c.args.table.now c.args.weights.now in
    let bench : List Meaning = map (λ b. (goal.Ranker-dyn g (b.vtable, b.value)).meaning b.value) c.args.bench.now.items in
    let total : ℕ = c.in_ok-best.best.total in
    let places : List ReleasePlace = reverse c.in_ok-best.best.places.items in
    let report : ReplayReport = record { total = total; arrivals = c.arrivals_cost.result; rows = c.from_vec.result } in
    let rows : AreRowsFrom x 1 bench c.from_vec.result = subst (AreRowsFrom x 1 bench) (sym c.from_vec.ensures) c.in_ok-rows.ensures.rows in (
      report,
      record { places = places; total = c.in_ok-best.ensures; arrivals = c.arrivals_cost.ensures; rows = rows },
      record {
        released = λ ranker slots replay. c.replays_are_released.ensures x ranker slots c.requires.input replay;
        arrivals = subst (λ n. n ≤ total) (sym c.arrivals_cost.ensures)
            (c.arrivals_are_below.ensures i (slice_index x.arrivals) places total (numbers_differ (length x.table.ids)) c.in_ok-best.ensures);
        schedules = λ slots released. c.best_is_bound.ensures.bound i (slice_index x.arrivals) places total slots c.in_ok-best.ensures released;
        rows = rows_at_least x total (λ ranker slots replay. c.totals_bound_replays.ensures x ranker slots places total c.requires.input replay c.in_ok-best.ensures)
            1 bench c.from_vec.result rows;
      },
      c.in_ok-text.ensures,
    )

pub returns-clause-few : goal.returns-clause-few
returns-clause-few g c = λ ranker count has too_many.
    let x : Input = record { table = c.args.table.now; weights = c.args.weights.now; arrivals = c.args.arrivals.now; every = c.args.every } in
    let bench : List Meaning = map (λ b. (goal.Ranker-dyn g (b.vtable, b.value)).meaning b.value) c.args.bench.now.items in
    let (result, replayed) = has_row x 1 bench c.in_ok-rows.rows.items ranker c.in_ok-rows.ensures.rows has in
    c.replays_are_one.ensures.too_many x ranker result count c.requires.input replayed too_many

pub returns-in_err-text-clause-cut_off : goal.returns-in_err-text-clause-cut_off
returns-in_err-text-clause-cut_off g c = λ e.
    let x : Input = record { table = c.args.table.now; weights = c.args.weights.now; arrivals = c.args.arrivals.now; every = c.args.every } in
    let bench : List Meaning = map (λ b. (goal.Ranker-dyn g (b.vtable, b.value)).meaning b.value) c.args.bench.now.items in
    all_taken x bench _ c.in_ok-rows.rows.items c.in_ok-rows.ensures.rows (ap (map (λ b. (goal.Ranker-dyn g (b.vtable, b.value)).meaning b.value)) c.in_ok-rows.ensures.empty)
