use Rattle.std.proofs.Common.{◌≡◌, ◌+◌, inr, [], Err, length, ap, sym, subst, arith}
use Rattle.std.specs.Prelude.{All}
use Rattle.std.proofs.lemmas.List.Elements.{All-push}
use Rattle.report_text.specs.Compared.{IsName}
use Rattle.replays.specs.declared.rows.ReplayRow.{ReplayRow}
use Rattle.std.proofs.lemmas.Grind.{common_steps}
use Rattle.rankers.proofs.Benches.{next_left}
use Rattle.replays.specs.declared.rows.ReplayFault.TheVariants.{TooMany}
use Rattle.replays.proofs.HandedOn.{carried}
use Rattle.replays.proofs.Benches.{bench_done, bench_step, reached_on_bench}
use Rattle.replays.proofs.TakenBenches.{stops_at, taken_more, were_taken}
use Rattle.replays.proofs.rows.replay_all.Goals as goal

pub rankers-preserved : goal.rankers-preserved
rankers-preserved g c = record {
  few = omega (arith, c.rankers.invariant.few, ap length c.take_first-ranker.ensures);
  left = next_left c.args.bench.now.items c.rankers.bench.items c.take_first-ranker.new.bench.items c.rankers.index c.take_first-ranker.result c.rankers.invariant.left
      c.take_first-ranker.ensures;
  rows = bench_step (λ b. (goal.Ranker-dyn g (b.vtable, b.value)).meaning b.value)
      (record { table = c.args.table.now; weights = c.args.weights.now; arrivals = c.args.arrivals.now; every = c.args.every }) (c.rankers.index + 1)
      c.args.bench.now.items c.rankers.bench.items c.take_first-ranker.new.bench.items c.take_first-ranker.result c.rankers.rows.items c.push.new.self.items
      c.in_ok-name.name c.in_ok-result.result c.take_first-ranker.ensures c.in_ok-result.ensures.replayed c.rankers.invariant.rows c.in_ok-push.ensures.items
      c.in_ok-name.ensures.name;
  taken = taken_more (λ b. (goal.Ranker-dyn g (b.vtable, b.value)).meaning b.value)
      (record { table = c.args.table.now; weights = c.args.weights.now; arrivals = c.args.arrivals.now; every = c.args.every })
      c.args.bench.now.items c.rankers.bench.items c.take_first-ranker.new.bench.items c.rankers.index c.take_first-ranker.result c.rankers.invariant.left
      c.take_first-ranker.ensures c.rankers.rows.items c.push.new.self.items c.in_ok-name.name c.in_ok-result.result c.rankers.invariant.taken
      c.in_ok-result.ensures.replayed c.in_ok-push.ensures.items c.in_ok-name.ensures.name;
  names = subst (All (λ (row : ReplayRow). IsName row.name)) (sym c.in_ok-push.ensures.items)
      (All-push (λ (row : ReplayRow). IsName row.name) c.rankers.rows.items _ c.rankers.invariant.names c.in_ok-name.ensures.letters);
}

pub returns-clause-rows : goal.returns-clause-rows
returns-clause-rows g c =
    let none : c.rankers.bench.items ≡ [] = grind (arith, common_steps) in
    bench_done (λ b. (goal.Ranker-dyn g (b.vtable, b.value)).meaning b.value)
    (record { table = c.args.table.now; weights = c.args.weights.now; arrivals = c.args.arrivals.now; every = c.args.every }) (c.rankers.index + 1)
    c.args.bench.now.items c.rankers.bench.items c.rankers.rows.items none c.rankers.invariant.rows

pub returns-clause-left : goal.returns-clause-left
returns-clause-left g c = (c.rankers.index, c.rankers.invariant.left)

pub returns-in_err-result-clause-left : goal.returns-in_err-result-clause-left
returns-in_err-result-clause-left g c = (
  c.rankers.index + 1,
  next_left c.args.bench.now.items c.rankers.bench.items c.take_first-ranker.new.bench.items c.rankers.index c.take_first-ranker.result
      c.rankers.invariant.left c.take_first-ranker.ensures,
)

pub returns-in_err-name-clause-left : goal.returns-in_err-name-clause-left
returns-in_err-name-clause-left g c = (
  c.rankers.index + 1,
  next_left c.args.bench.now.items c.rankers.bench.items c.take_first-ranker.new.bench.items c.rankers.index c.take_first-ranker.result
      c.rankers.invariant.left c.take_first-ranker.ensures,
)

pub returns-in_err-push-clause-left : goal.returns-in_err-push-clause-left
returns-in_err-push-clause-left g c = (
  c.rankers.index + 1,
  next_left c.args.bench.now.items c.rankers.bench.items c.take_first-ranker.new.bench.items c.rankers.index c.take_first-ranker.result
      c.rankers.invariant.left c.take_first-ranker.ensures,
)

pub returns-in_err-result-clause-too_many : goal.returns-in_err-result-clause-too_many
returns-in_err-result-clause-too_many g c = λ count e.
    let came : TooMany count ≡ c.in_err-result.field-0.0 = carried _ _ (TooMany count) c.from_residual-in_err-result.ensures.1 e in (
      _,
      reached_on_bench (λ b. (goal.Ranker-dyn g (b.vtable, b.value)).meaning b.value) c.args.bench.now.items c.rankers.bench.items
          c.take_first-ranker.new.bench.items c.rankers.index
          c.take_first-ranker.result c.rankers.invariant.left c.take_first-ranker.ensures,
      c.in_err-result.ensures.too_many count (ap Err (sym came)),
    )

pub returns-in_err-name-clause-cut_off : goal.returns-in_err-name-clause-cut_off
returns-in_err-name-clause-cut_off g c = λ e.
    inr
    (were_taken (λ b. (goal.Ranker-dyn g (b.vtable, b.value)).meaning b.value)
    (record { table = c.args.table.now; weights = c.args.weights.now; arrivals = c.args.arrivals.now; every = c.args.every })
    c.args.bench.now.items c.rankers.bench.items c.take_first-ranker.new.bench.items c.rankers.index c.take_first-ranker.result c.rankers.invariant.left
    c.take_first-ranker.ensures c.rankers.rows.items
    c.rankers.invariant.taken)

pub returns-in_err-result-clause-cut_off : goal.returns-in_err-result-clause-cut_off
returns-in_err-result-clause-cut_off g c = λ e.
    inr
    (were_taken (λ b. (goal.Ranker-dyn g (b.vtable, b.value)).meaning b.value)
    (record { table = c.args.table.now; weights = c.args.weights.now; arrivals = c.args.arrivals.now; every = c.args.every })
    c.args.bench.now.items c.rankers.bench.items c.take_first-ranker.new.bench.items c.rankers.index c.take_first-ranker.result c.rankers.invariant.left
    c.take_first-ranker.ensures c.rankers.rows.items
    c.rankers.invariant.taken)

pub returns-in_err-push-clause-cut_off : goal.returns-in_err-push-clause-cut_off
returns-in_err-push-clause-cut_off g c = λ e.
    inr
    (were_taken (λ b. (goal.Ranker-dyn g (b.vtable, b.value)).meaning b.value)
    (record { table = c.args.table.now; weights = c.args.weights.now; arrivals = c.args.arrivals.now; every = c.args.every })
    c.args.bench.now.items c.rankers.bench.items c.take_first-ranker.new.bench.items c.rankers.index c.take_first-ranker.result c.rankers.invariant.left
    c.take_first-ranker.ensures c.rankers.rows.items
    c.rankers.invariant.taken)

pub returns-in_err-result-clause-stops : goal.returns-in_err-result-clause-stops
returns-in_err-result-clause-stops g c = λ count e.
    let came : TooMany count ≡ c.in_err-result.field-0.0 = carried _ _ (TooMany count) c.from_residual-in_err-result.ensures.1 e in
    stops_at (λ b. (goal.Ranker-dyn g (b.vtable, b.value)).meaning b.value)
    (record { table = c.args.table.now; weights = c.args.weights.now; arrivals = c.args.arrivals.now; every = c.args.every })
    c.args.bench.now.items c.rankers.bench.items c.take_first-ranker.new.bench.items c.rankers.index c.take_first-ranker.result c.rankers.invariant.left
    c.take_first-ranker.ensures c.rankers.rows.items count
    c.rankers.invariant.taken (c.in_err-result.ensures.too_many count (ap Err (sym came)))
