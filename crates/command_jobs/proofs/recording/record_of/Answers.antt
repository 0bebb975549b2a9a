use Rattle.std.proofs.Common.{◌≡◌, ◌≤◌, ◌+◌, ◌∙◌, ℕ, List, IfOk, OnOk, ap, ap₂, length, subst, sym}
use Rattle.std.specs.Prelude.{All}
use Rattle.coflow_units.specs.declared.limits.TheConstants.{MAX_ARRIVAL, MAX_WEIGHT}
use Rattle.rankers.specs.Meaning.{Meaning}
use Rattle.replays.specs.Moments.{Input}
use Rattle.replays.specs.Replayed.{IsInput, IsTooManyFor}
use Rattle.command_jobs.specs.Record.{IsRightIfRun}
use Rattle.command_jobs.specs.Replay.{arriving}
use Rattle.command_jobs.proofs.PolicyFacts.{arrivals_within, right_if_ok}
use Rattle.command_jobs.proofs.recording.record_of.Goals as goal

pub returns-clause-few : goal.returns-clause-few
returns-clause-few g c =
    let x : Input = record {
      table = c.args.input.now.table;
      weights = c.as_slice.result.now;
      arrivals = c.deref.result.now;
      every = c.args.options.epoch;
    } in
    let ranker : Meaning = (goal.Ranker-dyn g (c.args.ranker.vtable, c.args.ranker.value)).meaning c.args.ranker.value in
    let same : x ≡ arriving c.args.input.now.table c.args.input.now.weights c.args.options.slot_ms c.args.options.epoch =
    ap₂ (λ (ws times : List ℕ). record { table = c.args.input.now.table; weights = ws; arrivals = times; every = c.args.options.epoch }) c.as_slice.ensures
    (c.deref.ensures.value ∙ c.in_ok-arrivals.ensures.arrivals) in
    subst (λ (y : Input). OnOk c.record_replay.result ((count : ℕ) → IsTooManyFor y ranker count → ⊥)) same c.record_replay.ensures.few

pub returns-clause-right : goal.returns-clause-right
returns-clause-right g c =
    let x : Input = record {
      table = c.args.input.now.table;
      weights = c.as_slice.result.now;
      arrivals = c.deref.result.now;
      every = c.args.options.epoch;
    } in
    let ranker : Meaning = (goal.Ranker-dyn g (c.args.ranker.vtable, c.args.ranker.value)).meaning c.args.ranker.value in
    let same : x ≡ arriving c.args.input.now.table c.args.input.now.weights c.args.options.slot_ms c.args.options.epoch =
    ap₂ (λ (ws times : List ℕ). record { table = c.args.input.now.table; weights = ws; arrivals = times; every = c.args.options.epoch }) c.as_slice.ensures
    (c.deref.ensures.value ∙ c.in_ok-arrivals.ensures.arrivals) in
    let times = subst (All (λ a. a ≤ MAX_ARRIVAL)) (sym c.deref.ensures.value) c.in_ok-arrivals.ensures.range in
    let input : IsInput x = record {
      table = c.requires.table;
      each_weight = ap (λ (l : List ℕ). length l) c.as_slice.ensures ∙ c.requires.count;
      weight = subst (All (λ w. w ≤ MAX_WEIGHT)) (sym c.as_slice.ensures) c.requires.weights;
      each_arrival = ap (λ (l : List ℕ). length l) c.deref.ensures.value ∙ c.in_ok-arrivals.ensures.each;
      arrival = arrivals_within c.deref.result.now times;
      some = c.args.options.some_epoch;
      most = c.args.options.epoch_limit;
    } in
    subst (λ (y : Input). IfOk c.record_replay.result (IsRightIfRun y)) same
    (right_if_ok c.records_are_right.ensures.sound c.records_are_right.ensures.total x ranker c.record_replay.result input c.requires.ids c.record_replay.ensures.recorded)
