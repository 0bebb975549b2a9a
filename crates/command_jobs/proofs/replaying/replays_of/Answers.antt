use Rattle.std.proofs.Common.{◌≡◌, ◌∙◌, ℕ, List, OnOk, ap₂, map, subst}
use Rattle.std.specs.Prelude.{Contains}
use Rattle.rankers.specs.Meaning.{Meaning}
use Rattle.replays.specs.Moments.{Input}
use Rattle.replays.specs.Replayed.{IsTooManyFor}
use Rattle.command_jobs.specs.Replay.{arriving}
use Rattle.command_jobs.proofs.replaying.replays_of.Goals as goal

pub returns-clause-few : goal.returns-clause-few
returns-clause-few g c =
    let x : Input = record {
      table = c.args.input.now.table;
      weights = c.as_slice.result.now;
      arrivals = c.deref.result.now;
      every = c.args.options.epoch;
    } in
    let same : x ≡ arriving c.args.input.now.table c.args.input.now.weights c.args.options.slot_ms c.args.options.epoch =
    ap₂ (λ (ws times : List ℕ). record { table = c.args.input.now.table; weights = ws; arrivals = times; every = c.args.options.epoch }) c.as_slice.ensures
    (c.deref.ensures.value ∙ c.in_ok-arrivals.ensures.arrivals) in
    subst (λ (y : Input). OnOk c.replays_text.result ((ranker : Meaning) (count : ℕ) →
    Contains (map (λ b. (goal.Ranker-dyn g (b.vtable, b.value)).meaning b.value) c.args.bench.now.items) ranker → IsTooManyFor y ranker count → ⊥)) same
    c.replays_text.ensures.few
