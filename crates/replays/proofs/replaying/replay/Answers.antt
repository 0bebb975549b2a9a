use Rattle.std.proofs.Common.{refl, sym, subst}
use Rattle.std.specs.Prelude.{IfOk}
use Rattle.epochs.specs.Course.{Course, at_first}
use Rattle.rankers.specs.Meaning.{Meaning}
use Rattle.replays.specs.declared.rows.Replayed.{Replayed}
use Rattle.replays.specs.Kept.{Reaches, input_of}
use Rattle.replays.specs.Replayed.{IsInput, IsReplayed, IsTooManyFor}
use Rattle.replays.proofs.Reaching.{reaches_first}
use Rattle.replays.proofs.replaying.replay.Goals as goal

pub serve-requires-clause-input : goal.serve-requires-clause-input
serve-requires-clause-input g c =
    subst (λ (s : Course). IsInput (input_of c.args.table.now c.args.weights.now s)) (sym c.in_ok-course.ensures) c.requires.input

pub serve-requires-clause-reaches : goal.serve-requires-clause-reaches
serve-requires-clause-reaches g c =
    let first = at_first c.args.arrivals.now c.args.every in
    let ranker : Meaning = (goal.Ranker-dyn g (c.args.ranker.vtable, c.args.ranker.value)).meaning c.args.ranker.value in
    subst (λ (s : Course). Reaches (input_of c.args.table.now c.args.weights.now s) ranker s c.in_ok-kept.kept ranker) (sym c.in_ok-course.ensures)
    (reaches_first (input_of c.args.table.now c.args.weights.now first) ranker first c.in_ok-kept.kept c.requires.input refl
    (c.in_ok-kept.ensures.tells (input_of c.args.table.now c.args.weights.now first) ranker c.requires.input refl refl))

pub returns-clause-replayed : goal.returns-clause-replayed
returns-clause-replayed g c =
    let ranker : Meaning = (goal.Ranker-dyn g (c.args.ranker.vtable, c.args.ranker.value)).meaning c.args.ranker.value in
    subst (λ (s : Course). IfOk c.serve.result (λ (r : Replayed). IsReplayed (input_of c.args.table.now c.args.weights.now s) ranker r))
    c.in_ok-course.ensures c.serve.ensures.replayed

pub returns-clause-too_many : goal.returns-clause-too_many
returns-clause-too_many g c = λ count e.
    let ranker : Meaning = (goal.Ranker-dyn g (c.args.ranker.vtable, c.args.ranker.value)).meaning c.args.ranker.value in
    subst (λ (s : Course). IsTooManyFor (input_of c.args.table.now c.args.weights.now s) ranker count) c.in_ok-course.ensures (c.serve.ensures.too_many count e)
