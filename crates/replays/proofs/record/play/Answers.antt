use Rattle.std.proofs.Common.{◌≡◌, Err, Ok, refl, sym, ap, subst}
use Rattle.epochs.specs.Course.{Course, at_first}
use Rattle.rankers.specs.Meaning.{Meaning}
use Rattle.replays.specs.declared.rows.ReplayFault.TheVariants.{TooMany}
use Rattle.replays.specs.Kept.{Ends, Reaches, input_of}
use Rattle.replays.specs.Replayed.{IsReplayed, IsTooManyFor}
use Rattle.replays.proofs.HandedOn.{carried}
use Rattle.replays.proofs.Reaching.{reaches_first}
use Rattle.replays.proofs.record.play.Goals as goal

pub serve-requires-clause-reaches : goal.serve-requires-clause-reaches
serve-requires-clause-reaches g c =
    let x = input_of c.args.table.now c.args.weights.now (at_first c.args.arrivals.now c.args.every) in
    let ranker : Meaning = (goal.Ranker-dyn g (c.args.ranker.vtable, c.args.ranker.value)).meaning c.args.ranker.value in
    subst (λ (s : Course). Reaches (input_of c.args.table.now c.args.weights.now s) ranker s c.in_ok-kept.kept ranker) (sym c.in_ok-course.ensures)
    (reaches_first x ranker (at_first c.args.arrivals.now c.args.every) c.in_ok-kept.kept c.requires.input refl (c.in_ok-kept.ensures.tells x ranker c.requires.input refl refl))

pub returns-in_err-result-clause-too_many : goal.returns-in_err-result-clause-too_many
returns-in_err-result-clause-too_many g c = λ count e.
    let ranker : Meaning = (goal.Ranker-dyn g (c.args.ranker.vtable, c.args.ranker.value)).meaning c.args.ranker.value in
    let came : TooMany count ≡ c.in_err-result.field-0.0 = carried _ _ (TooMany count) c.from_residual-in_err-result.ensures.1 e in
    subst (λ (s : Course). IsTooManyFor (input_of c.args.table.now c.args.weights.now s) ranker count) c.in_ok-course.ensures
    (c.in_err-result.ensures.too_many count (ap Err (sym came)))

pub returns-clause-replayed : goal.returns-clause-replayed
returns-clause-replayed g c =
    let ranker : Meaning = (goal.Ranker-dyn g (c.args.ranker.vtable, c.args.ranker.value)).meaning c.args.ranker.value in
    subst (λ (s : Course). IsReplayed (input_of c.args.table.now c.args.weights.now s) ranker c.in_ok-result.result) c.in_ok-course.ensures c.in_ok-result.ensures.replayed

pub returns-clause-ends : goal.returns-clause-ends
returns-clause-ends g c = λ total e.
    let ranker : Meaning = (goal.Ranker-dyn g (c.args.ranker.vtable, c.args.ranker.value)).meaning c.args.ranker.value in
    subst (λ (s : Course). Ends (input_of c.args.table.now c.args.weights.now s) ranker c.serve.new.kept) c.in_ok-course.ensures (c.in_ok-result.ensures.ends total (ap Ok e))
