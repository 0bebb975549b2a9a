use Rattle.std.proofs.Common.{◌≡◌, ◌∙◌, Err, Ok, Some, refl, sym, ap, subst}
use Rattle.replays.specs.declared.rows.ReplayFault.TheVariants.{TooMany}
use Rattle.epochs.specs.declared.action.Action.TheVariants.{End}
use Rattle.replays.specs.declared.rows.Replayed.{Replayed}
use Rattle.replays.specs.declared.rows.Replayed.TheVariants.{Cost}
use Rattle.replays.specs.Kept.{IsAt, input_of}
use Rattle.replays.specs.Moments.{DoesNext}
use Rattle.replays.proofs.HandedOn.{carried}
use Rattle.replays.proofs.Reaching.{does_next, next_fits, reaches_on, too_many}
use Rattle.replays.proofs.replaying.serve.Goals as goal

pub next-action-requires-clause-owed_len : goal.next-action-requires-clause-owed_len
next-action-requires-clause-owed_len g c =
    (next_fits (input_of c.args.table.now c.args.weights.now c.args.course.now) _ c.actions.course c.actions.kept _ c.actions.invariant.reaches c.deref.result.now
    c.deref.ensures.value).0

pub next-action-requires-clause-time_fits : goal.next-action-requires-clause-time_fits
next-action-requires-clause-time_fits g c =
    (next_fits (input_of c.args.table.now c.args.weights.now c.args.course.now) _ c.actions.course c.actions.kept _ c.actions.invariant.reaches c.deref.result.now
    c.deref.ensures.value).1

pub act-requires : goal.act-requires
act-requires g c =
    let x = input_of c.args.table.now c.args.weights.now c.args.course.now in
    let r = c.actions.invariant.reaches in
    let does = does_next x _ c.actions.course c.actions.kept _ r c.deref.result.now c.next-action.result c.next-action.result
    c.deref.ensures.value c.next-action.ensures.first refl in
    record { may = (x, r.moment, r.at, refl, refl, does) }

pub actions-smaller : goal.actions-smaller
actions-smaller g c =
    let x = input_of c.args.table.now c.args.weights.now c.args.course.now in
    let r = c.actions.invariant.reaches in
    let action = c.next-action.result in
    let does = does_next x _ c.actions.course c.actions.kept _ r c.deref.result.now action action c.deref.ensures.value c.next-action.ensures.first refl in
    let (next, is, tells, later) = c.in_ok-replayed.ensures.goes_on (ap Ok c.in_default.is) x r.moment r.at refl does r.ranker_is in
    (reaches_on x _ c.actions.course c.next-action.new.self c.actions.kept c.act.new.kept _ _ r action action next does is tells c.next-action.ensures.course refl later).less

pub actions-preserved : goal.actions-preserved
actions-preserved g c =
    let x = input_of c.args.table.now c.args.weights.now c.args.course.now in
    let r = c.actions.invariant.reaches in
    let action = c.next-action.result in
    let does = does_next x _ c.actions.course c.actions.kept _ r c.deref.result.now action action c.deref.ensures.value c.next-action.ensures.first refl in
    let (next, is, tells, later) = c.in_ok-replayed.ensures.goes_on (ap Ok c.in_default.is) x r.moment r.at refl does r.ranker_is in
    record {
      reaches = (reaches_on x _ c.actions.course c.next-action.new.self c.actions.kept c.act.new.kept _ _ r action action next does is tells c.next-action.ensures.course refl
          later).reaches;
      recorded = c.in_ok-replayed.ensures.recorded ∙ c.actions.invariant.recorded;
    }

pub returns-in-Some-clause-replayed : goal.returns-in-Some-clause-replayed
returns-in-Some-clause-replayed g c =
    let x = input_of c.args.table.now c.args.weights.now c.args.course.now in
    let r = c.actions.invariant.reaches in
    let does = does_next x _ c.actions.course c.actions.kept _ r c.deref.result.now c.next-action.result c.next-action.result
    c.deref.ensures.value c.next-action.ensures.first refl in
    c.in_ok-replayed.ensures.ends c.in-Some.replayed (ap Ok c.in-Some.is) x r.moment _ r.reached r.at refl refl does r.ranker_is

pub returns-in-Some-clause-ends : goal.returns-in-Some-clause-ends
returns-in-Some-clause-ends g c = λ total e.
    let x = input_of c.args.table.now c.args.weights.now c.args.course.now in
    let r = c.actions.invariant.reaches in
    let cost : c.in-Some.replayed ≡ Cost total = cc in
    let (action, same) = c.in_ok-replayed.ensures.last total (ap Ok c.in-Some.is ∙ ap (λ (p : Replayed). Ok (Some p)) cost) in
    let does = does_next x _ c.actions.course c.actions.kept _ r c.deref.result.now c.next-action.result End
    c.deref.ensures.value c.next-action.ensures.first action in
    record { moment = r.moment; reached = r.reached; ends = does; at = subst (IsAt x r.moment) (sym same) r.at }

pub returns-in-Some-clause-recorded : goal.returns-in-Some-clause-recorded
returns-in-Some-clause-recorded g c = c.in_ok-replayed.ensures.recorded ∙ c.actions.invariant.recorded

pub returns-in_err-replayed-clause-too_many : goal.returns-in_err-replayed-clause-too_many
returns-in_err-replayed-clause-too_many g c = λ count e.
    let x = input_of c.args.table.now c.args.weights.now c.args.course.now in
    let r = c.actions.invariant.reaches in
    let does = does_next x _ c.actions.course c.actions.kept _ r c.deref.result.now c.next-action.result c.next-action.result
    c.deref.ensures.value c.next-action.ensures.first refl in
    let came : TooMany count ≡ c.in_err-replayed.field-0.0 = carried _ _ (TooMany count) c.from_residual.ensures.1 e in
    too_many x _ c.actions.course c.actions.kept _ r count (subst (DoesNext x r.moment) (c.in_err-replayed.ensures.too_many count (ap Err (sym came))) does)

pub actions-init : goal.actions-init
actions-init g c = record { reaches = c.requires.reaches; recorded = refl }

pub returns-in-Some-clause-too_many : goal.returns-in-Some-clause-too_many
returns-in-Some-clause-too_many g c = λ count e. absurd (cc)
