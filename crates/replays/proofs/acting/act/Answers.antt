use Rattle.std.proofs.Common.{◌≡◌, ℕ, ◌+◌, ◌≤◌, List, length, refl, sym, ap, subst, ◌∙◌, arith}
use Rattle.std.specs.Prelude.{All}
use Rattle.epochs.specs.declared.action.Action.TheVariants.{Publish, Register, Run, Skip, Withdraw}
use Rattle.replays.specs.declared.rows.Replayed.TheVariants.{Cost, Unfit}
use Rattle.replays.specs.Acting.{EndsAs}
use Rattle.replays.proofs.Acts.{cost_listed, ends_served, ends_unfit, goes_joined, goes_left, goes_published, goes_run, goes_skipped, may, may_of}
use Rattle.replays.proofs.acting.act.Goals as goal

pub join-requires : goal.join-requires
join-requires g c = record { may = may c.args.table.now c.args.weights.now c.args.kept.now c.args.action (Register c.in-Register.coflow) c.requires.may c.in-Register.is }

pub leave-requires : goal.leave-requires
leave-requires g c = record { may = may c.args.table.now c.args.weights.now c.args.kept.now c.args.action (Withdraw c.in-Withdraw.coflow) c.requires.may c.in-Withdraw.is }

pub skip-requires : goal.skip-requires
skip-requires g c = record { may = may c.args.table.now c.args.weights.now c.args.kept.now c.args.action (Skip c.in-Skip.to) c.requires.may c.in-Skip.is }

pub run-requires : goal.run-requires
run-requires g c = record { may = may_of c.args.table.now c.args.weights.now c.args.kept.now c.args.action (Run c.in-Run.most) c.requires.may c.in-Run.is }

pub publish-requires : goal.publish-requires
publish-requires g c = record { may = may_of c.args.table.now c.args.weights.now c.args.kept.now c.args.action Publish c.requires.may c.in-Publish.is }

pub overflow_add-epoch : goal.overflow_add-epoch
overflow_add-epoch g c =
    let (x, m, at, same, does) = may_of c.args.table.now c.args.weights.now c.args.kept.now c.args.action Publish c.requires.may c.in-Publish.is in
    omega (arith, at.tells.published, does.applies.1)

pub cost_of-requires-clause-each : goal.cost_of-requires-clause-each
cost_of-requires-clause-each g c =
    let (x, m, at, same, weights, does) = c.requires.may in
    ap (λ (l : List ℕ). length l) c.deref.ensures.value ∙ at.tells.each.ends ∙ sym at.input.each_weight ∙ ap (λ (l : List ℕ). length l) weights

pub cost_of-requires-clause-few : goal.cost_of-requires-clause-few
cost_of-requires-clause-few g c =
    let (x, m, at, same, weights, does) = c.requires.may in
    omega (arith, at.input.each_weight, ap (λ (l : List ℕ). length l) weights, at.input.table.few_coflows)

pub cost_of-requires-clause-small : goal.cost_of-requires-clause-small
cost_of-requires-clause-small g c =
    let (x, m, at, same, weights, does) = c.requires.may in
    subst (All (λ w. w ≤ 4294967296)) weights at.input.weight

pub returns-in_ok-join-in-Register-clause-goes_on : goal.returns-in_ok-join-in-Register-clause-goes_on
returns-in_ok-join-in-Register-clause-goes_on g c = λ e.
    goes_joined c.args.table.now c.args.kept.now _ _ c.args.action c.in-Register.coflow c.in-Register.is c.in_ok-join-in-Register.ensures.tells

pub returns-in-Withdraw-clause-goes_on : goal.returns-in-Withdraw-clause-goes_on
returns-in-Withdraw-clause-goes_on g c = λ e. goes_left c.args.table.now c.args.kept.now _ _ c.args.action c.in-Withdraw.coflow c.in-Withdraw.is c.leave.ensures.tells

pub returns-in_ok-run-in-Run-clause-goes_on : goal.returns-in_ok-run-in-Run-clause-goes_on
returns-in_ok-run-in-Run-clause-goes_on g c = λ e. goes_run c.args.table.now c.args.kept.now _ _ c.args.action c.in-Run.most c.in-Run.is c.in_ok-run-in-Run.ensures.tells

pub returns-in_ok-skip-in-Skip-clause-goes_on : goal.returns-in_ok-skip-in-Skip-clause-goes_on
returns-in_ok-skip-in-Skip-clause-goes_on g c = λ e. goes_skipped c.args.table.now c.args.kept.now _ _ c.args.action c.in-Skip.to c.in-Skip.is c.in_ok-skip-in-Skip.ensures.tells

pub returns-in-None-clause-goes_on : goal.returns-in-None-clause-goes_on
returns-in-None-clause-goes_on g c = λ e.
    goes_published c.args.table.now c.args.kept.now _ _ _ c.args.action c.in_ok-place-in-Publish.field-0 c.in-Publish.is c.in-None.is c.in_ok-place-in-Publish.ensures.publishes

pub returns-in-Some-clause-ends : goal.returns-in-Some-clause-ends
returns-in-Some-clause-ends g c = λ replayed e.
    let epoch = c.args.kept.now.questions.published + 1 in
    let same : Unfit epoch c.in-Some.place ≡ replayed = cc in
    subst (EndsAs c.args.table.now c.args.weights.now c.args.kept.now _ c.args.action) same
    (ends_unfit c.args.table.now c.args.weights.now c.args.kept.now _ _ _ c.args.action c.in_ok-place-in-Publish.field-0 epoch c.in-Some.place c.in-Publish.is c.in-Some.is refl
    c.in_ok-place-in-Publish.ensures.publishes)

pub returns-in-End-clause-ends : goal.returns-in-End-clause-ends
returns-in-End-clause-ends g c = λ replayed e.
    let total = c.cost_of.result in
    let same : Cost total ≡ replayed = cc in
    subst (EndsAs c.args.table.now c.args.weights.now c.args.kept.now _ c.args.action) same
    (ends_served c.args.table.now c.args.weights.now c.args.kept.now _ c.args.action total c.in-End.is (λ x m at table weights.
    cost_listed x m c.args.kept.now c.deref.result.now c.args.weights.now total at weights c.deref.ensures.value c.cost_of.ensures.cost))
