use Rattle.flow_table.proofs.CoflowSteps.{lent_sends_to}
use Rattle.flow_table.proofs.StopSteps.{passed_up}
use Rattle.flow_table.proofs.flows.push_coflow.Goals as goal

pub returns-in_err-push_sources-clause-full : goal.returns-in_err-push_sources-clause-full
returns-in_err-push_sources-clause-full c =
    let to = lent_sends_to c.args.unit.megabytes c.args.line.now c.in_ok-places.places.items c.in_ok-rests.rests.items c.deref.result.now c.deref-2.result.now c.deref-4.result.now
    c.in_ok-targets.targets.items c.deref-3.result.now
    c.in_ok-places.ensures.sums c.in_ok-rests.ensures.sums c.in_ok-targets.ensures.wholes c.in_ok-targets.ensures.all c.deref.ensures.value c.deref-2.ensures.value
    c.deref-4.ensures.value c.deref-3.ensures.value in
    passed_up c.from_residual-in_err-push_sources.result c.in_err-push_sources.field-0.0 _ _ c.from_residual-in_err-push_sources.ensures.1 c.in_err-push_sources.ensures.full
    (λ full sends is before. full sends (λ i. to i (sends c.args.coflow i) (is i)) before)

pub returns-clause-pushed : goal.returns-clause-pushed
returns-clause-pushed c = λ sends is before.
    let to = lent_sends_to c.args.unit.megabytes c.args.line.now c.in_ok-places.places.items c.in_ok-rests.rests.items c.deref.result.now c.deref-2.result.now c.deref-4.result.now
    c.in_ok-targets.targets.items c.deref-3.result.now
    c.in_ok-places.ensures.sums c.in_ok-rests.ensures.sums c.in_ok-targets.ensures.wholes c.in_ok-targets.ensures.all c.deref.ensures.value c.deref-2.ensures.value
    c.deref-4.ensures.value c.deref-3.ensures.value in
    c.in_ok-push_sources.ensures.pushed sends (λ i. to i (sends c.args.coflow i) (is i)) before
