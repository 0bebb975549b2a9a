use Rattle.std.proofs.Common.{get_or, length, slice_index, refl, subst}
use Rattle.std.proofs.lemmas.List.{take_all}
use Rattle.online_check.proofs.WaitingSteps.{LeastWaiting, least_falls, least_stays}
use Rattle.online_check.proofs.early.least_waiting.Goals as goal

pub loop-flow-preserved-then-arrivals-coflow : goal.loop-flow-preserved-then-arrivals-coflow
loop-flow-preserved-then-arrivals-coflow c =
    least_stays c.args.flows.now (slice_index c.args.arrivals.now) c.args.gone c.args.numbers.now c.loop-flow.flow-index _ (length c.args.arrivals.now) c.loop-flow.least
    c.loop-flow-test.true refl c.if-arrivals-coflow.true c.loop-flow.invariant

pub loop-flow-preserved : goal.loop-flow-preserved
loop-flow-preserved c =
    let f = get_or c.args.numbers.now c.loop-flow.flow-index 0 in
    let inside = c.requires.coflows f record { coflow = 0; ingress = 0; egress = 0; units = 0 } (c.requires.names c.loop-flow.flow-index 0 c.loop-flow-test.true) in
    least_falls c.args.flows.now (slice_index c.args.arrivals.now) c.args.gone c.args.numbers.now c.loop-flow.flow-index _ (length c.args.arrivals.now) c.lesser.result
    c.loop-flow.least c.loop-flow-test.true refl inside c.if-arrivals-coflow.false c.loop-flow.invariant c.lesser.ensures.within c.lesser.ensures.cases

pub returns : goal.returns
returns c =
    subst (λ l. LeastWaiting c.args.flows.now (slice_index c.args.arrivals.now) c.args.gone l (length c.args.arrivals.now) c.loop-flow.least)
    (take_all c.loop-flow.flow-index c.args.numbers.now c.loop-flow-test.false) c.loop-flow.invariant
