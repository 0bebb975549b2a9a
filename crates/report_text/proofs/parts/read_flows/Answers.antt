use Rattle.std.proofs.Common.{◌≡◌, ◌<◌, ◌^◌, ◌∷◌, [], ◌++◌, arith}
use Rattle.std.specs.List.{flat_map}
use Rattle.std.specs.List.Sorted.{IsStrictlyIncreasing}
use Rattle.coflow_units.specs.Text.{spaced}
use Rattle.report_text.proofs.PartText.{empty_is, not_empty}
use Rattle.report_text.proofs.FlowText.{flows_read, next_flow, none_yet, one_more, same_flow, shorter, stops_flows}
use Rattle.report_text.proofs.parts.read_flows.Goals as goal

pub returns-in_default : goal.returns-in_default
returns-in_default c = λ ys h e.
    let next = next_flow c.args.bytes.now c.loop-rest.rest.now c.loop-rest.flows.items ys c.loop-rest.invariant h e (not_empty c.loop-rest.rest.now c.loop-rest-test.ensures) in
    c.in_default.ensures next.flow (flat_map spaced next.others) (omega (arith, next.small)) (stops_flows next.others) next.here

pub returns-then-not-rises : goal.returns-then-not-rises
returns-then-not-rises c = λ ys h e.
    let next = next_flow c.args.bytes.now c.loop-rest.rest.now c.loop-rest.flows.items ys c.loop-rest.invariant h e (not_empty c.loop-rest.rest.now c.loop-rest-test.ensures) in
    let same : c.in-Some.flow ≡ next.flow =
    same_flow c.loop-rest.rest.now c.loop-rest.flows.items ys c.in-Some.behind.now c.in-Some.flow next (omega (arith, c.in-Some.ensures.0)) c.in-Some.ensures.1
    c.in-Some.ensures.2 in
    let up : IsStrictlyIncreasing (c.deref.result.now ++ (c.in-Some.flow ∷ [])) = rw (c.deref.ensures.value, same) next.rises in
    c.if-not-rises.ensures up

pub loop-rest-preserved : goal.loop-rest-preserved
loop-rest-preserved c =
    let before : IsStrictlyIncreasing c.deref.result.now = rw c.deref.ensures.value c.loop-rest.invariant.flows_are.0 in
    let after : IsStrictlyIncreasing (c.loop-rest.flows.items ++ (c.in-Some.flow ∷ [])) = rw c.deref.ensures.value at (c.if-not-rises.ensures before) in
    let small : c.in-Some.flow < 2 ^ 32 = omega (arith, c.in-Some.ensures.0) in
    rw c.in_ok-push.ensures.items (one_more c.args.bytes.now c.loop-rest.rest.now c.loop-rest.flows.items c.in-Some.behind.now c.in-Some.flow c.loop-rest.invariant small
    c.in-Some.ensures.1 c.in-Some.ensures.2 after)

pub loop-rest-init : goal.loop-rest-init
loop-rest-init c = none_yet c.args.bytes.now c.clear.new.self.items c.clear.ensures.items c.requires

pub loop-rest-smaller : goal.loop-rest-smaller
loop-rest-smaller c = shorter c.loop-rest.rest.now c.in-Some.behind.now c.in-Some.flow c.in-Some.ensures.1

pub returns : goal.returns
returns c = flows_read c.args.bytes.now c.loop-rest.rest.now c.loop-rest.flows.items c.loop-rest.invariant (empty_is c.loop-rest.rest.now c.loop-rest-test.ensures)
