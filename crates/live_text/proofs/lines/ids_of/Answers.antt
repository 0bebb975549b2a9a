use Rattle.std.proofs.Common.{◌<◌, ◌^◌, arith}
use Rattle.std.specs.List.{flat_map}
use Rattle.coflow_units.specs.Text.{spaced}
use Rattle.report_text.proofs.FlowText.{stops_flows}
use Rattle.report_text.proofs.PartText.{not_empty}
use Rattle.live_text.proofs.LineReading.{next_id, one_id}
use Rattle.live_text.proofs.lines.ids_of.Goals as goal

pub returns-in_default : goal.returns-in_default
returns-in_default c = λ ys h e.
    let next = next_id c.args.bytes.now c.loop-rest.rest.now c.loop-rest.ids.items ys c.loop-rest.invariant h e (not_empty c.loop-rest.rest.now c.loop-rest-test.ensures) in
    c.in_default.ensures next.0 (flat_map spaced next.1) (omega (arith, next.2)) (stops_flows next.1) next.3

pub loop-rest-preserved : goal.loop-rest-preserved
loop-rest-preserved c =
    let small : c.in-Some.id < 2 ^ 32 = omega (arith, c.in-Some.ensures.0) in
    rw c.in_ok-push.ensures.items (one_id c.args.bytes.now c.loop-rest.rest.now c.loop-rest.ids.items c.in-Some.behind.now c.in-Some.id c.loop-rest.invariant small
    c.in-Some.ensures.1 c.in-Some.ensures.2)
