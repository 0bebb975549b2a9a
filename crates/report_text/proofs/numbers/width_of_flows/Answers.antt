use Rattle.std.proofs.Common.{◌≡◌, ◌+◌, ◌-◌, ◌^◌, get_or, min, take, ap, ◌∙◌, arith}
use Rattle.std.proofs.lemmas.List.{take_all}
use Rattle.report_text.proofs.DigitText.{is_short}
use Rattle.report_text.proofs.FlowsText.{width, width_more}
use Rattle.report_text.proofs.numbers.width_of_flows.Goals as goal

pub overflow_add-width_of : goal.overflow_add-width_of
overflow_add-width_of c =
    let k = c.loop-flow.flow-index in
    omega (arith, c.width_of.ensures, is_short (get_or c.args.flows.now k 0) (omega (arith, c.type_inv.flows k)))

pub loop-flow-preserved : goal.loop-flow-preserved
loop-flow-preserved c =
    let k = c.loop-flow.flow-index in
    let next : c.saturating_add-width.result ≡ min (width (take (k + 1) c.args.flows.now)) (2 ^ 64 - 1) = omega (
      arith,
      c.saturating_add-width.ensures,
      c.loop-flow.invariant,
      c.width_of.ensures,
      width_more c.args.flows.now k c.loop-flow-test.true,
    ) in
    next

pub returns : goal.returns
returns c = c.loop-flow.invariant ∙ ap (λ xs. min (width xs) (2 ^ 64 - 1)) (take_all c.loop-flow.flow-index c.args.flows.now c.loop-flow-test.false)
