use Rattle.std.proofs.Common.{◌≡◌, ◌+◌, ◌++◌, List, ℕ, ap, arith, ◌∙◌}
use Rattle.coflow_units.specs.Text.{ended}
use Rattle.live_text.specs.Text.{order_line}
use Rattle.live_text.proofs.TextSteps.{numbered_step}
use Rattle.live_text.proofs.writing.push_orders.Goals as goal

pub loop-index-preserved : goal.loop-index-preserved
loop-index-preserved c =
    let k = c.loop-index.index in
    let ids : List ℕ = c.index-orders-index.result in
    let written : c.push_order.new.text.items ≡ c.loop-index.text.items ++ ended (order_line (k + 1) ids) =
    c.in_ok-push_order.ensures ∙ ap (λ xs. c.loop-index.text.items ++ ended (order_line (k + 1) xs)) c.as_slice.ensures in
    numbered_step order_line c.args.orders.now k ids c.args.text.now.items c.loop-index.text.items c.push_order.new.text.items (omega (arith, c.loop-index-test.true))
    c.index-orders-index.is c.loop-index.invariant written
