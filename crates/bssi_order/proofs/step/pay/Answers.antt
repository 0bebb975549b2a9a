use Rattle.std.proofs.Common.{◌≡◌, ◌+◌, ◌-◌, ◌*◌, ◌<◌, length, slice_index, ap, arith}
use Rattle.port_load.specs.LoadTable.{load_at}
use Rattle.bssi_order.proofs.TableSteps.{paid_more, paid_none, paid_past}
use Rattle.bssi_order.proofs.step.pay.Goals as goal

pub loaded-init : goal.loaded-init
loaded-init c =
    let e = c.next_loaded-coflow.ensures in
    record {
      within = omega (arith, e.within, c.coflows-coflows.ensures.coflows_are);
      so_far = paid_past c.args.loads.now c.args.port c.args.y c.args.residuals.now c.args.residuals.now 0 c.next_loaded-coflow.result
          (paid_none c.args.loads.now c.args.port c.args.y c.args.residuals.now) e.after e.none;
    }

pub loaded-preserved : goal.loaded-preserved
loaded-preserved c =
    let t = c.args.loads.now in
    let k = c.loaded.coflow in
    let n = c.coflows-coflows.ensures.coflows_are in
    let e = c.next_loaded-coflow-in-loaded.ensures in
    let lt : k < length c.args.residuals.now = omega (arith, c.loaded-test.true, n, c.requires.residuals_len) in
    let paid : slice_index c.loaded.residuals k - c.args.y * c.get.result ≡ slice_index c.args.residuals.now k - c.args.y * load_at t k c.args.port =
    omega (arith, c.loaded.invariant.so_far.later k (omega arith), ap (λ m. c.args.y * m) c.get.ensures) in
    let more = paid_more t c.args.port c.args.y c.args.residuals.now c.loaded.residuals k (slice_index c.loaded.residuals k - c.args.y * c.get.result) c.loaded.invariant.so_far lt
    paid in
    record {
      within = omega (arith, e.within, n);
      so_far = paid_past t c.args.port c.args.y c.args.residuals.now _ (k + 1) c.next_loaded-coflow-in-loaded.result more e.after e.none;
    }
