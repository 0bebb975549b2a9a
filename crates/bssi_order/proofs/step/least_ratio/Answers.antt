use Rattle.std.proofs.Common.{◌≡◌, ◌+◌, ◌^◌, ◌<◌, slice_index, subst, sym, arith}
use Rattle.bssi_order.proofs.TableSteps.{LeastSoFar, least_keep, least_load_fits, least_none, least_of, least_past, least_take, product_fits, within_total}
use Rattle.bssi_order.proofs.step.least_ratio.Goals.{then-ours-theirs, else-ours-theirs}
use Rattle.bssi_order.proofs.step.least_ratio.Goals as goal

pub loaded-init : goal.loaded-init
loaded-init c =
    let e = c.next_loaded-coflow.ensures in
    let n = c.coflows-coflows.ensures.coflows_are in
    record {
      within = omega (arith, e.within, n);
      here = λ lt. e.loaded (omega (arith, lt, n));
      so_far = least_past c.args.loads.now c.args.residuals.now c.args.port 0 0 0 c.next_loaded-coflow.result (least_none c.args.loads.now c.args.residuals.now c.args.port) e.after
          e.none;
    }

pub overflow_mul-ours : goal.overflow_mul-ours
overflow_mul-ours c =
    let k = c.loaded.coflow in
    let fits = least_load_fits c.args.loads.now c.args.residuals.now c.args.port c.loaded.least c.loaded.least_load k (2 ^ 40) c.loaded.invariant.so_far c.requires.total_fits in
    let own = c.requires.residuals_fit k (omega (arith, c.loaded-test.true, c.coflows-coflows.ensures.coflows_are)) in
    omega (arith, product_fits (slice_index c.args.residuals.now k) c.loaded.least_load own fits)

pub bounds-residuals-least : goal.bounds-residuals-least
bounds-residuals-least c = omega (arith, c.loaded.invariant.so_far.small, c.loaded-test.true, c.coflows-coflows.ensures.coflows_are, c.requires.residuals_len)

pub overflow_mul-theirs : goal.overflow_mul-theirs
overflow_mul-theirs c =
    let n = c.coflows-coflows.ensures.coflows_are in
    let fits = within_total c.args.loads.now c.loaded.coflow c.args.port (omega (arith, c.loaded-test.true, n)) in
    let own = c.requires.residuals_fit c.loaded.least (omega (arith, c.loaded.invariant.so_far.small, c.loaded-test.true, n)) in
    omega (arith, product_fits (slice_index c.args.residuals.now c.loaded.least) c.get-load.result own (omega (arith, fits, c.get-load.ensures, c.requires.total_fits)))

pub loaded-preserved : goal.loaded-preserved
loaded-preserved c =
    let t = c.args.loads.now in
    let r = c.args.residuals.now in
    let port = c.args.port in
    let k = c.loaded.coflow in
    let load = c.get-load.result in
    let n = c.coflows-coflows.ensures.coflows_are in
    let e = c.next_loaded-coflow-in-loaded.ensures in
    let so_far = c.loaded.invariant.so_far in
    let some : 0 < load = omega (arith, c.loaded.invariant.here c.loaded-test.true, c.get-load.ensures) in
    let more : LeastSoFar t r port c.if-ours-theirs.least c.if-ours-theirs.least_load (k + 1) = elim c.if-ours-theirs.branch [
      | then-ours-theirs w ↦ subst (λ l. LeastSoFar t r port l c.if-ours-theirs.least_load (k + 1)) (sym w.least-is)
          (subst (λ m. LeastSoFar t r port k m (k + 1)) (sym w.least_load-is)
          (least_take t r port c.loaded.least c.loaded.least_load k load so_far (omega (arith, c.loaded-test.true, n)) c.get-load.ensures some w.if-ours-theirs.true))
      | else-ours-theirs w ↦ subst (λ l. LeastSoFar t r port l c.if-ours-theirs.least_load (k + 1)) (sym w.least-is)
          (subst (λ m. LeastSoFar t r port c.loaded.least m (k + 1)) (sym w.least_load-is)
          (least_keep t r port c.loaded.least c.loaded.least_load k load so_far c.get-load.ensures w.if-ours-theirs.false))
    ] in
    record {
      within = omega (arith, e.within, n);
      here = λ lt. e.loaded (omega (arith, lt, n));
      so_far = least_past t r port c.if-ours-theirs.least c.if-ours-theirs.least_load (k + 1) c.next_loaded-coflow-in-loaded.result more e.after e.none;
    }

pub returns : goal.returns
returns c =
    let t = c.args.loads.now in
    let end : c.loaded.coflow ≡ t.coflows = omega (arith, c.loaded-test.false, c.loaded.invariant.within, c.coflows-coflows.ensures.coflows_are) in
    least_of t c.args.residuals.now c.args.port c.loaded.least c.loaded.least_load
    (subst (λ n. LeastSoFar t c.args.residuals.now c.args.port c.loaded.least c.loaded.least_load n) end c.loaded.invariant.so_far) c.requires.some
