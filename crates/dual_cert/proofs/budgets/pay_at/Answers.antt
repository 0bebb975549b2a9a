use Rattle.std.proofs.Common.{◌+◌, min, refl, ap, ◌∙◌, arith}
use Rattle.std.specs.Prelude.{slice_index}
use Rattle.dual_cert.proofs.BudgetSteps.{most, paid_more, paid_none, paid_past}
use Rattle.dual_cert.proofs.budgets.pay_at.Goals as goal

pub loaded-init : goal.loaded-init
loaded-init c =
    let e = c.next_loaded-coflow.ensures in
    record {
      within = omega (arith, e.within, c.coflows-coflows.ensures.coflows_are);
      so_far = paid_past c.args.loads.now c.args.charges.now c.args.place c.args.paid.now c.args.paid.now 0 c.next_loaded-coflow.result
          (paid_none c.args.loads.now c.args.charges.now c.args.place c.args.paid.now) e.after e.none;
    }

pub loaded-preserved : goal.loaded-preserved
loaded-preserved c =
    let t = c.args.loads.now in
    let charges = c.args.charges.now in
    let k = c.loaded.coflow in
    let n = c.coflows-coflows.ensures.coflows_are in
    let e = c.next_loaded-coflow-in-loaded.ensures in
    let before = slice_index c.loaded.paid k in
    let product = c.saturating_mul.ensures in
    let sum = c.saturating_add.ensures ∙ ap (λ m. min (before + m) most) product in
    let more = paid_more t charges c.args.place c.args.paid.now c.loaded.paid k c.load_in_front-load.result before c.saturating_add.result c.loaded.invariant.so_far
    (omega (arith, c.loaded-test.true, n, c.requires.paid_len, c.coflows-coflows.ensures.limit)) c.load_in_front-load.ensures refl sum in
    record {
      within = omega (arith, e.within, n);
      so_far = paid_past t charges c.args.place c.args.paid.now _ (k + 1) c.next_loaded-coflow-in-loaded.result more e.after e.none;
    }

pub returns : goal.returns
returns c = λ k u lt is. c.loaded.invariant.so_far.paid k u (omega (arith, lt, c.loaded-test.false, c.coflows-coflows.ensures.coflows_are)) is
