use Rattle.std.proofs.Common.{◌^◌, slice_index, arith}
use Rattle.bssi_order.proofs.TableSteps.{within_total}
use Rattle.dual_cert.proofs.ValueSteps.{weight_small}
use Rattle.release_bound.proofs.ArrivalSteps.{end_none, end_some}
use Rattle.release_bound.proofs.certificate.earliest_end.Goals as goal

pub returns-then-load-eq0 : goal.returns-then-load-eq0
returns-then-load-eq0 c = λ flows arrival has time. end_none c.args.loads.now c.args.coflow c.bottleneck-load.result flows arrival has c.bottleneck-load.ensures
    (omega (arith, c.if-load-eq0.true))

pub overflow_add-result : goal.overflow_add-result
overflow_add-result c =
    let (port, lt, at) = c.bottleneck-load.ensures.some in
    omega (
      arith,
      at,
      within_total c.args.loads.now c.args.coflow port c.requires.coflow_in,
      c.requires.totals_fit port lt,
      weight_small c.args.arrivals.now (2 ^ 32) c.args.coflow c.requires.arrivals_fit,
    )

pub returns : goal.returns
returns c = λ flows arrival has time. end_some c.args.loads.now c.args.coflow c.bottleneck-load.result
    (slice_index c.args.arrivals.now c.args.coflow) flows arrival has c.bottleneck-load.ensures
    (λ none. omega (arith, c.if-load-eq0.false, none)) time
