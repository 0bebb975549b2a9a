use Rattle.std.proofs.Common.{◌*◌, ◌/◌, ◌≤◌, slice_index, subst, sym}
use Rattle.port_load.specs.LoadTable.{load_at}
use Rattle.bssi_order.proofs.TableSteps.{affordable}
use Rattle.bssi_order.proofs.step.choose_at.Goals as goal

pub returns-clause-affordable : goal.returns-clause-affordable
returns-clause-affordable c = λ coflow lt.
    subst (λ n. (slice_index c.args.residuals.now c.least_ratio-coflow.result / n) * load_at c.args.loads.now coflow c.args.port ≤
    slice_index c.args.residuals.now coflow) (sym c.get-own.ensures)
    (affordable c.args.loads.now c.args.residuals.now c.args.port c.least_ratio-coflow.result c.least_ratio-coflow.ensures coflow lt)
