use Rattle.std.proofs.Common.{◌<◌, subst, sym}
use Rattle.port_load.proofs.CoflowSteps.{present_at_most, total_at_most}
use Rattle.port_load.proofs.loads.Loads.fill_by_coflow.Goals as goal

-- src/filling.rt:14:5
pub returns-clause-totals_within : goal.returns-clause-totals_within
returns-clause-totals_within c = λ port lp.
    let now = c.loop-coflow.self in
    let most = present_at_most c.args.self.now now c.args.flows.now c.args.left.now c.args.present.now c.loop-coflow.coflow c.loop-coflow.invariant in
    let lp' = subst (λ n. port.number < n) (sym c.loop-coflow.invariant.size.ports) lp in
    total_at_most now c.args.flows.now c.args.left.now most c.requires.left_len port lp'
