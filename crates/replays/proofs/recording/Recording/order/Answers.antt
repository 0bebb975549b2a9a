use Rattle.std.proofs.Common.{◌∙◌, List, sym, subst}
use Rattle.coflow_units.specs.declared.fabric.Flow.{Flow}
use Rattle.master_core.specs.Published.{IsLeft}
use Rattle.master_core.proofs.PlaceSteps.{filled_is_left}
use Rattle.replays.proofs.recording.Recording.order.Goals as goal

pub returns-clause-order : goal.returns-clause-order
returns-clause-order c = λ i is.
    let old = c.args.self.now.loads in
    let left = c.args.left.now in
    let present = c.args.present.now in
    let own = subst (λ (fs : List Flow). IsLeft i fs left c.deref.result.now present old.ports) (sym c.flows.ensures.flows)
    (subst (λ w. IsLeft i c.args.table.now.flows left w present old.ports) (sym c.deref.ensures.value)
    (subst (λ n. IsLeft i c.args.table.now.flows left c.args.self.now.weights.items present n) (sym c.requires.room.ports) is)) in
    c.run.ensures.order i (filled_is_left i c.flows.result.now left c.deref.result.now present old c.fill_by_coflow.new.self own c.fill_by_coflow.ensures.size
    (c.requires.left.each_present ∙ sym c.requires.room.coflows) c.fill_by_coflow.ensures.present_are)
