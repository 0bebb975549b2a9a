-- Before the first slot each flow has all its units.
use Rattle.std.proofs.Common.{ℕ, subst, ◌∙◌}
use Rattle.matching.specs.Matching.{IsSettled}
use Rattle.slot_switch.proofs.RunSteps.{all_left}
use Rattle.slot_switch.proofs.simulation.first_grants.Goals as goal

pub returns : goal.returns
returns c = subst (λ (left : ℕ → ℕ). IsSettled c.args.flows.now c.args.order.now left c.begin.new.self)
    (all_left c.args.flows.now c.deref.result.now (c.deref.ensures.value ∙ c.in_ok-units.ensures)) c.begin.ensures.settled
