use Rattle.std.proofs.Common.{List, get_or, subst}
use Rattle.coflow_units.specs.declared.fabric.Flow.{Flow}
use Rattle.matching.specs.Matching.{IsSettled}
use Rattle.replays.proofs.line.Line.grant.Goals as goal

pub returns-then-self-clause-settled : goal.returns-then-self-clause-settled
returns-then-self-clause-settled c =
    subst (λ (fs : List Flow). IsSettled fs c.args.self.now.coflows.items (λ f. get_or c.args.left.now f 0) c.begin.new.self) c.flows.ensures.flows
    (subst (λ l. IsSettled c.flows.result.now l (λ f. get_or c.args.left.now f 0) c.begin.new.self) c.deref.ensures.value c.begin.ensures.settled)
