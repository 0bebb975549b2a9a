use Rattle.std.proofs.Common.{List, subst}
use Rattle.std.specs.Prelude.{slice_index}
use Rattle.coflow_units.specs.declared.fabric.Flow.{Flow}
use Rattle.matching.specs.Matching.{IsSettled}
use Rattle.master_core.proofs.runs.Runs.grant_anew.Goals as goal

pub returns-clause-settled : goal.returns-clause-settled
returns-clause-settled c =
    subst (λ (l : List Flow). IsSettled l c.args.line.now (λ f. slice_index c.args.owed.now f) c.begin.new.self) c.flows.ensures.flows c.begin.ensures.settled
