use Rattle.std.proofs.Common.{◌≡◌, [], ap, ◌∙◌, subst, sym}
use Rattle.journal.specs.declared.opening.Opening.{Opening}
use Rattle.flow_table.specs.Table.{TableFacts}
use Rattle.hall_plan.specs.Halls.{MayPlan}
use Rattle.hall_plan.proofs.PlanTurns.{first_plan}
use Rattle.hall_plan.proofs.beginning.begin.Goals as goal

pub returns-in-Ok-new-clause-runner : goal.returns-in-Ok-new-clause-runner
returns-in-Ok-new-clause-runner g c =
    let ports : c.ports-ports.result ≡ c.in-Ok-begin.hall.setting.opening.table.ports =
    c.ports-ports.ensures.ports ∙ ap (λ (t : TableFacts). t.ports) c.table.ensures ∙ sym (ap (λ (o : Opening). o.table.ports) c.in-Ok-begin.ensures.opening) in
    subst (λ r. MayPlan c.in-Ok-begin.hall r []) (sym c.in-Ok-new.ensures.runner)
    (first_plan c.in-Ok-begin.hall c.publish.new.driver c.ports-ports.result c.publish.ensures.alone ports)
