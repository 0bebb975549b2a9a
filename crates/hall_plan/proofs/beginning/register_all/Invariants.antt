use Rattle.hall_plan.specs.Halls.{IsAlone}
use Rattle.hall_plan.specs.Journals.{joins}
use Rattle.hall_plan.proofs.beginning.register_all.Given as goal

abbrev pub invariant-loop-coflow : goal.invariant-loop-coflow
invariant-loop-coflow g l = record { alone : IsAlone l.hall l.driver (joins l.coflow) }
