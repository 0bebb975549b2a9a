-- What the laws say of a plan whose text was written.
use Rattle.std.proofs.Common.{ℕ, List}
use Rattle.std.specs.Prelude.{Option}
use Rattle.command_words.specs.Words.{Said}
use Rattle.coflow_units.specs.Flows.{Instance}
use Rattle.flow_table.specs.Table.{TableFacts, instance_of}
use Rattle.flow_table.proofs.Whole.{whole}
use Rattle.outside.specs.Shelf.{Told}
use Rattle.plans.proofs.PlanTotals.{plan_bounds, plan_within}
use Rattle.command_files.specs.Written.{Appends}
use Rattle.command_jobs.specs.Plan.{PlanOf, WritesPlan}

pub writes_plan : (S : TableFacts → List (List ℕ) → Type 0) (told : Option Told) (said : Said) (old new : Option (List ℕ)) (text : List ℕ) → PlanOf S told said text →
    Appends old new text → WritesPlan S told said old new
writes_plan S told said old new text plan written =
    let i : Instance = instance_of plan.table plan.weights in
    record {
      text = text;
      plan = plan;
      bounds = plan_bounds i plan.table.ids plan.report plan.planned;
      within = plan_within i plan.table.ids plan.report (whole plan.table plan.weights plan.input.table_fits plan.input.count plan.input.least).instance plan.planned;
      written = written;
    }
