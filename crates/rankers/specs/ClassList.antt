-- The coflows of a table in classes, and the schedule that serves the class order.
use Rattle.std.specs.Prelude.{◌≡◌, ℕ, ◌≤◌, List, map, slice_index}
use Rattle.coflow_units.specs.Completion.{cost}
use Rattle.coflow_units.specs.Schedule.{IsRuns}
use Rattle.coflow_units.specs.Served.{IsServed}
use Rattle.class_rates.specs.Cap.{cap}
use Rattle.class_rates.specs.ClassPatient.{IsClassPatient}
use Rattle.class_rates.specs.declared.fold.Fold.{Fold}
use Rattle.class_rates.specs.Classes.{ClassFacts, IsClassOrder, class_by, class_of, size_by}
use Rattle.flow_table.specs.Table.{TableFacts, instance_of}
use Rattle.rankers.specs.ByKey.{key_in}
use Rattle.rankers.specs.FactsTold.{FactsTold, IsFacts, IsFactsOf}
use Rattle.report_text.specs.declared.classed.ClassText.{ClassText}
use Rattle.report_text.specs.declared.classed.Member.{Member}
use Rattle.schedule_model.specs.RunList.{pairs_of}

-- the member that a coflow is, by the classes of the coflows and their ids
abbrev pub member_of : (ℕ → ℕ) → List ℕ → ℕ → Member
member_of class ids coflow = record { class_number = class coflow; id = slice_index ids coflow }

-- The list tells these classes of the coflows of a table: the members in the class order, the cap of the classes, and the
-- schedule that serves the class order with its cost.
pub record IsListOf (t : TableFacts) (weights : List ℕ) (classes : ClassFacts) (c : ClassText) : Type 0 where
  pub slots : List (List ℕ)
  pub served : IsServed t.flows classes.order slots
  pub members_are : c.members ≡ map (member_of (class_of classes) t.ids) classes.order
  pub cap_is : c.cap ≡ cap t.flows (instance_of t weights).weight (instance_of t weights).coflows (class_of classes)
  pub cost_is : c.cost ≡ cost t.flows (instance_of t weights).weight (instance_of t weights).coflows slots
  pub runs_are : IsRuns slots (pairs_of c.runs)

-- the class of a coflow, where the order by bottleneck, select, scale, iterate is folded into so many classes; a coflow's
-- load is its greatest load on a port
abbrev pub class_of_facts : FactsTold → Fold → ℕ → ℕ → ℕ
class_of_facts facts by classes = class_by (size_by by (key_in facts.bottlenecks)) facts.order classes

-- The order by bottleneck, select, scale, iterate was folded into so many classes: the members in the class order, the cap
-- of the classes, and the schedule that serves the class order with its cost. The schedule keeps the classes and leaves no
-- port idle that could serve, so it costs at most the cap.
pub record IsClassList (t : TableFacts) (weights : List ℕ) (by : Fold) (classes : ℕ) (c : ClassText) : Type 0 where
  pub facts : FactsTold
  pub facts_hold : IsFacts facts
  pub facts_are : IsFactsOf t weights facts
  pub line : List ℕ
  pub line_is : IsClassOrder facts.order (class_of_facts facts by classes) line
  pub slots : List (List ℕ)
  pub served : IsServed t.flows line slots
  pub patient : IsClassPatient t.flows (class_of_facts facts by classes) slots
  pub members_are : c.members ≡ map (member_of (class_of_facts facts by classes) t.ids) line
  pub cap_is : c.cap ≡ cap t.flows (instance_of t weights).weight (instance_of t weights).coflows
      (class_of_facts facts by classes)
  pub cost_is : c.cost ≡ cost t.flows (instance_of t weights).weight (instance_of t weights).coflows slots
  pub within : c.cost ≤ c.cap
  pub runs_are : IsRuns slots (pairs_of c.runs)
