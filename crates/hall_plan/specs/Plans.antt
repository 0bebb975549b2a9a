-- What a plan is: the schedule that serves the order of the ordering certificate.
use Rattle.std.specs.Prelude.{ℕ, List}
use Rattle.coflow_units.specs.Certificate.{Entry, order_of}
use Rattle.coflow_units.specs.Ordering.{IsOrdering}
use Rattle.coflow_units.specs.Served.{IsServed}
use Rattle.flow_table.specs.Table.{instance_of, TableFacts}

-- the schedule serves the flows of the table in the order of the table's ordering certificate, for these weights
pub record IsPlanned (t : TableFacts) (weights : List ℕ) (slots : List (List ℕ)) : Type 0 where
  pub entries : List Entry
  pub ordering : IsOrdering (instance_of t weights) entries
  pub served : IsServed t.flows (order_of entries) slots
