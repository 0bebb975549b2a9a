-- What the wires have of a plan.
use Rattle.std.specs.Prelude.{◌≡◌, ℕ, ◌<◌, List, Option, length}
use Rattle.std.specs.List.{slice_index_or}
use Rattle.flow_table.specs.Table.{TableFacts}
use Rattle.slot_runner.specs.Cuts.{HaveStopped}
use Rattle.hall_plan.specs.Journals.{IsPlanBegun}
use Rattle.hall_plan.specs.Plans.{IsPlanned}
use Rattle.slot_runner.specs.Wires.{AreAllUnits, AreUnits, HaveMore, StopsAt}
use Rattle.journal.specs.declared.opening.Opening.{Opening}
use Rattle.outside.specs.Rose.{Rose}

module _ {W : Type 0} (runs : W → Option (List (ℕ × ℕ × ℕ))) where
  -- each wire has the units of the schedule at its port, each once, behind what it had, and nothing else
  abbrev pub SendsAll : List W → List W → TableFacts → List (List ℕ) → Type 0
  SendsAll before after t slots = HaveMore runs (AreAllUnits t.flows slots) t.ports before after

  -- each wire has units of the plan's schedule at its port, none twice, behind what it had, and nothing else
  pub record SendsPart (before after : List W) (t : TableFacts) (weights : List ℕ) : Type 0 where
    pub slots : List (List ℕ)
    pub planned : IsPlanned t weights slots
    pub sent : HaveMore runs (AreUnits t.flows slots) t.ports before after

module _ {W : Type 0} (faults : W → ℕ) (runs : W → Option (List (ℕ × ℕ × ℕ))) where
  -- The count of faults of the port's wire rose. Of the units of the plan's schedule one at this port is missing in the
  -- last slot, and of those at lesser ports none up to that slot. A master of the table with these weights has a
  -- journal that sent what was sent: of a plan whose last run was cut short at the port, and whose earlier runs were
  -- sent whole.
  pub record StopsShort (before after : List W) (port : ℕ) (t : TableFacts) (weights : List ℕ) : Type 0 where
    pub fits : port < t.ports
    pub wire : port < length before
    pub rose : (b a : W) → Rose (faults (slice_index_or before port b)) (faults (slice_index_or after port a))
    pub slots : List (List ℕ)
    pub planned : IsPlanned t weights slots
    pub last : ℕ
    pub least : HaveMore runs (StopsAt t.flows slots port last) t.ports before after
    pub opening : Opening
    pub table_is : opening.table ≡ t
    pub weights_are : opening.weights ≡ weights
    pub stopped : HaveStopped runs (IsPlanBegun opening) opening port before after
