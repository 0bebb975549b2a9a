-- A run of `live`, with what is printed of it.
use Rattle.std.specs.Prelude.{◌≡◌, ℕ, List, Option}
use Rattle.flow_table.specs.Table.{TableFacts}
use Rattle.journal.specs.declared.command.Entry.{Entry}
use Rattle.journal.specs.declared.opening.Opening.{Opening}
use Rattle.workload.specs.declared.script.Script.{Script}
use Rattle.live_text.specs.declared.value.Live.{Live}
use Rattle.live_model.specs.Clause.{IsLiveRun}
use Rattle.live_model.specs.Sent.{Wires}
use Rattle.slot_runner.specs.Wires.{HaveMore}

-- what the master begins with
abbrev pub opening_with : TableFacts → List ℕ → ℕ → Opening
opening_with table weights limit = record { table = table; weights = weights; limit = limit }

-- the value is that of a run of `live`, and the wires have what they had, and then what that run sent
pub record IsToldRun {W : Type 0} (runs : W → Option (List (ℕ × ℕ × ℕ))) (o : Opening) (script : Script) (most : ℕ)
    (live : Live) (before now : List W) : Type 0 where
  pub journal : List Entry
  pub sent : Wires
  pub run : IsLiveRun o script most live journal sent
  pub wires : HaveMore runs (λ port more. more ≡ sent port) o.table.ports before now
