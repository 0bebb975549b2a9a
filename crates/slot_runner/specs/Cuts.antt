-- Where what was sent ends: at a run that fell short, after runs that were sent whole.
use Rattle.std.specs.Prelude.{◌≡◌, ℕ, ◌<◌, List, [], ◌∷◌, ◌++◌, All, Contains, Option}
use Rattle.coflow_units.specs.declared.fabric.Flow.{Flow}
use Rattle.coflow_units.specs.Flows.{ingress_of}
use Rattle.journal.specs.declared.command.Entry.{Entry}
use Rattle.journal.specs.declared.opening.Opening.{Opening}
use Rattle.journal.specs.Closed.{closed_runs, wire_of}
use Rattle.journal.specs.Driven.{Drive, IsDriven}
use Rattle.journal.specs.Journal.{IsLegal}
use Rattle.journal.specs.Runs.{credit}
use Rattle.journal.specs.State.{Run}
use Rattle.slot_runner.specs.Wires.{HaveMore}

-- of each flow that the run granted a unit was sent for each of its slots
abbrev pub WasSentWhole : List Flow → Run → Type 0
WasSentWhole flows r = (f : ℕ) → Contains r.granted f → credit flows r f ≡ r.slots

-- so it is with each run that the journal closed
abbrev pub AllSentWhole : Opening → List Entry → Type 0
AllSentWhole o journal = All (WasSentWhole o.table.flows) (closed_runs o journal)

-- The last run of the journal granted a flow that begins at this port, and fewer units of it were sent than the run has
-- slots. Of each of its flows that begin at lesser ports all units were sent. Each earlier run was sent whole, so that
-- no run was opened after one that fell short.
pub record IsCutAt (o : Opening) (journal : List Entry) (port : ℕ) : Type 0 where
  pub earlier : List Run
  pub run : Run
  pub last : closed_runs o journal ≡ earlier ++ run ∷ []
  pub flow : ℕ
  pub granted : Contains run.granted flow
  pub port_is : ingress_of o.table.flows flow ≡ port
  pub missing : credit o.table.flows run flow < run.slots
  pub lesser : (f : ℕ) → Contains run.granted f → ingress_of o.table.flows f < port →
      credit o.table.flows run f ≡ run.slots
  pub whole : All (WasSentWhole o.table.flows) earlier

module _ {W : Type 0} (runs : W → Option (List (ℕ × ℕ × ℕ))) where
  -- What was sent since is what a legal journal sent, at each port all of it and nothing else. It began so, and went on
  -- by one run of at most so many slots, opened and closed by the driver. This run was cut short at the port, and no
  -- earlier one was.
  pub record HaveStopped (Begins : List Entry → ℕ → Type 0) (o : Opening) (port : ℕ) (before now : List W) : Type 0
    where
      pub begun : List Entry
      pub drive : Drive
      pub begins : Begins begun drive.most
      pub journal : List Entry
      pub goes_on : IsDriven o begun journal drive
      pub alone : drive.earlier ≡ []
      pub legal : IsLegal o journal
      pub cut : IsCutAt o journal port
      pub sent : HaveMore runs (λ p sent. sent ≡ wire_of o journal p) o.table.ports before now
