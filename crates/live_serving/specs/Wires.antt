-- What a run of `live` left on the wires.
use Rattle.std.specs.Prelude.{◌≡◌, ℕ, ◌≤◌, List, Option}
use Rattle.coflow_units.specs.Flows.{units_of}
use Rattle.coflow_units.specs.Schedule.{times}
use Rattle.journal.specs.declared.command.Entry.{Entry}
use Rattle.journal.specs.declared.opening.Opening.{Opening}
use Rattle.journal.specs.Closed.{schedule_of, wire_of}
use Rattle.journal.specs.Journal.{IsLegal}
use Rattle.slot_runner.specs.Cuts.{IsCutAt}
use Rattle.slot_runner.specs.Wires.{AreAllUnits, HaveMore}

module _ {W : Type 0} (runs : W → Option (List (ℕ × ℕ × ℕ))) where
  -- the wires have what they had, and then what the journal sent
  abbrev pub HaveSent : Opening → List Entry → List W → List W → Type 0
  HaveSent o journal before now =
      HaveMore runs (λ port sent. sent ≡ wire_of o journal port) o.table.ports before now

  -- What was sent since are the units of the schedule of a legal journal, each once, at the wire of its ingress port,
  -- and nothing else. The schedule has no flow more often than the flow has units.
  pub record HaveServed (o : Opening) (before now : List W) : Type 0 where
    pub journal : List Entry
    pub legal : IsLegal o journal
    pub within : (f : ℕ) → times (schedule_of o journal) f ≤ units_of o.table.flows f
    pub units : HaveMore runs (AreAllUnits o.table.flows (schedule_of o journal)) o.table.ports before now

  -- what was sent since is what a legal journal sent, whose last run was cut short at the port
  pub record HaveStopped (o : Opening) (port : ℕ) (before now : List W) : Type 0 where
    pub journal : List Entry
    pub legal : IsLegal o journal
    pub cut : IsCutAt o journal port
    pub sent : HaveSent o journal before now
