-- The closed runs with what they credit to each flow, as they are taken down entry by entry.
use Rattle.std.specs.Prelude.{◌≡◌, ℕ, ◌+◌, ◌-◌, ◌==◌, ◌&&◌, Bool, nat_le, nat_lt, if◌then◌else◌, List, [], map, Option}
use Rattle.std.specs.Prelude.{Some, None, option_map}
use Rattle.std.specs.List.{filter, flat_map, range_with_len}
use Rattle.coflow_units.specs.declared.fabric.Flow.{Flow}
use Rattle.coflow_units.specs.Flows.{ingress_of}
use Rattle.journal.specs.declared.command.Entry.{Entry}
use Rattle.journal.specs.declared.opening.Opening.{Opening}
use Rattle.journal.specs.declared.tally.Credit.{Credit}
use Rattle.journal.specs.declared.tally.CreditedRun.{CreditedRun}
use Rattle.journal.specs.State.{Run}
use Rattle.journal.specs.Runs.{credit}
use Rattle.journal.specs.Fold.{state_of}
use Rattle.journal.specs.Closed.{closed_runs, sent_run}

-- what contracts see of a tally: the closed runs, and the open one
pub record TalliedRuns : Type 0 where
  pub closed : List CreditedRun
  pub current : Option CreditedRun

-- so many units are credited to the flow
abbrev pub credit_at : List Flow → ℕ → ℕ → Credit
credit_at flows f units = record { flow = f; ingress = ingress_of flows f; units = units }

-- the run with what it credits to each flow that it grants
abbrev pub credited : List Flow → Run → CreditedRun
credited flows r = record {
  first = r.first;
  slots = r.slots;
  credits = map (λ f. credit_at flows f (credit flows r f)) r.granted;
}

-- The tally has the closed runs of the journal and its open run, each with what it credits to each flow that it grants.
pub record IsTally (o : Opening) (journal : List Entry) (x : TalliedRuns) : Type 0 where
  pub closed : x.closed ≡ map (credited o.table.flows) (closed_runs o journal)
  pub current : x.current ≡ option_map (credited o.table.flows) (state_of o journal).run

-- the credit, with so many units where the flow begins at the port
abbrev pub noted_credit : ℕ → ℕ → Credit → Credit
noted_credit port units c = if c.ingress == port then record c { units = units } else c

-- so many units are credited to each flow of the run that begins at the port
abbrev pub with_note : Option CreditedRun → ℕ → ℕ → Option CreditedRun
with_note None port units = None
with_note (Some r) port units = Some (record r { credits = map (noted_credit port units) r.credits })

-- ---- the schedule and the wires of credited runs

-- so many units, one a slot from the first slot on, have one in the slot
abbrev pub has_slot : ℕ → ℕ → ℕ → Bool
has_slot first units slot = nat_le first slot && nat_lt slot (first + units)

-- the flows of the run that stand in the slot: a flow with so many credited units stands in so many slots, from the
-- first slot of the run on
abbrev pub tallied_in : ℕ → CreditedRun → List ℕ
tallied_in slot r = map (λ (c : Credit). c.flow) (filter (λ (c : Credit). has_slot r.first c.units slot) r.credits)

-- the schedule that the runs make: the slots from slot 1 on that came before the next slot, each with the flows that
-- stand in it
abbrev pub tallied_schedule : List CreditedRun → ℕ → List (List ℕ)
tallied_schedule runs next = map (λ slot. flat_map (tallied_in slot) runs) (range_with_len 1 (next - 1))

-- what the credit sent from the port in a run with this first slot
abbrev pub credit_at_port : ℕ → ℕ → Credit → List (ℕ × ℕ × ℕ)
credit_at_port port first c = if c.ingress == port then sent_run first c.flow c.units else []

-- what the run sent from the port: each of its flows that begins there, from its first slot on, by its credit
abbrev pub tallied_at : ℕ → CreditedRun → List (ℕ × ℕ × ℕ)
tallied_at port r = flat_map (credit_at_port port r.first) r.credits

-- what the runs sent from the port, in order
abbrev pub tallied_wire : List CreditedRun → ℕ → List (ℕ × ℕ × ℕ)
tallied_wire runs port = flat_map (tallied_at port) runs
