-- What is granted in the run that is open after a journal.
use Rattle.std.specs.Prelude.{◌≡◌, ℕ, List, map, Option}
use Rattle.coflow_units.specs.Flows.{ingress_of}
use Rattle.journal.specs.declared.command.Entry.{Entry}
use Rattle.journal.specs.declared.opening.Opening.{Opening}
use Rattle.journal.specs.Fold.{state_of}
use Rattle.journal.specs.Runs.{flow_at, flows_granted}

-- for each ingress the flow that is granted there in the run that is open after the journal
abbrev pub flow_granted : Opening → List Entry → ℕ → Option ℕ
flow_granted o journal ingress = flow_at o.table.flows (state_of o journal).run ingress

-- the flows of that run by number, and none where no run is open
abbrev pub all_granted : Opening → List Entry → List ℕ
all_granted o journal = flows_granted (state_of o journal).run

-- what is kept of the grants: how many ingress ports there are, the granted flows by number, and the ingress of each
pub record GrantedModel : Type 0 where
  pub ports : ℕ
  pub flows : List ℕ
  pub ingresses : List ℕ

-- they tell what is granted after the journal
pub record TellsGrants (o : Opening) (journal : List Entry) (g : GrantedModel) : Type 0 where
  pub ports : g.ports ≡ o.table.ports
  pub flows : g.flows ≡ all_granted o journal
  pub ingresses : g.ingresses ≡ map (ingress_of o.table.flows) (all_granted o journal)
