-- The world of interleavings: a master, agents, a word and a count for each ingress port, and the runs that were sent.
use Rattle.std.specs.Prelude.{ℕ, List, [], replicate, Option}
use Rattle.std.specs.List.{slice_index_or}
use Rattle.journal.specs.declared.command.Entry.{Entry}
use Rattle.journal.specs.declared.opening.Opening.{Opening}
use Rattle.journal.specs.State.{Run}
use Rattle.journal.specs.Fold.{state_of}
use Rattle.master_core.specs.Master.{MasterFacts}
use Rattle.world_model.specs.declared.port.PortState.{PortState}
use Rattle.world_model.specs.declared.event.SentRun.{SentRun}
use Rattle.world_model.specs.Port.{PortFacts, idle_port, ports_of}

-- the opening and the journal of the master, how many agents there are, each ingress port, and the runs that were sent,
-- the first first
pub record WorldFacts : Type 0 where
  pub opening : Opening
  pub journal : List Entry
  pub agents : ℕ
  pub ports : List PortFacts
  pub sent : List SentRun

-- what is kept of a world tells these facts
abbrev pub world_facts : MasterFacts → ℕ → List PortState → List SentRun → WorldFacts
world_facts master agents ports sent =
    record { opening = master.opening; journal = master.journal; agents = agents; ports = ports_of ports; sent = sent }

-- before the first step: the master's journal is empty, nothing was posted and nothing sent
abbrev pub new_world : Opening → ℕ → WorldFacts
new_world o agents = record {
  opening = o;
  journal = [];
  agents = agents;
  ports = replicate o.table.ports idle_port;
  sent = [];
}

-- what the port tells, or an idle one where there is no such port
abbrev pub port_at : WorldFacts → ℕ → PortFacts
port_at w port = slice_index_or w.ports port idle_port

-- the master's open run
abbrev pub run_of : WorldFacts → Option Run
run_of w = (state_of w.opening w.journal).run
