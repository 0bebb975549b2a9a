-- An ingress port of the world: the grant that was posted there last, and what became of it.
use Rattle.std.specs.Prelude.{ℕ, List, map, Option, Some, None}
use Rattle.coflow_units.specs.PortWord.{PortStage, word_of}
use Rattle.coflow_units.specs.PortWord.PortStage.{unposted, granted, drawn, reported, taken_back}
use Rattle.world_model.specs.declared.event.Happened.{Happened}
use Rattle.world_model.specs.declared.event.Happened.TheVariants.{Busy, Settled}
use Rattle.world_model.specs.declared.port.Stage.{Stage}
use Rattle.world_model.specs.declared.port.Stage.TheVariants.{Unposted, Granted, Drawn, Reported, TakenBack}
use Rattle.world_model.specs.declared.port.PortState.{PortState}

-- the slot and the flow of the last post, with slot 0 where there was none, the stage that the post is in, the count
-- beside the word, and what was settled since a run was opened last
pub record PortFacts : Type 0 where
  pub slot : ℕ
  pub flow : ℕ
  pub stage : PortStage
  pub count : ℕ
  pub settled : Option ℕ

-- the stage of a port's word that a kept stage stands for
abbrev pub stage_of : Stage → PortStage
stage_of Unposted = unposted
stage_of Granted = granted
stage_of (Drawn agent) = drawn agent
stage_of (Reported agent units) = reported agent units
stage_of TakenBack = taken_back

-- what a kept port tells
abbrev pub port_of : PortState → PortFacts
port_of x = record { slot = x.slot; flow = x.flow; stage = stage_of x.stage; count = x.count; settled = x.settled }

-- what kept ports tell, one after another
abbrev pub ports_of : List PortState → List PortFacts
ports_of xs = map port_of xs

-- a port at which nothing was posted
abbrev pub idle_port : PortFacts
idle_port = record { slot = 0; flow = 0; stage = unposted; count = 0; settled = None }

-- the port after its post in this stage was settled: a reported post is settled by its count; a post that nobody drew
-- is taken back and settled by 0; one that an agent has drawn stays
abbrev pub settled_by : PortFacts → PortStage → PortFacts
settled_by x (reported agent units) = record x { settled = Some x.count }
settled_by x granted = record x { stage = taken_back; settled = Some 0 }
settled_by x stage = x

-- what the settling of a post in this stage is answered: its count, or 0, or, where an agent has drawn it, the word
abbrev pub answered_by : PortFacts → PortStage → Happened
answered_by x (drawn agent) = Busy (word_of (drawn agent) x.slot x.flow)
answered_by x (reported agent units) = Settled x.count
answered_by x stage = Settled 0
