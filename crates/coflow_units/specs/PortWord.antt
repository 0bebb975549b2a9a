-- The word that an ingress port shows to all threads: what became of the last grant that was posted there.
use Rattle.std.specs.Prelude.{ℕ, ◌+◌, ◌*◌, ◌/◌, ◌%◌, ◌<◌, ◌==◌, Bool, true, false, Option, Some, None}
use Rattle.coflow_units.specs.declared.port_word.PostStage.{PostStage}
use Rattle.coflow_units.specs.declared.port_word.PostStage.TheVariants.{Granted, Drawn, Reported}

-- no grant was posted; it is posted and nobody drew it; the agent of this number drew it; that agent reported so many
-- units; it was taken back, drawn by nobody
pub data PortStage : Type 0 where
  unposted : PortStage
  granted : PortStage
  drawn : ℕ → PortStage
  reported : ℕ → ℕ → PortStage
  taken_back : PortStage

-- the word of a port whose last post has this stage, slot and flow: 3 bits of stage, 41 of the slot, 20 of the flow
abbrev pub word_of : PortStage → ℕ → ℕ → ℕ
word_of unposted slot flow = 0
word_of granted slot flow = 2305843009213693952 + (slot * 1048576 + flow)
word_of (drawn agent) slot flow = 4611686018427387904 + (slot * 1048576 + flow)
word_of (reported agent units) slot flow = 6917529027641081856 + (slot * 1048576 + flow)
word_of taken_back slot flow = 0

-- the post waits for an agent
abbrev pub is_granted : PortStage → Bool
is_granted granted = true
is_granted stage = false

-- the agent drew it and has not reported
abbrev pub is_drawn_by : ℕ → PortStage → Bool
is_drawn_by agent (drawn a) = a == agent
is_drawn_by agent stage = false

-- a slot of 41 bits and a flow of 20 bits
abbrev pub FitsWord : ℕ → ℕ → Type 0
FitsWord slot flow = (slot < 2199023255552) × (flow < 1048576)

abbrev pub slot_of : ℕ → ℕ
slot_of word = (word / 1048576) % 2199023255552

abbrev pub flow_of : ℕ → ℕ
flow_of word = word % 1048576

-- the number of a stage in a word
abbrev pub code_of : PostStage → ℕ
code_of Granted = 1
code_of Drawn = 2
code_of Reported = 3

-- the word shows a post in this stage: granted and not drawn, drawn and not reported, or reported
abbrev pub shows : PostStage → ℕ → Bool
shows stage word = word / 2305843009213693952 == code_of stage

abbrev pub shows_granted : ℕ → Bool
shows_granted = shows Granted

abbrev pub shows_drawn : ℕ → Bool
shows_drawn = shows Drawn

abbrev pub shows_reported : ℕ → Bool
shows_reported = shows Reported

-- what the word of a port tells of its stage: nothing where nothing was posted or the post was taken back, and never
-- the agent or the units
abbrev pub told_stage : PortStage → Option PostStage
told_stage unposted = None
told_stage granted = Some Granted
told_stage (drawn agent) = Some Drawn
told_stage (reported agent units) = Some Reported
told_stage taken_back = None
