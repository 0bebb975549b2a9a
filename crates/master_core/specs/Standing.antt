-- What is kept beside a journal, so as not to read it again, and what it tells of the state.
use Rattle.std.specs.Prelude.{◌≡◌, ℕ, ◌+◌, ◌<◌, ◌≤◌, ◌&&◌, true, not, List, All, Contains}
use Rattle.std.specs.Prelude.{length, map, slice_index, Option, Some, None}
use Rattle.coflow_units.specs.declared.limits.TheConstants.{MAX_WEIGHT}
use Rattle.coflow_units.specs.declared.fabric.Flow.{Flow}
use Rattle.coflow_units.specs.Flows.{Instance}
use Rattle.journal.specs.declared.command.Command.{Command}
use Rattle.journal.specs.declared.command.Reply.{Reply}
use Rattle.journal.specs.declared.opening.Opening.{Opening}
use Rattle.master_core.specs.declared.standing.Standing.{Standing}
use Rattle.journal.specs.State.{has, IsOpening, owed, Run, slot_end, State}
use Rattle.master_core.specs.Attendance.{Attendance, marked}
use Rattle.journal.specs.Line.{newest_in}
use Rattle.master_core.specs.Published.{Published, TellsPlaces, ranked}
use Rattle.master_core.specs.OpenRun.{FitsOpen, KeepsGrants, KeptRun, TellsIngresses, note_at}
use Rattle.matching.specs.Matching.{room_of}
use Rattle.master_core.specs.Waiting.{line_of}
use Rattle.journal.specs.Runs.{note_in}
use Rattle.journal.specs.Fold.{after}
use Rattle.journal.specs.Answer.{answer}

-- the roster has the coflows that joined, and marks those of them that have not left
pub record TellsCoflows (joined left : List ℕ) (x : Attendance) : Type 0 where
  pub joined_is : x.joined ≡ joined
  pub present_is : (coflow : ℕ) → marked x.present coflow ≡ (has joined coflow && not (has left coflow))
  pub gone : (coflow : ℕ) → has left coflow ≡ true → has joined coflow ≡ true

-- the version and the places are those of the last publishing, and its coflows joined
pub record TellsOrders (joined : List ℕ) (published : List Instance) (x : Published) : Type 0 where
  pub version_is : x.version ≡ length published
  pub places_are : TellsPlaces published x.places
  pub order_is : ranked x.places ≡ newest_in published
  pub named : (coflow : ℕ) → Contains (newest_in published) coflow → has joined coflow ≡ true

-- the kept run is the open run
pub record TellsOpen (flows : List Flow) (ports : ℕ) (r : Run) (x : KeptRun) : Type 0 where
  pub first : x.first ≡ r.first
  pub slots : x.slots ≡ r.slots
  pub granted : x.granted ≡ r.granted
  pub at : TellsIngresses flows r.granted x.tables
  pub noted_len : length x.noted ≡ ports
  pub noted : (ingress : ℕ) → ingress < ports → note_at x.noted ingress ≡ note_in r.notes ingress

abbrev pub TellsRun : List Flow → ℕ → Option Run → Option KeptRun → Type 0
TellsRun flows ports None None = Unit {0}
TellsRun flows ports None (Some x) = ⊥
TellsRun flows ports (Some r) None = ⊥
TellsRun flows ports (Some r) (Some x) = TellsOpen flows ports r x

-- what is kept tells the state
pub record Tells (o : Opening) (s : State) (x : Standing) : Type 0 where
  pub coflows : TellsCoflows s.joined s.left x.roster
  pub weight : (coflow : ℕ) → coflow < length o.table.ids → slice_index x.weights.items coflow ≡ s.weight coflow
  pub orders : TellsOrders s.joined s.published x.orders
  pub owed : (f : ℕ) → slice_index x.ledger.owed f ≡ owed o s f
  pub run : TellsRun o.table.flows o.table.ports s.run x.runs.run
  pub next : x.next ≡ s.next

-- What is kept has the sizes of the opening and numbers within their limits. Where the kept grants are fresh, they are
-- those of the line and of the ledger.
pub record IsFit (o : Opening) (x : Standing) : Type 0 where
  pub opening : IsOpening o
  pub present_len : length x.roster.present ≡ length o.table.ids
  pub weights_len : length x.weights.items ≡ length o.table.ids
  pub weights_fit : All (λ w. w ≤ MAX_WEIGHT) x.weights.items
  pub orders_coflows : x.orders.coflows ≡ length o.table.ids
  pub orders_ports : x.orders.ports ≡ o.table.ports
  pub line_room : length o.table.ids + length o.table.ids ≤ x.line.room
  pub units : x.ledger.units ≡ map (λ (f : Flow). f.units) o.table.flows
  pub owed_len : length x.ledger.owed ≡ length o.table.flows
  pub runs_ports : x.runs.ports ≡ o.table.ports
  pub runs_room : room_of x.runs.tables ≡ length o.table.flows
  pub grants : KeepsGrants o.table.flows (line_of x.roster x.orders) x.ledger.owed x.runs
  pub run : FitsOpen o.table.flows x.ledger.owed x.runs.run
  pub next_ends : x.next ≤ slot_end

-- the reply is that of the state that was told, and the state after it is told
pub record Follows (o : Opening) (k : Command) (old : Standing) (reply : Reply) (new : Standing) : Type 0 where
  pub reply_is : (s : State) → Tells o s old → reply ≡ answer o s k
  pub state_is : (s : State) → Tells o s old → Tells o (after o s k (answer o s k)) new
  pub fit : IsFit o new
