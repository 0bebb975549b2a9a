-- How the ports of a run are settled and noted, port by port.
use Rattle.std.specs.Prelude.{◌≡◌, ℕ, ◌+◌, ◌<◌, ◌≤◌, nat_lt, if◌then◌else◌, false, true, List, [], ◌∷◌, ◌++◌, Contains, length, map, Option, Some, None}
use Rattle.coflow_units.specs.declared.fabric.Flow.{Flow}
use Rattle.journal.specs.declared.command.Entry.{Entry}
use Rattle.journal.specs.declared.opening.Opening.{Opening}
use Rattle.journal.specs.Driven.{Drive, driven, driver_entries, IsUnderWay, NoneNotedFrom, sent_from, times_noted}
use Rattle.journal.specs.Runs.{grant_in}
use Rattle.port_board.specs.declared.view.Came.{Came}
use Rattle.port_board.specs.declared.view.Grant.{Grant}
use Rattle.port_board.specs.declared.view.View.{View}
use Rattle.port_board.specs.Agreement.{NobodyHad}
use Rattle.port_board.specs.Views.{grant, is_unsettled, last_at, report, settlement}
use Rattle.client_session.specs.Drivers.{StaysInHall}
use Rattle.client_session.specs.Models.{DriverModel}
use Rattle.slot_runner.specs.Posts.{settlements_of}

-- The post of a port that waits to be settled, once all agents came back: one of them had it, and one that drew it
-- reported so many units.
pub record MustBeSent (w : View) (g : Grant) (units : ℕ) : Type 0 where
  pub last : last_at g.port w.posts ≡ Some g
  pub waits : is_unsettled g.port w.posts w.settled ≡ true
  pub somebody : NobodyHad g w → ⊥
  pub only : (c : Came) (n : ℕ) → Contains w.back c → Contains c.done (report g n) → n ≡ units

-- the last post of the port was settled by this number of units, which a seat that came back reported
pub record IsSettledBy (v w : View) (g : Grant) (units : ℕ) : Type 0 where
  pub posts : w.posts ≡ v.posts
  pub back : w.back ≡ v.back
  pub made : w.made ≡ v.made
  pub settled : w.settled ≡ v.settled ++ settlement g (Some units) ∷ []
  pub by : Came
  pub among : Contains v.back by
  pub reported : Contains by.done (report g units)

-- The posts of a run wait at their ports, and nothing waits elsewhere. From no port more units were sent than the run has
-- slots.
pub record AreToSettle (granted : ℕ → Option ℕ) (sent : ℕ → ℕ) (first slots ports : ℕ) (w : View) : Type 0 where
  pub none_out : length w.back ≡ w.made
  pub post : (p f : ℕ) → p < ports → granted p ≡ Some f → MustBeSent w (grant p first f slots) (sent p)
  pub nothing : (p : ℕ) → p < ports → granted p ≡ None → is_unsettled p w.posts w.settled ≡ false
  pub within : (p f : ℕ) → p < ports → granted p ≡ Some f → sent p ≤ slots

-- the posts of the granted flows are settled, and with them each of so many ports
pub record AreSettled (flows : List Flow) (granted : List ℕ) (sent : ℕ → ℕ) (first slots : ℕ) (v w : View) (ports : ℕ)
    : Type 0 where
  pub posts : w.posts ≡ v.posts
  pub back : w.back ≡ v.back
  pub made : w.made ≡ v.made
  pub settled : w.settled ≡ v.settled ++ settlements_of flows granted sent first slots
  pub settled_there : (p : ℕ) → p < ports → is_unsettled p w.posts w.settled ≡ false
  pub rest : (p : ℕ) → ports ≤ p → is_unsettled p w.posts w.settled ≡ is_unsettled p v.posts v.settled
  pub reported : (p f : ℕ) → p < ports → grant_in flows granted p ≡ Some f →
      (c : Came) × Contains v.back c × Contains c.done (report (grant p first f slots) (sent p))

-- the driver's calls that are left fell by the number of its new entries
abbrev pub CallsFall : DriverModel → DriverModel → Type 0
CallsFall old new =
    new.left + length (driver_entries new.journal) ≡ old.left + length (driver_entries old.journal)

-- the driver's run is open, nothing is noted yet, and calls are left for a note of each port and the close
pub record IsOpenRunOf (o : Opening) (before : List Entry) (d : Drive) (driver : DriverModel) : Type 0 where
  pub under_way : IsUnderWay o before driver.journal d
  pub no_notes : d.between ≡ []
  pub calls : o.table.ports + 1 ≤ driver.left
  pub position : driver.position ≡ length driver.journal

-- The list has what was sent of each granted flow, in the order of the flows. Of none more units were sent than the run
-- has slots.
pub record IsListedSent (o : Opening) (before : List Entry) (d : Drive) (sent : List ℕ) : Type 0 where
  pub listed : sent ≡ map (sent_from o.table.flows d) (driven o before d)
  pub within : (f : ℕ) → Contains (driven o before d) f → sent_from o.table.flows d f ≤ d.slots

-- The first so many ports are noted where they are to be, in their order, and no port after them is noted yet.
pub record AreNoted (o : Opening) (before : List Entry) (d : Drive) (old new : DriverModel) (ports : ℕ) : Type 0 where
  pub place : StaysInHall old new
  pub between : List Entry
  pub under_way : IsUnderWay o before new.journal (record d { between = between })
  pub noted : (p f : ℕ) → p < ports → grant_in o.table.flows (driven o before d) p ≡ Some f →
      times_noted between p ≡ (if nat_lt (d.sent p) d.slots then 1 else 0)
  pub not_yet : NoneNotedFrom between ports
  pub calls : CallsFall old new
  pub left : o.table.ports + 1 ≤ new.left + ports
  pub position : new.position ≡ length new.journal

-- the first of so many ports from which fewer units were sent than the run has slots, and how many
abbrev pub IsFirstShort : (ℕ → Option ℕ) → (ℕ → ℕ) → ℕ → ℕ → Option (ℕ × ℕ) → Type 0
IsFirstShort granted sent slots ports None = (p f : ℕ) → p < ports → granted p ≡ Some f → sent p ≡ slots
IsFirstShort granted sent slots ports (Some x) =
    (f : ℕ) × (x.0 < ports) × (granted x.0 ≡ Some f) × (sent x.0 ≡ x.1) × (x.1 < slots)
    × ((p g : ℕ) → p < x.0 → granted p ≡ Some g → sent p ≡ slots)
