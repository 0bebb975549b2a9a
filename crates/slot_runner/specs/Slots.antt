-- What a slot of a runner comes to, answer by answer.
use Rattle.std.specs.Prelude.{◌≡◌, ℕ, ◌<◌, ◌≤◌, Bool, true, false, List, ◌++◌, length, slice_index_or, Option, Some, None}
use Rattle.outside.specs.Rose.{Rose}
use Rattle.journal.specs.declared.command.Command.TheVariants.{Open}
use Rattle.journal.specs.declared.command.Reply.{Reply}
use Rattle.journal.specs.declared.opening.Opening.{Opening}
use Rattle.journal.specs.Driven.{Drive, driven, GoesOnByRun, IsDriven, IsSentWhole, opened_in}
use Rattle.journal.specs.Fold.{state_of}
use Rattle.journal.specs.Runs.{grant_in}
use Rattle.turnstile.specs.Histories.{NoneAbove}
use Rattle.port_board.specs.Views.{grant, report}
use Rattle.port_agent.specs.Served.{SentOn}
use Rattle.client_session.specs.Desk.{IsSeen}
use Rattle.client_session.specs.Drivers.{IsDrivenOn, IsStopped, StaysInHall, who_of}
use Rattle.client_session.specs.declared.receipt.Receipt.{Receipt}
use Rattle.slot_runner.specs.Models.{RunnerModel}
use Rattle.slot_runner.specs.Posts.{posts_of, settlements_of}
use Rattle.slot_runner.specs.Settling.{CallsFall}
use Rattle.slot_runner.specs.declared.answer.Ran.{Ran}
use Rattle.slot_runner.specs.declared.answer.Ran.TheVariants.{Ran as Whole, WireFault}

-- the answer says that a run was opened
abbrev pub has_run : Ran → Bool
has_run (Whole slot slots count) = true
has_run (WireFault port sent) = true
has_run answer = false

module _ {W : Type 0} (faults : W → ℕ) (runs : W → Option (List (ℕ × ℕ × ℕ))) where
  -- The wire of a port in a run: without a grant it is as before; with one it was sent the grant once, and accepted so
  -- many units as were sent from the port, fewer than the run has slots only where its count of faults rose.
  abbrev pub IsSentAt : Drive → ℕ → W → W → Option ℕ → Type 0
  IsSentAt d port before after None = after ≡ before
  IsSentAt d port before after (Some f) =
      SentOn faults runs before after (report (grant port d.first f d.slots) (d.sent port))

  -- so it is with the wire of each port, and no further wire is touched
  pub record AreSent (d : Drive) (granted : ℕ → Option ℕ) (ports : ℕ) (before after : List W) : Type 0 where
    pub as_many : length after ≡ length before
    pub each : (port : ℕ) (b a : W) → port < ports →
        IsSentAt d port (slice_index_or before port b) (slice_index_or after port a) (granted port)
    pub further : (i : ℕ) (w : W) → ports ≤ i → slice_index_or after i w ≡ slice_index_or before i w

-- What a run makes of the runner and its driver. The driver's journal goes on by the one driven run, which stands behind
-- all that the driver had seen. The flows of the last run are those that it grants, by number. Each of them was posted
-- once at its port, in the order of the flows, and settled by the units that the wire of the port took.
pub record HasRun (o : Opening) (most : ℕ) (d : Drive) (old new : RunnerModel) : Type 0 where
  pub asked : d.most ≡ most
  pub place : StaysInHall old.driver new.driver
  pub journal : IsDriven o old.driver.journal new.driver.journal d
  pub goes_on : GoesOnByRun o old.driver.journal new.driver.journal d
  pub seen : IsSeen o new.driver.journal
  pub numbers : NoneAbove who_of new.driver.made new.driver.journal
  pub later : old.driver.position ≤ length (opened_in old.driver.journal d)
  pub position : new.driver.position ≡ length new.driver.journal
  pub calls : CallsFall old.driver new.driver
  pub granted : new.granted ≡ driven o old.driver.journal d
  pub ports : new.ports ≡ old.ports
  pub posts : new.posts
      ≡ old.posts ++ posts_of o.table.flows new.granted d.first d.slots
  pub settled : new.settled
      ≡ old.settled ++ settlements_of o.table.flows new.granted d.sent d.first d.slots
  pub posted_to : new.posted_to ≡ (state_of o new.driver.journal).next

module _ {W : Type 0} (faults : W → ℕ) (runs : W → Option (List (ℕ × ℕ × ℕ))) where
  -- a run of so many slots from this one on, of so many flows, each of which was accepted whole by the wire of its port
  pub record IsRan (o : Opening) (most : ℕ) (old new : RunnerModel) (before after : List W) (slot slots count : ℕ)
      : Type 0 where
    pub drive : Drive
    pub run : HasRun o most drive old new
    pub first_is : drive.first ≡ slot
    pub slots_is : drive.slots ≡ slots
    pub count_is : drive.count ≡ count
    pub whole : IsSentWhole o old.driver.journal drive
    pub wires : AreSent faults runs drive (grant_in o.table.flows new.granted) old.ports before after

  -- A run in which the wire of this port took so many units, fewer than the run has slots; the count of its faults
  -- rose. The wires of all lesser ports took all units.
  pub record IsFaulted (o : Opening) (most : ℕ) (old new : RunnerModel) (before after : List W) (port units : ℕ)
      : Type 0 where
    pub drive : Drive
    pub run : HasRun o most drive old new
    pub in_range : port < old.ports
    pub flow : ℕ
    pub granted : grant_in o.table.flows new.granted port ≡ Some flow
    pub units_is : drive.sent port ≡ units
    pub short : units < drive.slots
    pub rose : (b a : W) → Rose (faults (slice_index_or before port b)) (faults (slice_index_or after port a))
    pub least : (p f : ℕ) → p < port → grant_in o.table.flows new.granted p ≡ Some f → drive.sent p ≡ drive.slots
    pub wires : AreSent faults runs drive (grant_in o.table.flows new.granted) old.ports before after

-- The Open was answered so, and the driver has this one entry more. All else of the runner is as before.
pub record IsAnswered (o : Opening) (most : ℕ) (old new : RunnerModel) (reply : Reply) : Type 0 where
  pub receipt : Receipt
  pub reply_is : receipt.reply ≡ reply
  pub place : StaysInHall old.driver new.driver
  pub turn : IsDrivenOn o (Open most) old.driver new.driver receipt
  pub calls : CallsFall old.driver new.driver
  pub rest : new ≡ record old { driver = new.driver }

-- The journal that the Open met has so many entries and no room, and a call is used up. All else is as before.
pub record IsFullAt (o : Opening) (most : ℕ) (old new : RunnerModel) (count : ℕ) : Type 0 where
  pub place : StaysInHall old.driver new.driver
  pub turn : IsStopped o (Open most) old.driver new.driver count
  pub rest : new ≡ record old { driver = new.driver }
