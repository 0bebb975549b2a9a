-- What the driver keeps, and what its turns make of it.
use Rattle.std.specs.Prelude.{◌≡◌, ℕ, ◌+◌, ◌<◌, ◌≤◌, false, List, [], ◌∷◌, ◌++◌, drop, length, Some, take}
use Rattle.coflow_units.specs.declared.plan.Place.{Place}
use Rattle.bssi_order.specs.Order.{IsOrder}
use Rattle.journal.specs.declared.command.Command.{Command}
use Rattle.journal.specs.declared.command.Entry.{Entry}
use Rattle.journal.specs.declared.command.Reply.TheVariants.{Version}
use Rattle.journal.specs.declared.opening.Opening.{Opening}
use Rattle.journal.specs.Answer.{room}
use Rattle.journal.specs.Journal.{entry, is_full, left_at, order_in, version_of}
use Rattle.master_core.specs.Published.{ranked}
use Rattle.turnstile.specs.Histories.{NoneAbove, NoneBy}
use Rattle.turnstile.specs.Models.{RootModel}
use Rattle.client_session.specs.declared.desk.Setting.{Setting}
use Rattle.client_session.specs.declared.receipt.Answer.{Answer}
use Rattle.client_session.specs.declared.receipt.Answer.TheVariants.{Done, Full, Spent}
use Rattle.client_session.specs.declared.receipt.Receipt.{Receipt}
use Rattle.client_session.specs.Desk.{IsSeen}
use Rattle.client_session.specs.Grants.{GrantedModel, TellsGrants}
use Rattle.client_session.specs.Models.{DriverModel}

abbrev pub who_of : Entry → ℕ
who_of e = e.who

-- The driver has no turn, and no session came back yet. Each entry that it has seen is its own or of a session that it
-- made. The journal at the end of its last turn begins the longest that it has seen, with no entry of its own behind
-- it. It keeps what is granted in that journal's open run.
pub record IsDriver (root : RootModel Entry Setting) (turned position : ℕ) (granted : GrantedModel) : Type 0 where
  pub free : root.in_turn ≡ false
  pub none_back : root.back ≡ []
  pub numbers : NoneAbove who_of root.made root.seen
  pub position_is : length root.seen ≡ position
  pub turned_is : turned ≤ position
  pub others : NoneBy who_of 0 (drop turned root.seen)
  pub seen : (c : Setting) → root.setting ≡ Some c → IsSeen c.opening (take turned root.seen)
  pub grants : (c : Setting) → root.setting ≡ Some c → TellsGrants c.opening (take turned root.seen) granted

-- a turn call leaves the driver in its hall, with its sessions
pub record StaysInHall (old new : DriverModel) : Type 0 where
  pub gate : new.gate ≡ old.gate
  pub setting : new.setting ≡ old.setting
  pub rank : new.rank ≡ old.rank
  pub made : new.made ≡ old.made

-- the journal went on with entries of others alone
abbrev pub GrownByOthers : List Entry → List Entry → Type 0
GrownByOthers before after = (others : List Entry) × (after ≡ before ++ others) × NoneBy who_of 0 others

-- The turn added the driver's one entry, of this command, behind all that the driver had seen, and the receipt is the
-- entry's. The journal has room for it, and with it is legal. Since its last turn there were entries of others alone,
-- and none where no session was made.
pub record IsDrivenOn (o : Opening) (k : Command) (old new : DriverModel) (r : Receipt) : Type 0 where
  pub limit : r.position ≤ room o k
  pub has_room : is_full r.reply ≡ false
  pub before : List Entry
  pub others : GrownByOthers old.journal before
  pub alone : old.made ≡ 0 → before ≡ old.journal
  pub journal : new.journal ≡ before ++ entry 0 k r.reply ∷ []
  pub seen : IsSeen o new.journal
  pub numbers : NoneAbove who_of new.made new.journal
  pub left : new.left + 1 ≡ old.left
  pub later : old.position < r.position
  pub length_is : r.position ≡ length new.journal
  pub position : new.position ≡ r.position
  pub version : r.version ≡ version_of new.journal

-- the journal that the turn met has so many entries, and no room: nothing is added, and a call is used up
pub record IsStopped (o : Opening) (k : Command) (old new : DriverModel) (count : ℕ) : Type 0 where
  pub limit : room o k ≤ count
  pub others : GrownByOthers old.journal new.journal
  pub alone : old.made ≡ 0 → new.journal ≡ old.journal
  pub seen : IsSeen o new.journal
  pub numbers : NoneAbove who_of new.made new.journal
  pub left : new.left + 1 ≡ old.left
  pub not_shorter : old.position ≤ count
  pub length_is : count ≡ length new.journal
  pub position : new.position ≡ count

-- What a turn call for this command, which needs so many calls, makes of the driver. It is answered by the receipt of
-- an entry, or that the journal has no room, and exactly where fewer calls are left by `Spent`, which changes nothing.
pub record IsDriverTurn (o : Opening) (k : Command) (need : ℕ) (old new : DriverModel) (a : Answer) : Type 0 where
  pub place : StaysInHall old new
  pub done : (r : Receipt) → a ≡ Done r → IsDrivenOn o k old new r
  pub full : (count : ℕ) → a ≡ Full count → IsStopped o k old new count
  pub spent : a ≡ Spent → (old.left < need) × (new ≡ old)
  pub calls : old.left < need → a ≡ Spent

-- the answer is the receipt of this version
abbrev pub AnswersVersion : Answer → ℕ → Type 0
AnswersVersion a v = (r : Receipt) × (a ≡ Done r) × (r.reply ≡ Version v)

-- Where the answer is a version, the places are those of its order, with their loads and rests by what is left after
-- the journal; else they are as before.
pub record HandsOut (o : Opening) (journal : List Entry) (a : Answer) (old new : List Place) : Type 0 where
  pub order : (v : ℕ) → AnswersVersion a v → ranked new ≡ order_in o journal v
  pub places : (v : ℕ) → AnswersVersion a v → IsOrder (left_at o journal) new
  pub kept : ((v : ℕ) → AnswersVersion a v → ⊥) → new ≡ old
