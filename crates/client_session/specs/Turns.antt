-- What calls make of a session, and what a session keeps.
use Rattle.std.specs.Prelude.{◌≡◌, ℕ, ◌+◌, ◌^◌, ◌<◌, ◌≤◌, true, false, List, [], ◌∷◌, ◌++◌, All, length, map, Some}
use Rattle.journal.specs.declared.command.Command.{Command}
use Rattle.journal.specs.declared.command.Entry.{Entry}
use Rattle.journal.specs.declared.opening.Opening.{Opening}
use Rattle.journal.specs.Journal.{entry, is_full, is_version, version_of}
use Rattle.rank_board.specs.declared.pulls.Pull.{Pull}
use Rattle.rank_board.specs.Models.{SeatModel}
use Rattle.turnstile.specs.Models.{SeatModel as TurnSeatModel}
use Rattle.client_session.specs.declared.desk.Setting.{Setting}
use Rattle.client_session.specs.declared.receipt.Answer.{Answer}
use Rattle.client_session.specs.declared.receipt.Answer.TheVariants.{Done, Full, Spent}
use Rattle.client_session.specs.declared.receipt.Receipt.{Receipt}
use Rattle.client_session.specs.Desk.{IsSeen, KeepsLooks}
use Rattle.client_session.specs.Own.{IsPass, look_version, own_entries, own_entry, receipt_of}
use Rattle.client_session.specs.Models.{SessionModel}

-- a turn call leaves the session in its hall, with its number, its seat at the board and its noted pulls; it forgets no
-- word that was loaded
pub record KeepsPlace (old new : SessionModel) : Type 0 where
  pub gate : new.gate ≡ old.gate
  pub setting : new.setting ≡ old.setting
  pub number : new.number ≡ old.number
  pub board : new.rank.table ≡ old.rank.table
  pub seat : new.rank.id ≡ old.rank.id
  pub notes : new.rank.pulls ≡ old.rank.pulls
  pub looks : KeepsLooks old.rank new.rank
  pub version : old.rank.seen ≤ new.rank.seen

-- The turn added the session's one entry, of this command, and the receipt is the entry's. The journal that it met has
-- room, and with the entry it is legal; the session's entries are those of its number in it. The entry stands behind
-- all that the session had seen, and no version that the session had seen, or that a word which it loaded has, is
-- above the newest one.
pub record IsDone (o : Opening) (k : Command) (old new : SessionModel) (r : Receipt) : Type 0 where
  pub room : is_full r.reply ≡ false
  pub limit : r.position ≤ o.limit
  pub before : List Entry
  pub seen : IsSeen o (before ++ entry old.number k r.reply ∷ [])
  pub position_is : r.position ≡ length (before ++ entry old.number k r.reply ∷ [])
  pub version_is : r.version ≡ version_of (before ++ entry old.number k r.reply ∷ [])
  pub entries : new.own ≡ own_entries old.number (before ++ entry old.number k r.reply ∷ [])
  pub own : new.own ≡ old.own ++ own_entry r.position r.version k r.reply ∷ []
  pub left : new.left + 1 ≡ old.left
  pub later : old.position < r.position
  pub position : new.position ≡ r.position
  pub not_older : old.rank.seen ≤ r.version
  pub newer : is_version r.reply ≡ true → old.rank.seen < r.version
  pub version : new.rank.seen ≡ r.version
  pub looks : All (λ look. look_version look ≤ r.version) new.rank.looks

-- the journal that the turn met has so many entries, and no room: nothing is added, and a call is used up
pub record IsFull (o : Opening) (old new : SessionModel) (count : ℕ) : Type 0 where
  pub limit : o.limit ≤ count
  pub met : List Entry
  pub seen : IsSeen o met
  pub count_is : count ≡ length met
  pub own : new.own ≡ old.own
  pub left : new.left + 1 ≡ old.left
  pub not_shorter : old.position ≤ count
  pub position : new.position ≡ count

-- What a turn call for this command makes of a session. It is answered by the receipt of an entry, or that the journal
-- has no room, and exactly where no call is left by `Spent`, which changes nothing.
pub record IsTurn (o : Opening) (k : Command) (old new : SessionModel) (a : Answer) : Type 0 where
  pub place : KeepsPlace old new
  pub done : (r : Receipt) → a ≡ Done r → IsDone o k old new r
  pub full : (count : ℕ) → a ≡ Full count → IsFull o old new count
  pub spent : a ≡ Spent → (old.left ≡ 0) × (new ≡ old)
  pub calls : old.left ≡ 0 → a ≡ Spent

-- What a session keeps: a receipt of each of its entries, in room for all of its calls. It has no turn, and its noted
-- pulls, of coflows of the table, stand between its entries.
pub record IsSession (seat : TurnSeatModel Entry Setting) (rank : SeatModel) (number left position : ℕ)
    (receipts : List Receipt) (capacity : ℕ) : Type 0 where
  pub free : seat.in_turn ≡ false
  pub number_is : seat.number ≡ number
  pub position_is : length seat.seen ≡ position
  pub receipts_are : receipts ≡ map receipt_of (own_entries number seat.seen)
  pub has_room : length receipts + left ≤ capacity
  pub few : length receipts + left < 2 ^ 32
  pub pass : IsPass (own_entries number seat.seen) rank.pulls rank.seen
  pub coflow : (c : Setting) → seat.setting ≡ Some c → All (λ (p : Pull). p.coflow < c.board.coflows) rank.pulls
