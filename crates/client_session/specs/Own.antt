-- A caller's own entries in a journal, and how the pulls that it noted stand between them.
use Rattle.std.specs.Prelude.{ℕ, ◌+◌, ◌-◌, ◌==◌, ◌≤◌, ◌/◌, if◌then◌else◌, List, [], ◌∷◌, All, drop, length, take}
use Rattle.journal.specs.declared.command.Command.{Command}
use Rattle.journal.specs.declared.command.Reply.{Reply}
use Rattle.journal.specs.declared.command.Entry.{Entry}
use Rattle.journal.specs.Journal.{is_version}
use Rattle.rank_board.specs.declared.pulls.Pull.{Pull}
use Rattle.client_session.specs.declared.receipt.Receipt.{Receipt}

-- an entry of a caller: its position in the journal, counted from 1, the newest version after it, what was asked, and
-- what was answered
pub record OwnEntry : Type 0 where
  pub position : ℕ
  pub version : ℕ
  pub command : Command
  pub reply : Reply

abbrev pub own_entry : ℕ → ℕ → Command → Reply → OwnEntry
own_entry position version k reply = record { position = position; version = version; command = k; reply = reply }

-- what the caller is answered of the entry
abbrev pub receipt_of : OwnEntry → Receipt
receipt_of e = record { position = e.position; version = e.version; reply = e.reply }

-- how many versions an entry with this reply makes
abbrev pub versions_in : Reply → ℕ
versions_in reply = if is_version reply then 1 else 0

-- the entries of the caller of this number among further entries, where so many entries and versions stand before them
abbrev pub own_from : ℕ → ℕ → ℕ → List Entry → List OwnEntry
own_from number entries version [] = []
own_from number entries version (e ∷ es) =
    if e.who == number
    then own_entry (entries + 1) (version + versions_in e.reply) e.command e.reply ∷
    own_from number (entries + 1) (version + versions_in e.reply) es
    else own_from number (entries + 1) (version + versions_in e.reply) es

-- the entries of the caller of this number in a journal
abbrev pub own_entries : ℕ → List Entry → List OwnEntry
own_entries number journal = own_from number 0 0 journal

-- the newest version before the entry
abbrev pub version_before : OwnEntry → ℕ
version_before e = e.version - versions_in e.reply

-- The mark of a noted pull says after how many of the caller's entries it was made. Its version is not below those
-- after these entries, and it stood before each later one.
pub record StandsBetween (own : List OwnEntry) (note : Pull) : Type 0 where
  pub mark : note.mark ≤ length own
  pub before : All (λ (e : OwnEntry). e.version ≤ note.version) (take note.mark own)
  pub after : All (λ (e : OwnEntry). note.version ≤ version_before e) (drop note.mark own)

-- The caller's entries and noted pulls have no version above the one that it has seen, and each noted pull stands
-- between the entries by its mark.
pub record IsPass (own : List OwnEntry) (notes : List Pull) (seen : ℕ) : Type 0 where
  pub own_seen : All (λ (e : OwnEntry). e.version ≤ seen) own
  pub notes_seen : All (λ (p : Pull). p.version ≤ seen) notes
  pub between : All (StandsBetween own) notes

-- the version of a word that was loaded: the front is a version, and any other word has one beside its rank
abbrev pub look_version : ℕ × ℕ → ℕ
look_version look = if look.0 == 0 then look.1 else look.1 / 4294967296
