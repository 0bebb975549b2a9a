-- The value behind the turnstile: the master, and the publisher of its ranks.
use Rattle.std.specs.Prelude.{◌≡◌, ℕ, ◌<◌, ◌≤◌, true, List, [], ◌∷◌, ◌++◌, All, false, length}
use Rattle.journal.specs.declared.command.Command.{Command}
use Rattle.journal.specs.declared.command.Entry.{Entry}
use Rattle.journal.specs.declared.opening.Opening.{Opening}
use Rattle.journal.specs.Entries.{is_driving}
use Rattle.journal.specs.Journal.{entry, is_full, IsLegal, rank_of, version_of}
use Rattle.journal.specs.Sound.{InRange}
use Rattle.rank_board.specs.Models.{SeatModel}
use Rattle.rank_board.specs.Words.{rank_of as published_rank}
use Rattle.rank_board.specs.declared.pulls.Pull.{Pull}
use Rattle.client_session.specs.declared.desk.Setting.{Setting}
use Rattle.client_session.specs.declared.receipt.Receipt.{Receipt}
use Rattle.client_session.specs.Own.{look_version}

-- what contracts see of it: what no turn changes, and the master's journal
pub record DeskModel : Type 0 where
  pub setting : Setting
  pub journal : List Entry

-- the published tables are the ranks of the journal's versions
pub record AgreesWith (o : Opening) (journal : List Entry) (published : List (List ℕ)) : Type 0 where
  pub versions : length published ≡ version_of journal
  pub rank : (v coflow : ℕ) → v ≤ version_of journal → coflow < length o.table.ids →
      published_rank published v coflow ≡ rank_of o journal v coflow

-- runs are opened, noted and closed, and slots passed over, by the caller 0 alone
abbrev pub DrivenByRoot : List Entry → Type 0
DrivenByRoot journal = All (λ (e : Entry). is_driving e.command ≡ true → e.who ≡ 0) journal

-- a journal that a caller met is legal, its commands are in range, and runs in it are driven by the caller 0 alone
pub record IsSeen (o : Opening) (journal : List Entry) : Type 0 where
  pub legal : IsLegal o journal
  pub in_range : InRange o journal
  pub driven : DrivenByRoot journal

-- the noted pull has the rank of its version
abbrev pub IsRanked : Opening → List Entry → Pull → Type 0
IsRanked o journal p = (p.version ≤ version_of journal) ×
    (p.coflow < length o.table.ids → p.rank ≡ rank_of o journal p.version p.coflow)

-- the command of this caller was answered by an entry, of which this is the receipt
pub record AddsEntry (before after : List Entry) (who : ℕ) (k : Command) (r : Receipt) : Type 0 where
  pub room : is_full r.reply ≡ false
  pub journal : after ≡ before ++ entry who k r.reply ∷ []
  pub position : r.position ≡ length after
  pub version : r.version ≡ version_of after

-- the seat loaded further words, and none of those before is forgotten
abbrev pub KeepsLooks : SeatModel → SeatModel → Type 0
KeepsLooks old new = (more : List (ℕ × ℕ)) × (new.looks ≡ old.looks ++ more)

-- The seat of a caller met the publisher in its turn: what it had seen stood before the turn's entry, it has seen the
-- newest version after it, and so has every word that it loaded.
pub record MetAt (before after : List Entry) (old new : SeatModel) : Type 0 where
  pub seen_before : old.seen ≤ version_of before
  pub seen : new.seen ≡ version_of after
  pub looks : All (λ look. look_version look ≤ version_of after) new.looks

-- the seat at the board met the publisher of this journal: it has seen no newer version, and its noted pulls are true
abbrev pub WasMet : Opening → List Entry → SeatModel → Type 0
WasMet o journal r = (r.seen ≤ version_of journal) × All (IsRanked o journal) r.pulls
