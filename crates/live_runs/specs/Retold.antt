-- What is known while a master answers a journal anew, and what is told of it.
use Rattle.std.specs.Prelude.{◌≡◌, ℕ, ◌<◌, List, length, map}
use Rattle.std.specs.List.{range_with_len}
use Rattle.journal.specs.declared.command.Entry.{Entry}
use Rattle.journal.specs.declared.opening.Opening.{Opening}
use Rattle.journal.specs.Answer.{IsInRange, reply_of, room}
use Rattle.journal.specs.Journal.{version_of}
use Rattle.journal_audit.specs.Replay.{IsPlainCommand, IsReplay}
use Rattle.live_model.specs.Printed.{told_order}
use Rattle.live_runs.specs.declared.retelling.Retold.{Retold}

-- the orders are those of all versions from 1 on, each by its ids
abbrev pub TellOrders : Opening → List Entry → List (List ℕ) → Type 0
TellOrders o journal orders = orders ≡ map (told_order o journal) (range_with_len 1 (version_of journal))

-- the orders are those of the journal's versions, and the slots are those of a replay of it
pub record IsRetold (o : Opening) (journal : List Entry) (x : Retold) : Type 0 where
  pub orders_are : TellOrders o journal x.orders.items
  pub replay : IsReplay o journal x.schedule

-- the journal may go on by this entry: it has room for it, the command is in range and neither notes units nor skips
-- slots, and the reply is that to the command
pub record MayFollow (o : Opening) (journal : List Entry) (e : Entry) : Type 0 where
  pub has_room : length journal < room o e.command
  pub in_range : IsInRange o e.command
  pub plain : IsPlainCommand e.command
  pub reply_is : e.reply ≡ reply_of o journal e.command
