-- What is printed of a journal, as a value.
use Rattle.std.specs.Prelude.{◌≡◌, ℕ, List, flat_map, map, Option, Some, None}
use Rattle.std.specs.List.{filter, range_with_len, slice_index_or}
use Rattle.coflow_units.specs.declared.plan.Run.{Run}
use Rattle.coflow_units.specs.Schedule.{IsRuns}
use Rattle.journal.specs.declared.command.Command.{Command}
use Rattle.journal.specs.declared.command.Command.TheVariants as K
use Rattle.journal.specs.declared.command.Reply.{Reply}
use Rattle.journal.specs.declared.command.Reply.TheVariants as R
use Rattle.journal.specs.declared.command.Entry.{Entry}
use Rattle.journal.specs.declared.opening.Opening.{Opening}
use Rattle.journal.specs.Journal.{order_in, rank_of, version_of}
use Rattle.journal.specs.Closed.{schedule_of}
use Rattle.live_text.specs.declared.value.Word.{Word}
use Rattle.live_text.specs.declared.value.Word.TheVariants.{Register, Withdraw, Publish, Pull, Open, Close, Reweigh}
use Rattle.live_text.specs.declared.value.Said.{Said}
use Rattle.live_text.specs.declared.value.Said.TheVariants.{Joined, Already, Left, NotHere, Version, StillOpen, Rank}
use Rattle.live_text.specs.declared.value.Said.TheVariants.{Unranked, Opened, Nothing, Closed, Weighed}
use Rattle.live_text.specs.declared.value.EntryLine.{EntryLine}
use Rattle.live_text.specs.declared.value.PullLine.{PullLine}
use Rattle.live_text.specs.declared.value.Live.{Live}
use Rattle.workload.specs.declared.script.Script.{Script}
use Rattle.live_model.specs.Script.{coflow_pulled, is_pull}
use Rattle.live_model.specs.Deeds.{Deed, Deeds}

-- the id of a coflow
abbrev pub id_of : Opening → ℕ → ℕ
id_of o coflow = slice_index_or o.table.ids coflow 0

-- the command with its coflow's id; no text has the others
abbrev pub word_of : Opening → Command → Option Word
word_of o (K.Register c) = Some (Register (id_of o c))
word_of o (K.Withdraw c) = Some (Withdraw (id_of o c))
word_of o K.Publish = Some Publish
word_of o (K.Pull c) = Some (Pull (id_of o c))
word_of o (K.Open most) = Some (Open most)
word_of o K.Close = Some Close
word_of o (K.Reweigh c w) = Some (Reweigh (id_of o c) w)
word_of o k = None

-- the reply; no text has the others
abbrev pub said_of : Reply → Option Said
said_of R.Joined = Some Joined
said_of R.Already = Some Already
said_of R.Left = Some Left
said_of R.NotHere = Some NotHere
said_of (R.Version v) = Some (Version v)
said_of (R.StillOpen slot) = Some (StillOpen slot)
said_of (R.Rank v r) = Some (Rank v r)
said_of (R.Unranked v) = Some (Unranked v)
said_of (R.Opened slot slots count) = Some (Opened slot slots count)
said_of R.NothingLeft = Some Nothing
said_of (R.Closed slot) = Some (Closed slot)
said_of (R.Weighed w) = Some (Weighed w)
said_of reply = None

-- the line of an entry, where both its command and its reply have their words
abbrev pub entry_with : ℕ → Option Word → Option Said → Option EntryLine
entry_with who (Some word) (Some said) = Some (record { who = who; word = word; said = said })
entry_with who word said = None

-- the line of an entry
abbrev pub told_entry : Opening → Entry → Option EntryLine
told_entry o e = entry_with e.who (word_of o e.command) (said_of e.reply)

-- the ids of the order of a version
abbrev pub told_order : Opening → List Entry → ℕ → List ℕ
told_order o journal v = map (id_of o) (order_in o journal v)

-- the line of a pull: the rank of its coflow in the version that it was told
abbrev pub told_pull : Opening → List Entry → Deed → PullLine
told_pull o journal d = record {
  client = d.line.client;
  line = d.line.line;
  id = id_of o (coflow_pulled d.line.asked);
  version = d.version;
  rank = rank_of o journal d.version (coflow_pulled d.line.asked);
}

-- the lines of a client's pulls, in script order
abbrev pub told_pulls : Opening → List Entry → List Deed → List PullLine
told_pulls o journal deeds = map (told_pull o journal) (filter (λ d. is_pull d.line.asked) deeds)

-- a run as its length and its flows
abbrev pub run_of : Run → ℕ × List ℕ
run_of r = (r.length, r.flows)

-- The value tells each entry of the journal by its words, the orders of all versions from 1 on by their ids, each pull
-- of the script by client and then by line, and the runs of the schedule.
pub record TellsRun (o : Opening) (script : Script) (journal : List Entry) (deeds : Deeds) (live : Live) : Type 0 where
  pub entries : map (told_entry o) journal ≡ map Some live.entries
  pub orders : live.orders ≡ map (told_order o journal) (range_with_len 1 (version_of journal))
  pub pulls : live.pulls ≡ flat_map (λ client. told_pulls o journal (deeds client)) (range_with_len 1 script.clients)
  pub runs : IsRuns (schedule_of o journal) (map run_of live.runs)
