-- The journal that the entries of a printed journal state, and what it begins with.
use Rattle.std.specs.Prelude.{ℕ, max, List, Contains, length, map}
use Rattle.cert_check.specs.Places.{coflow_with}
use Rattle.flow_table.specs.Table.{TableFacts}
use Rattle.journal.specs.declared.command.Command.{Command}
use Rattle.journal.specs.declared.command.Command.TheVariants as command
use Rattle.journal.specs.declared.command.Entry.{Entry}
use Rattle.journal.specs.declared.command.Reply.{Reply}
use Rattle.journal.specs.declared.command.Reply.TheVariants as reply
use Rattle.journal.specs.declared.opening.Opening.{Opening}
use Rattle.journal.specs.Journal.{entry}
use Rattle.live_text.specs.declared.value.EntryLine.{EntryLine}
use Rattle.live_text.specs.declared.value.Live.{Live}
use Rattle.live_text.specs.declared.value.Said.{Said}
use Rattle.live_text.specs.declared.value.Said.TheVariants.{Joined, Already, Left, NotHere, Version, StillOpen, Rank}
use Rattle.live_text.specs.declared.value.Said.TheVariants.{Unranked, Opened, Nothing, Closed, Weighed}
use Rattle.live_text.specs.declared.value.Word.{Word}
use Rattle.live_text.specs.declared.value.Word.TheVariants.{Register, Withdraw, Publish, Pull, Open, Close, Reweigh}

-- the id of the word, if it has one, is a coflow's
abbrev pub IsKnown : List ℕ → Word → Type 0
IsKnown ids (Register id) = Contains ids id
IsKnown ids (Withdraw id) = Contains ids id
IsKnown ids (Pull id) = Contains ids id
IsKnown ids (Reweigh id weight) = Contains ids id
IsKnown ids word = Unit {0}

-- the command of a word, with the number of its coflow
abbrev pub command_for : List ℕ → Word → Command
command_for ids (Register id) = command.Register (coflow_with ids id)
command_for ids (Withdraw id) = command.Withdraw (coflow_with ids id)
command_for ids Publish = command.Publish
command_for ids (Pull id) = command.Pull (coflow_with ids id)
command_for ids (Open most) = command.Open most
command_for ids Close = command.Close
command_for ids (Reweigh id weight) = command.Reweigh (coflow_with ids id) weight

-- the reply that is stated
abbrev pub reply_for : Said → Reply
reply_for Joined = reply.Joined
reply_for Already = reply.Already
reply_for Left = reply.Left
reply_for NotHere = reply.NotHere
reply_for (Version version) = reply.Version version
reply_for (StillOpen slot) = reply.StillOpen slot
reply_for (Rank version rank) = reply.Rank version rank
reply_for (Unranked version) = reply.Unranked version
reply_for (Opened slot slots count) = reply.Opened slot slots count
reply_for Nothing = reply.NothingLeft
reply_for (Closed slot) = reply.Closed slot
reply_for (Weighed weight) = reply.Weighed weight

-- the entry that a line states
abbrev pub entry_for : List ℕ → EntryLine → Entry
entry_for ids e = entry e.who (command_for ids e.word) (reply_for e.said)

-- the journal that the lines state
abbrev pub stated_by : List ℕ → List EntryLine → List Entry
stated_by ids entries = map (entry_for ids) entries

-- the opening: the table, the weights, and the number of entries as the limit of the journal, or 1 where there are none
abbrev pub opening_for : TableFacts → List ℕ → Live → Opening
opening_for t weights l = record { table = t; weights = weights; limit = max (length l.entries) 1 }

-- the journal that the text states
abbrev pub journal_in : TableFacts → Live → List Entry
journal_in t l = stated_by t.ids l.entries
