-- Further runs that `live` may not print, over the worked ones of its definitions.
use Rattle.std.specs.Prelude.{false, List, [], ◌∷◌}
use Rattle.journal.specs.declared.command.Command.TheVariants as K
use Rattle.journal.specs.declared.command.Reply.TheVariants as R
use Rattle.journal.specs.declared.command.Entry.{Entry}
use Rattle.journal.specs.Journal.{entry}
use Rattle.journal.specs.Rows.{two}
use Rattle.live_text.specs.declared.value.Live.{Live}
use Rattle.live_text.specs.declared.value.Said.TheVariants.{Version, Unranked, Nothing}
use Rattle.live_text.specs.declared.value.Word.TheVariants as W
use Rattle.workload.specs.declared.script.Asked.TheVariants.{Publish, Pull}
use Rattle.workload.specs.declared.script.Script.{Script}
use Rattle.live_model.specs.Clause.{IsLiveRun}
use Rattle.live_model.specs.Rows.{after_publishing, alone, alone_journal, alone_live, alone_wires, both, idle, line}
use Rattle.live_model.specs.Rows.{on_first, said, told, unopened_journal}

-- ---- the journal

-- the script of one client gives the limit 16
abbrev pub OtherLimit : Type 0
OtherLimit = IsLiveRun (two 17) alone 4 alone_live alone_journal alone_wires

-- the first publishing is answered version 2
abbrev pub skipping_journal : List Entry
skipping_journal =
    entry 1 K.Publish (R.Version 2) ∷ entry 0 (K.Open 4) R.NothingLeft ∷ entry 0 (K.Open 4) R.NothingLeft ∷ []

abbrev pub skipping_live : Live
skipping_live = record {
  entries = said 1 W.Publish (Version 2) ∷ said 0 (W.Open 4) Nothing ∷ said 0 (W.Open 4) Nothing ∷ [];
  orders = [] ∷ [];
  pulls = told 2 3 1 1 0 ∷ [];
  runs = [];
}

abbrev pub WrongAnswer : Type 0
WrongAnswer = IsLiveRun (two 16) both 4 skipping_live skipping_journal (on_first [])

-- nothing is asked, and client 1 publishes
abbrev pub strange_live : Live
strange_live = record {
  entries = said 1 W.Publish (Version 1) ∷ said 0 (W.Open 4) Nothing ∷ [];
  orders = [] ∷ [];
  pulls = [];
  runs = [];
}

abbrev pub StrangeEntry : Type 0
StrangeEntry = IsLiveRun (two 10) idle 4 strange_live unopened_journal (on_first [])

-- ---- the lines of pulls

-- the second coflow, which is first in version 1, is printed with rank 2
abbrev pub OtherRank : Type 0
OtherRank =
    IsLiveRun (two 16) alone 4 (record alone_live { pulls = told 1 4 2 1 2 ∷ [] }) alone_journal alone_wires

-- the pull is told version 2, where one version was made
abbrev pub unknown_live : Live
unknown_live = record {
  entries = said 1 W.Publish (Version 1) ∷ said 0 (W.Open 4) Nothing ∷ [];
  orders = [] ∷ [];
  pulls = told 1 2 1 2 0 ∷ [];
  runs = [];
}

abbrev pub UnknownVersion : Type 0
UnknownVersion = IsLiveRun (two 14) after_publishing 4 unknown_live unopened_journal (on_first [])

-- the pull has no line
abbrev pub MissingPull : Type 0
MissingPull = IsLiveRun (two 16) alone 4 (record alone_live { pulls = [] }) alone_journal alone_wires

-- ---- pulls that have an entry too early

-- client 1 publishes and then asks for a rank, and beside it client 2 publishes
abbrev pub one_beside : Script
one_beside = record {
  clients = 2;
  rounds =
      record { lines = line 1 1 Publish ∷ line 2 1 (Pull 0) ∷ line 3 2 Publish ∷ []; runs = false } ∷ [];
}

-- the pull has an entry, though one version alone was made since the client's own publishing
abbrev pub near_line_journal : List Entry
near_line_journal =
    entry 1 K.Publish (R.Version 1) ∷ entry 2 K.Publish (R.Version 2) ∷ entry 1 (K.Pull 0) (R.Unranked 2)
    ∷ entry 0 (K.Open 4) R.NothingLeft ∷ []

abbrev pub near_line_live : Live
near_line_live = record {
  entries =
      said 1 W.Publish (Version 1) ∷ said 2 W.Publish (Version 2) ∷ said 1 (W.Pull 1) (Unranked 2)
      ∷ said 0 (W.Open 4) Nothing ∷ [];
  orders = [] ∷ [] ∷ [];
  pulls = told 1 2 1 2 0 ∷ [];
  runs = [];
}

abbrev pub NearLine : Type 0
NearLine = IsLiveRun (two 15) one_beside 4 near_line_live near_line_journal (on_first [])

-- client 1 publishes; in the next round client 2 asks for a rank, and beside it client 3 publishes
abbrev pub one_after : Script
one_after = record {
  clients = 3;
  rounds =
      record { lines = line 1 1 Publish ∷ []; runs = false }
      ∷ record { lines = line 3 2 (Pull 0) ∷ line 4 3 Publish ∷ []; runs = false } ∷ [];
}

-- the pull has an entry, though one version alone was made since the entry of the round before
abbrev pub near_round_journal : List Entry
near_round_journal =
    entry 1 K.Publish (R.Version 1) ∷ entry 3 K.Publish (R.Version 2) ∷ entry 2 (K.Pull 0) (R.Unranked 2)
    ∷ entry 0 (K.Open 4) R.NothingLeft ∷ []

abbrev pub near_round_live : Live
near_round_live = record {
  entries =
      said 1 W.Publish (Version 1) ∷ said 3 W.Publish (Version 2) ∷ said 2 (W.Pull 1) (Unranked 2)
      ∷ said 0 (W.Open 4) Nothing ∷ [];
  orders = [] ∷ [] ∷ [];
  pulls = told 2 3 1 2 0 ∷ [];
  runs = [];
}

abbrev pub NearRound : Type 0
NearRound = IsLiveRun (two 17) one_after 4 near_round_live near_round_journal (on_first [])
