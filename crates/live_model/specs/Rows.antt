-- Runs of `live` over two small flows, worked out by hand, and some that it may not print.
use Rattle.std.specs.Prelude.{ℕ, ◌==◌, false, true, if◌then◌else◌, List, [], ◌∷◌, drop}
use Rattle.coflow_units.specs.declared.plan.Run.{Run}
use Rattle.journal.specs.declared.command.Command.TheVariants as K
use Rattle.journal.specs.declared.command.Reply.TheVariants as R
use Rattle.journal.specs.declared.command.Entry.{Entry}
use Rattle.journal.specs.Journal.{entry}
use Rattle.journal.specs.Rows.{two}
use Rattle.live_text.specs.declared.value.EntryLine.{EntryLine}
use Rattle.live_text.specs.declared.value.Live.{Live}
use Rattle.live_text.specs.declared.value.PullLine.{PullLine}
use Rattle.live_text.specs.declared.value.Said.{Said}
use Rattle.live_text.specs.declared.value.Said.TheVariants.{Already, Joined, Version, Unranked, Opened, Nothing, Closed}
use Rattle.live_text.specs.declared.value.Word.{Word}
use Rattle.live_text.specs.declared.value.Word.TheVariants as W
use Rattle.workload.specs.declared.script.Asked.{Asked}
use Rattle.workload.specs.declared.script.Asked.TheVariants.{Register, Publish, Pull}
use Rattle.workload.specs.declared.script.Script.{Script}
use Rattle.workload.specs.declared.script.ScriptLine.{ScriptLine}
use Rattle.live_model.specs.Sent.{Wires}
use Rattle.live_model.specs.Clause.{IsLiveRun}

abbrev pub line : ℕ → ℕ → Asked → ScriptLine
line number client asked = record { line = number; client = client; asked = asked }

abbrev pub said : ℕ → Word → Said → EntryLine
said who word reply = record { who = who; word = word; said = reply }

abbrev pub told : ℕ → ℕ → ℕ → ℕ → ℕ → PullLine
told client line id version rank = record { client = client; line = line; id = id; version = version; rank = rank }

abbrev pub run : ℕ → List ℕ → Run
run length flows = record { length = length; flows = flows }

-- ---- one client in one round, and runs of up to four slots

-- client 1 registers both coflows, publishes, and asks for the rank of the second
abbrev pub alone : Script
alone = record {
  clients = 1;
  rounds =
      record {
        lines = line 1 1 (Register 0) ∷ line 2 1 (Register 1) ∷ line 3 1 Publish ∷ line 4 1 (Pull 1) ∷ [];
        runs = false;
      } ∷ [];
}

-- its entries, and after them two runs of the driver
abbrev pub alone_journal : List Entry
alone_journal =
    entry 1 (K.Register 0) R.Joined ∷ entry 1 (K.Register 1) R.Joined ∷ entry 1 K.Publish (R.Version 1)
    ∷ entry 0 (K.Open 4) (R.Opened 1 1 1) ∷ entry 0 K.Close (R.Closed 1)
    ∷ entry 0 (K.Open 4) (R.Opened 2 3 1) ∷ entry 0 K.Close (R.Closed 2)
    ∷ entry 0 (K.Open 4) R.NothingLeft ∷ []

-- what is printed: the second coflow is first in version 1
abbrev pub alone_live : Live
alone_live = record {
  entries =
      said 1 (W.Register 1) Joined ∷ said 1 (W.Register 2) Joined ∷ said 1 W.Publish (Version 1)
      ∷ said 0 (W.Open 4) (Opened 1 1 1) ∷ said 0 W.Close (Closed 1)
      ∷ said 0 (W.Open 4) (Opened 2 3 1) ∷ said 0 W.Close (Closed 2)
      ∷ said 0 (W.Open 4) Nothing ∷ [];
  orders = (2 ∷ 1 ∷ []) ∷ [];
  pulls = told 1 4 2 1 1 ∷ [];
  runs = run 1 (1 ∷ []) ∷ run 3 (0 ∷ []) ∷ [];
}

-- these runs stand on the wire of ingress 0, and nothing on the others
abbrev pub on_first : List (ℕ × ℕ × ℕ) → Wires
on_first sent port = if 0 == port then sent else []

abbrev pub Alone : Type 0
Alone = IsLiveRun (two 16) alone 4 alone_live alone_journal (on_first ((1, 1, 1) ∷ (2, 0, 3) ∷ []))

-- the same with the pair of slot 1 and flow 1 sent twice
abbrev pub SentTwice : Type 0
SentTwice = IsLiveRun (two 16) alone 4 alone_live alone_journal (on_first ((1, 1, 1) ∷ (1, 1, 1) ∷ (2, 0, 3) ∷ []))

-- ---- two clients in two rounds

-- client 1 publishes beside a run, and in the next round client 2 asks for a rank
abbrev pub both : Script
both = record {
  clients = 2;
  rounds =
      record { lines = line 1 1 Publish ∷ []; runs = true }
      ∷ record { lines = line 3 2 (Pull 0) ∷ []; runs = false } ∷ [];
}

-- the publishing, the opening of the first round, and the last one
abbrev pub both_journal : List Entry
both_journal =
    entry 1 K.Publish (R.Version 1) ∷ entry 0 (K.Open 4) R.NothingLeft ∷ entry 0 (K.Open 4) R.NothingLeft ∷ []

-- what is printed where the pull is told this version, in which its coflow has no rank
abbrev pub both_live : ℕ → Live
both_live version = record {
  entries = said 1 W.Publish (Version 1) ∷ said 0 (W.Open 4) Nothing ∷ said 0 (W.Open 4) Nothing ∷ [];
  orders = [] ∷ [];
  pulls = told 2 3 1 version 0 ∷ [];
  runs = [];
}

abbrev pub Both : Type 0
Both = IsLiveRun (two 16) both 4 (both_live 1) both_journal (on_first [])

-- the pull of the later round is told the version before
abbrev pub StalePull : Type 0
StalePull = IsLiveRun (two 16) both 4 (both_live 0) both_journal (on_first [])

-- the entry of client 1 is missing
abbrev pub missing_journal : List Entry
missing_journal = entry 0 (K.Open 4) R.NothingLeft ∷ entry 0 (K.Open 4) R.NothingLeft ∷ []

abbrev pub missing_live : Live
missing_live = record {
  entries = said 0 (W.Open 4) Nothing ∷ said 0 (W.Open 4) Nothing ∷ [];
  orders = [];
  pulls = told 2 3 1 0 0 ∷ [];
  runs = [];
}

abbrev pub MissingEntry : Type 0
MissingEntry = IsLiveRun (two 16) both 4 missing_live missing_journal (on_first [])

-- a publishing and one opening: the run of the first round is missing
abbrev pub unopened_journal : List Entry
unopened_journal = entry 1 K.Publish (R.Version 1) ∷ entry 0 (K.Open 4) R.NothingLeft ∷ []

abbrev pub unopened_live : Live
unopened_live = record {
  entries = said 1 W.Publish (Version 1) ∷ said 0 (W.Open 4) Nothing ∷ [];
  orders = [] ∷ [];
  pulls = told 2 3 1 1 0 ∷ [];
  runs = [];
}

abbrev pub UnopenedRound : Type 0
UnopenedRound = IsLiveRun (two 16) both 4 unopened_live unopened_journal (on_first [])

-- ---- a pull that has an entry

-- client 1 asks for a rank, and beside it client 2 publishes twice
abbrev pub hidden : Script
hidden = record {
  clients = 2;
  rounds =
      record { lines = line 1 1 (Pull 0) ∷ line 2 2 Publish ∷ line 3 2 Publish ∷ []; runs = false } ∷ [];
}

abbrev pub hidden_journal : List Entry
hidden_journal =
    entry 2 K.Publish (R.Version 1) ∷ entry 2 K.Publish (R.Version 2) ∷ entry 1 (K.Pull 0) (R.Unranked 2)
    ∷ entry 0 (K.Open 4) R.NothingLeft ∷ []

abbrev pub hidden_live : Live
hidden_live = record {
  entries =
      said 2 W.Publish (Version 1) ∷ said 2 W.Publish (Version 2) ∷ said 1 (W.Pull 1) (Unranked 2)
      ∷ said 0 (W.Open 4) Nothing ∷ [];
  orders = [] ∷ [] ∷ [];
  pulls = told 1 1 1 2 0 ∷ [];
  runs = [];
}

abbrev pub Hidden : Type 0
Hidden = IsLiveRun (two 15) hidden 4 hidden_live hidden_journal (on_first [])

-- ---- two clients, and entries or versions at a wrong place

-- client 1 publishes in the first round, and client 2 in the second
abbrev pub turns : Script
turns = record {
  clients = 2;
  rounds =
      record { lines = line 1 1 Publish ∷ []; runs = false }
      ∷ record { lines = line 3 2 Publish ∷ []; runs = false } ∷ [];
}

-- client 2 comes first
abbrev pub crossed_journal : List Entry
crossed_journal =
    entry 2 K.Publish (R.Version 1) ∷ entry 1 K.Publish (R.Version 2) ∷ entry 0 (K.Open 4) R.NothingLeft ∷ []

abbrev pub crossed_live : Live
crossed_live = record {
  entries = said 2 W.Publish (Version 1) ∷ said 1 W.Publish (Version 2) ∷ said 0 (W.Open 4) Nothing ∷ [];
  orders = [] ∷ [] ∷ [];
  pulls = [];
  runs = [];
}

abbrev pub CrossedRounds : Type 0
CrossedRounds = IsLiveRun (two 16) turns 4 crossed_live crossed_journal (on_first [])

-- client 1 publishes, and beside it client 2 asks for a rank
abbrev pub beside : Script
beside = record {
  clients = 2;
  rounds = record { lines = line 1 1 Publish ∷ line 2 2 (Pull 0) ∷ []; runs = false } ∷ [];
}

-- the pull has an entry, though no publishing can have hidden the rank twice
abbrev pub near_journal : List Entry
near_journal =
    entry 1 K.Publish (R.Version 1) ∷ entry 2 (K.Pull 0) (R.Unranked 1) ∷ entry 0 (K.Open 4) R.NothingLeft ∷ []

abbrev pub near_live : Live
near_live = record {
  entries = said 1 W.Publish (Version 1) ∷ said 2 (W.Pull 1) (Unranked 1) ∷ said 0 (W.Open 4) Nothing ∷ [];
  orders = [] ∷ [];
  pulls = told 2 2 1 1 0 ∷ [];
  runs = [];
}

abbrev pub NearPull : Type 0
NearPull = IsLiveRun (two 14) beside 4 near_live near_journal (on_first [])

-- client 2 asks for a rank in the first round, and client 1 publishes in the second
abbrev pub early : Script
early = record {
  clients = 2;
  rounds =
      record { lines = line 1 2 (Pull 0) ∷ []; runs = false }
      ∷ record { lines = line 3 1 Publish ∷ []; runs = false } ∷ [];
}

abbrev pub early_live : Live
early_live = record {
  entries = said 1 W.Publish (Version 1) ∷ said 0 (W.Open 4) Nothing ∷ [];
  orders = [] ∷ [];
  pulls = told 2 1 1 1 0 ∷ [];
  runs = [];
}

abbrev pub UnmadeVersion : Type 0
UnmadeVersion = IsLiveRun (two 16) early 4 early_live unopened_journal (on_first [])

-- ---- one client, and what it is told out of order

-- client 1 publishes and then asks for a rank
abbrev pub after_publishing : Script
after_publishing = record {
  clients = 1;
  rounds = record { lines = line 1 1 Publish ∷ line 2 1 (Pull 0) ∷ []; runs = false } ∷ [];
}

-- the pull is told the version before the client's own publishing
abbrev pub falling_live : Live
falling_live = record {
  entries = said 1 W.Publish (Version 1) ∷ said 0 (W.Open 4) Nothing ∷ [];
  orders = [] ∷ [];
  pulls = told 1 2 1 0 0 ∷ [];
  runs = [];
}

abbrev pub FallingVersion : Type 0
FallingVersion = IsLiveRun (two 14) after_publishing 4 falling_live unopened_journal (on_first [])

-- client 1 asks for a rank and then publishes, beside a publishing of client 2
abbrev pub before_publishing : Script
before_publishing = record {
  clients = 2;
  rounds = record { lines = line 1 1 (Pull 0) ∷ line 2 1 Publish ∷ line 3 2 Publish ∷ []; runs = false } ∷ [];
}

abbrev pub two_versions_journal : List Entry
two_versions_journal =
    entry 1 K.Publish (R.Version 1) ∷ entry 2 K.Publish (R.Version 2) ∷ entry 0 (K.Open 4) R.NothingLeft ∷ []

-- the pull is told the version that client 2 made only after the later line of client 1
abbrev pub foreseen_live : Live
foreseen_live = record {
  entries = said 1 W.Publish (Version 1) ∷ said 2 W.Publish (Version 2) ∷ said 0 (W.Open 4) Nothing ∷ [];
  orders = [] ∷ [] ∷ [];
  pulls = told 1 1 1 1 0 ∷ [];
  runs = [];
}

abbrev pub ForeseenVersion : Type 0
ForeseenVersion = IsLiveRun (two 15) before_publishing 4 foreseen_live two_versions_journal (on_first [])

-- ---- openings at a wrong place

-- nothing is asked
abbrev pub idle : Script
idle = record { clients = 0; rounds = [] }

-- two openings are answered that nothing is left, as in the journal without the entry of client 1
abbrev pub twice_live : Live
twice_live = record {
  entries = said 0 (W.Open 4) Nothing ∷ said 0 (W.Open 4) Nothing ∷ [];
  orders = [];
  pulls = [];
  runs = [];
}

abbrev pub NothingTwice : Type 0
NothingTwice = IsLiveRun (two 10) idle 4 twice_live missing_journal (on_first [])

-- client 1 publishes in the first round, and a run goes on beside the second
abbrev pub publish_then_run : Script
publish_then_run = record {
  clients = 1;
  rounds = record { lines = line 1 1 Publish ∷ []; runs = false } ∷ record { lines = []; runs = true } ∷ [];
}

-- the opening of the second round stands before the entry of the first
abbrev pub early_opening_journal : List Entry
early_opening_journal =
    entry 0 (K.Open 4) R.NothingLeft ∷ entry 1 K.Publish (R.Version 1) ∷ entry 0 (K.Open 4) R.NothingLeft ∷ []

abbrev pub early_opening_live : Live
early_opening_live = record {
  entries = said 0 (W.Open 4) Nothing ∷ said 1 W.Publish (Version 1) ∷ said 0 (W.Open 4) Nothing ∷ [];
  orders = [] ∷ [];
  pulls = [];
  runs = [];
}

abbrev pub EarlyOpening : Type 0
EarlyOpening = IsLiveRun (two 15) publish_then_run 4 early_opening_live early_opening_journal (on_first [])

-- a run goes on beside the first round, and client 1 publishes in the second
abbrev pub run_then_publish : Script
run_then_publish = record {
  clients = 1;
  rounds = record { lines = []; runs = true } ∷ record { lines = line 2 1 Publish ∷ []; runs = false } ∷ [];
}

-- the entry of the second round stands before the opening of the first; what is printed is as in the row of two clients
abbrev pub late_opening_live : Live
late_opening_live = record {
  entries = said 1 W.Publish (Version 1) ∷ said 0 (W.Open 4) Nothing ∷ said 0 (W.Open 4) Nothing ∷ [];
  orders = [] ∷ [];
  pulls = [];
  runs = [];
}

abbrev pub LateOpening : Type 0
LateOpening = IsLiveRun (two 15) run_then_publish 4 late_opening_live both_journal (on_first [])

-- ---- wrong texts of the run with one client

abbrev pub alone_wires : Wires
alone_wires = on_first ((1, 1, 1) ∷ (2, 0, 3) ∷ [])

-- the first entry is printed with the reply of another
abbrev pub WrongReply : Type 0
WrongReply =
    IsLiveRun (two 16) alone 4
    (record alone_live { entries = said 1 (W.Register 1) Already ∷ drop 1 alone_live.entries }) alone_journal
    alone_wires

-- the order is printed in the order of the coflows' numbers
abbrev pub WrongOrder : Type 0
WrongOrder =
    IsLiveRun (two 16) alone 4 (record alone_live { orders = (1 ∷ 2 ∷ []) ∷ [] }) alone_journal alone_wires

-- one run is printed where there are two
abbrev pub WrongRuns : Type 0
WrongRuns = IsLiveRun (two 16) alone 4 (record alone_live { runs = run 4 (0 ∷ []) ∷ [] }) alone_journal alone_wires

-- the openings are not of as many slots as were asked for
abbrev pub WrongMost : Type 0
WrongMost = IsLiveRun (two 16) alone 3 alone_live alone_journal alone_wires
