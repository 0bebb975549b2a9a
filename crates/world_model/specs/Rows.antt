-- Steps that were worked out by hand.
use Rattle.std.specs.Prelude.{◌≡◌, ℕ, List, [], ◌∷◌, ◌++◌}
use Rattle.journal.specs.declared.command.Command.TheVariants.{Register, Open, Pull, Short}
use Rattle.journal.specs.declared.command.Reply.TheVariants.{Full, Joined, Opened, Noted, Closed, Unranked}
use Rattle.journal.specs.Driven.{closed_in, closing, Drive}
use Rattle.journal.specs.Journal.{entry}
use Rattle.journal.specs.Rows.{two}
use Rattle.world_model.specs.declared.event.Event.{Event}
use Rattle.world_model.specs.declared.event.Event.TheVariants.{Ask, Post, Draw, Send, Report, Settle, Note, Close}
use Rattle.world_model.specs.declared.event.Happened.{Happened}
use Rattle.world_model.specs.declared.event.Happened.TheVariants.{Replied, Posted, Drawn, Sent, Reported, Settled, Busy}
use Rattle.world_model.specs.declared.event.Happened.TheVariants.{Blocked}
use Rattle.world_model.specs.declared.event.Happened.TheVariants.{Noted as NotedIt}
use Rattle.world_model.specs.declared.event.SentRun.{SentRun}
use Rattle.world_model.specs.Sent.{times_sent}
use Rattle.world_model.specs.World.{WorldFacts, new_world}
use Rattle.world_model.specs.Played.{AreTaken, events_of, IsPlayed}
use Rattle.world_model.specs.Steps.{happened, world_after, world_of}

-- the steps are answered so, one after another
abbrev pub Happens : WorldFacts → List (Event × Happened) → Type 0
Happens w [] = Unit {0}
Happens w (x ∷ xs) = (happened w x.0 ≡ x.1) × Happens (world_after w x.0) xs

-- a grant that nobody drew is taken back and noted; another is drawn, sent and reported
abbrev pub Turns : Type 0
Turns = Happens (new_world (two 100) 1)
    ((Ask 1 (Register 0), Replied Joined) ∷ (Ask 0 (Open 2), Replied (Opened 1 2 1)) ∷ (Post 0, Posted) ∷
    (Settle 0, Settled 0) ∷ (Post 0, Blocked) ∷ (Close, Blocked)
    ∷ (Note 0, NotedIt (Noted 0)) ∷ (Close, Replied (Closed 1)) ∷ (Ask 0 (Open 1), Replied (Opened 3 1 1)) ∷
    (Post 0, Posted) ∷ (Draw 0 0, Drawn) ∷ (Settle 0, Busy 4611686018430533632)
    ∷ (Send 0 0 1, Sent) ∷ (Report 0 0, Reported) ∷ (Settle 0, Settled 1) ∷ (Close, Replied (Closed 3)) ∷ [])

-- Two agents. One draws, so the other can't; it sends less than the length, once. The run is closed only once that is
-- noted. The journal was full for all else.
abbrev pub Shorts : Type 0
Shorts = Happens (new_world (two 2) 2)
    ((Ask 1 (Register 0), Replied Joined) ∷ (Ask 0 (Open 5), Replied (Opened 1 3 1)) ∷
    (Ask 1 (Pull 0), Replied (Full 2)) ∷ (Draw 0 0, Blocked) ∷ (Post 0, Posted) ∷ (Post 1, Blocked) ∷
    (Draw 1 0, Drawn)
    ∷ (Draw 0 0, Blocked) ∷ (Send 0 0 1, Blocked) ∷ (Send 1 0 4, Blocked) ∷ (Send 1 0 2, Sent) ∷ (Send 1 0 1, Blocked) ∷
    (Report 1 0, Reported) ∷ (Close, Blocked) ∷ (Settle 0, Settled 2)
    ∷ (Settle 0, Blocked) ∷ (Close, Blocked) ∷ (Note 0, NotedIt (Noted 2)) ∷ (Close, Replied (Closed 1)) ∷
    (Close, Blocked) ∷ [])

-- an agent that the world does not have draws nothing
abbrev pub Strangers : Type 0
Strangers = Happens (new_world (two 100) 1)
    ((Ask 1 (Register 0), Replied Joined) ∷ (Ask 0 (Open 2), Replied (Opened 1 2 1)) ∷ (Post 0, Posted)
    ∷ (Draw 1 0, Blocked) ∷ (Draw 2 0, Blocked) ∷ (Draw 0 0, Drawn) ∷ [])

-- only who drew a post reports it; one of which nothing was sent is settled with nothing
abbrev pub SendsNothing : Type 0
SendsNothing = Happens (new_world (two 100) 2)
    ((Ask 1 (Register 0), Replied Joined) ∷ (Ask 0 (Open 2), Replied (Opened 1 2 1)) ∷ (Post 0, Posted) ∷
    (Draw 1 0, Drawn)
    ∷ (Report 0 0, Blocked) ∷ (Report 1 0, Reported) ∷ (Settle 0, Settled 0) ∷ (Note 0, NotedIt (Noted 0))
    ∷ (Close, Replied (Closed 1)) ∷ [])

-- Two agents, and a run of two slots in which agent 1 sends one unit from port 0. Caller 1 registers a coflow before
-- it, and caller 2 pulls a rank before the driver notes the port.
abbrev pub before_run : WorldFacts
before_run = new_world (two 100) 2

abbrev pub agent_one : ℕ → ℕ
agent_one port = 1

abbrev pub short_run : Drive
short_run = record {
  earlier = entry 1 (Register 0) Joined ∷ [];
  most = 2;
  first = 1;
  slots = 2;
  count = 1;
  between = entry 2 (Pull 0) (Unranked 0) ∷ entry 0 (Short 0 1) (Noted 1) ∷ [];
  answer = Closed 1;
  sent = λ port. 1;
}

-- the steps of that run
abbrev pub Listed : Type 0
Listed = events_of before_run agent_one short_run ≡
    Ask 1 (Register 0) ∷ Ask 0 (Open 2) ∷ Post 0 ∷ Draw 1 0 ∷ Send 1 0 1 ∷ Report 1 0 ∷ Settle 0 ∷ Ask 2 (Pull 0) ∷
    Note 0 ∷ Close ∷ []

-- these steps make the journal of that run and send its unit
abbrev pub MakesRun : List Event → Type 0
MakesRun events =
    IsPlayed before_run (world_of before_run events) (closed_in [] short_run ++ closing short_run ∷ []) short_run

-- its own steps do
abbrev pub ListedMakesRun : Type 0
ListedMakesRun = MakesRun (events_of before_run agent_one short_run)

-- without the report they do not: the port is not settled, and the run is not closed
abbrev pub Unreported : Type 0
Unreported = MakesRun
    (Ask 1 (Register 0) ∷ Ask 0 (Open 2) ∷ Post 0 ∷ Draw 1 0 ∷ Send 1 0 1 ∷ Settle 0 ∷ Ask 2 (Pull 0) ∷ Note 0 ∷
    Close ∷ []) → ⊥

-- where the port is drawn twice, not every step is taken
abbrev pub DrawnTwice : Type 0
DrawnTwice = AreTaken before_run
    (Ask 1 (Register 0) ∷ Ask 0 (Open 2) ∷ Post 0 ∷ Draw 1 0 ∷ Draw 1 0 ∷ Send 1 0 1 ∷ Report 1 0 ∷ Settle 0 ∷
    Ask 2 (Pull 0) ∷ Note 0 ∷ Close ∷ []) → ⊥

-- a run that was sent twice, with another one between and one that overlaps at another port
abbrev pub run_twice : SentRun
run_twice = record { slot = 1; flow = 0; units = 2; port = 0 }

abbrev pub run_between : SentRun
run_between = record { slot = 1; flow = 1; units = 1; port = 2 }

abbrev pub run_beside : SentRun
run_beside = record { slot = 2; flow = 0; units = 2; port = 1 }

abbrev pub doubled_runs : List SentRun
doubled_runs = run_twice ∷ run_between ∷ run_twice ∷ run_beside ∷ []

abbrev pub Doubled : Type 0
Doubled =
    (times_sent doubled_runs 0 0 ≡ 0) × (times_sent doubled_runs 1 0 ≡ 2) × (times_sent doubled_runs 2 0 ≡ 3)
    × (times_sent doubled_runs 3 0 ≡ 1) × (times_sent doubled_runs 4 0 ≡ 0) × (times_sent doubled_runs 1 1 ≡ 1)
    × (times_sent doubled_runs 2 1 ≡ 0)
