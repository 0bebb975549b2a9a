-- What the runs of two small flows make, worked out by hand.
use Rattle.std.specs.Prelude.{◌≡◌, ℕ, ◌==◌, if◌then◌else◌, true, false, List, [], ◌∷◌, ◌++◌, AllPairs, count_by, map}
use Rattle.coflow_units.specs.Rows.{all_ties, two_flows}
use Rattle.journal.specs.declared.command.Command.{Command}
use Rattle.journal.specs.declared.command.Command.TheVariants.{Register, Withdraw, Publish, Pull, Open, Short, Close}
use Rattle.journal.specs.declared.command.Command.TheVariants.{Skip, Reweigh}
use Rattle.journal.specs.declared.command.Reply.{Reply}
use Rattle.journal.specs.declared.command.Reply.TheVariants.{Joined, Left, StillOpen, Version, Unranked, NothingLeft}
use Rattle.journal.specs.declared.command.Reply.TheVariants.{Late, Opened, Noted, Closed, Skipped, Weighed}
use Rattle.journal.specs.declared.command.Entry.{Entry}
use Rattle.journal.specs.declared.opening.Opening.{Opening}
use Rattle.journal.specs.declared.tally.Credit.{Credit}
use Rattle.journal.specs.declared.tally.CreditedRun.{CreditedRun}
use Rattle.journal.specs.State.{Run}
use Rattle.journal.specs.Journal.{entry, IsLegal}
use Rattle.journal.specs.Rows.{two}
use Rattle.journal.specs.Closed.{closed_runs, schedule_of, times_on, wire_of}
use Rattle.journal.specs.Counts.{closings, endings, furthest_skip, is_noted, openings, slots_together, units_granted}
use Rattle.journal.specs.Counts.{is_noting, is_skipping, IsSlotOf, units_sent}
use Rattle.journal.specs.Ends.{flows_ended, runs_without_end}
use Rattle.journal.specs.Tally.{credited, tallied_schedule, tallied_wire}
use Rattle.journal.specs.Driven.{closed_in, closing, Drive, IsDriven, driver_entries, IsNotedBefore, IsSentWhole, notes_due, times_noted}

-- entries of caller 0
abbrev pub entries : List (Command × Reply) → List Entry
entries steps = map (λ (x : Command × Reply). entry 0 x.0 x.1) steps

-- the journal is legal, and these are its schedule and the wire of ingress 0; the wire of ingress 1 is empty
abbrev pub Makes : List Entry → List (List ℕ) → List (ℕ × ℕ × ℕ) → Type 0
Makes journal slots wire =
    IsLegal (two 100) journal × (schedule_of (two 100) journal ≡ slots) × (wire_of (two 100) journal 0 ≡ wire)
    × (wire_of (two 100) journal 1 ≡ [])

-- both coflows are served in the order that was published: the flow of one unit, and then that of three
abbrev pub served_order : List Entry
served_order =
    entry 1 (Register 0) Joined ∷ entry 1 (Register 1) Joined ∷ entry 1 Publish (Version 1)
    ∷ entries ((Open 4, Opened 1 1 1) ∷ (Close, Closed 1) ∷ (Open 4, Opened 2 3 1) ∷ (Close, Closed 2) ∷
    (Open 4, NothingLeft) ∷ [])

abbrev pub ServedOrder : Type 0
ServedOrder = Makes served_order ((1 ∷ []) ∷ (0 ∷ []) ∷ (0 ∷ []) ∷ (0 ∷ []) ∷ []) ((1, 1, 1) ∷ (2, 0, 3) ∷ [])

-- a run of two slots of which one unit was sent, and then a whole run: the flow stands in slot 1, and again in slots 3
-- and 4
abbrev pub noted_run : List Entry
noted_run =
    entries ((Register 0, Joined) ∷ (Open 2, Opened 1 2 1) ∷ (Short 0 1, Noted 1) ∷ (Close, Closed 1)
    ∷ (Open 9, Opened 3 2 1) ∷ (Close, Closed 3) ∷ [])

abbrev pub NotedRun : Type 0
NotedRun = Makes noted_run ((0 ∷ []) ∷ [] ∷ (0 ∷ []) ∷ (0 ∷ []) ∷ []) ((1, 0, 1) ∷ (3, 0, 2) ∷ [])

-- three slots pass before the first run
abbrev pub skipped_slots : List Entry
skipped_slots = entries ((Skip 4, Skipped 4) ∷ (Register 0, Joined) ∷ (Open 9, Opened 4 3 1) ∷ (Close, Closed 4) ∷ [])

abbrev pub SkippedSlots : Type 0
SkippedSlots = Makes skipped_slots ([] ∷ [] ∷ [] ∷ (0 ∷ []) ∷ (0 ∷ []) ∷ (0 ∷ []) ∷ []) ((4, 0, 3) ∷ [])

-- the coflow that is served leaves between two runs, and the other one is served
abbrev pub withdrawal_between : List Entry
withdrawal_between =
    entries ((Register 0, Joined) ∷ (Register 1, Joined) ∷ (Open 2, Opened 1 2 1) ∷ (Close, Closed 1) ∷
    (Withdraw 0, Left)
    ∷ (Open 9, Opened 3 1 1) ∷ (Close, Closed 3) ∷ (Open 1, NothingLeft) ∷ [])

abbrev pub WithdrawalBetween : Type 0
WithdrawalBetween = Makes withdrawal_between ((0 ∷ []) ∷ (0 ∷ []) ∷ (1 ∷ []) ∷ []) ((1, 0, 2) ∷ (3, 1, 1) ∷ [])

-- two flows of each of two ports: grants of both ports, and one of them is noted with nothing sent
abbrev pub two_ports : Opening
two_ports = record {
  table = record {
    flows = all_ties.flows;
    starts = 0 ∷ 2 ∷ 4 ∷ [];
    ports = 2;
    ids = 1 ∷ 2 ∷ [];
    arrivals = 0 ∷ 0 ∷ [];
  };
  weights = 1 ∷ 1 ∷ [];
  limit = 100;
}

abbrev pub ports_apart : List Entry
ports_apart =
    entries ((Register 0, Joined) ∷ (Register 1, Joined) ∷ (Open 9, Opened 1 1 2) ∷ (Short 1 0, Noted 0) ∷
    (Close, Closed 1)
    ∷ (Open 9, Opened 2 1 2) ∷ (Close, Closed 2) ∷ (Open 9, Opened 3 1 1) ∷ (Close, Closed 3) ∷ (Open 9, NothingLeft) ∷
    [])

abbrev pub TwoPorts : Type 0
TwoPorts =
    IsLegal two_ports ports_apart × (schedule_of two_ports ports_apart ≡ (0 ∷ []) ∷ (1 ∷ 2 ∷ []) ∷ (3 ∷ []) ∷ [])
    × (wire_of two_ports ports_apart 0 ≡ (1, 0, 1) ∷ (2, 2, 1) ∷ [])
    × (wire_of two_ports ports_apart 1 ≡ (2, 1, 1) ∷ (3, 3, 1) ∷ [])

-- a list of sent runs that has one of them twice
abbrev pub twice : List (ℕ × ℕ × ℕ)
twice = (1, 0, 2) ∷ (1, 1, 1) ∷ (1, 0, 2) ∷ (2, 0, 2) ∷ []

abbrev pub TwiceOnAWire : Type 0
TwiceOnAWire =
    (times_on twice 0 0 ≡ 0) × (times_on twice 1 0 ≡ 2) × (times_on twice 2 0 ≡ 3) × (times_on twice 3 0 ≡ 1)
    × (times_on twice 4 0 ≡ 0) × (times_on twice 1 1 ≡ 1) × (times_on twice 2 1 ≡ 0)

-- a run that is still open stands in no slot, and on no wire
abbrev pub open_run : List Entry
open_run = entries ((Register 0, Joined) ∷ (Open 2, Opened 1 2 1) ∷ (Short 0 1, Noted 1) ∷ [])

abbrev pub OpenRun : Type 0
OpenRun = Makes open_run [] []

-- one caller registers a coflow, and then the driver opens a run of three slots; another caller pulls, a third
-- one can't publish, the driver notes that one unit was sent from ingress 0, the third caller weighs and withdraws
-- coflows, and the driver closes the run
abbrev pub one_run : Drive
one_run = record {
  earlier = entry 3 (Register 1) Joined ∷ [];
  most = 5;
  first = 1;
  slots = 3;
  count = 1;
  between =
      entry 3 (Pull 0) (Unranked 0) ∷ entry 4 Publish (StillOpen 1) ∷ entry 0 (Short 0 1) (Noted 1)
      ∷ entry 4 (Reweigh 0 2) (Weighed 1) ∷ entry 4 (Withdraw 1) Left ∷ [];
  answer = Closed 1;
  sent = λ port. 1;
}

-- the journal before it, and the one after it
abbrev pub registered : List Entry
registered = entry 0 (Register 0) Joined ∷ []

abbrev pub after_one_run : List Entry
after_one_run = closed_in registered one_run ++ closing one_run ∷ []

-- it is a driven run of a legal journal: the flow stands in slot 1 alone, and its unit was sent there
abbrev pub OneRun : Type 0
OneRun =
    IsLegal (two 100) after_one_run × IsDriven (two 100) registered after_one_run one_run
    × (schedule_of (two 100) after_one_run ≡ (0 ∷ []) ∷ [] ∷ [] ∷ [])
    × (wire_of (two 100) after_one_run 0 ≡ (1, 0, 1) ∷ [])

-- what is counted in the run with a note and the whole run after it
abbrev pub CountedRuns : Type 0
CountedRuns =
    (closings noted_run ≡ 2) × (units_sent (two 100) noted_run ≡ 3)
    × (slots_together (closed_runs (two 100) noted_run) ≡ 4)
    × (count_by is_noted (closed_runs (two 100) noted_run) ≡ 1) × (openings noted_run ≡ (1, 2, 1) ∷ (3, 2, 1) ∷ [])

-- two runs of one slot with two grants each, and one with one; a run that is still open was opened too
abbrev pub CountedGrants : Type 0
CountedGrants =
    (units_granted (closed_runs two_ports ports_apart) ≡ 5) × (units_sent two_ports ports_apart ≡ 4)
    × (count_by is_noted (closed_runs two_ports ports_apart) ≡ 1)
    × (openings ports_apart ≡ (1, 1, 2) ∷ (2, 1, 2) ∷ (3, 1, 1) ∷ []) × (openings open_run ≡ (1, 2, 1) ∷ [])

-- the furthest skip: none, one, one to a slot that is past, which tells the next slot, and one that comes too late
abbrev pub FurthestSkips : Type 0
FurthestSkips =
    (furthest_skip noted_run ≡ 1) × (furthest_skip skipped_slots ≡ 4)
    × (furthest_skip (entries ((Skip 5, Skipped 5) ∷ (Skip 3, Skipped 5) ∷ (Pull 0, Unranked 0) ∷ [])) ≡ 5)
    × (furthest_skip (entries ((Skip 2199023255552, Late 2199023255552) ∷ [])) ≡ 1)

-- what the driver and others ask while the driven run is under way
abbrev pub CountedNotes : Type 0
CountedNotes =
    (driver_entries one_run.between ≡ entry 0 (Short 0 1) (Noted 1) ∷ []) × (endings one_run.between ≡ 1)
    × (times_noted one_run.between 0 ≡ 1) × (times_noted one_run.between 1 ≡ 0)
    × (driver_entries after_one_run
    ≡ entries ((Register 0, Joined) ∷ (Open 5, Opened 1 3 1) ∷ (Short 0 1, Noted 1) ∷ (Close, Closed 1) ∷ []))

-- notes of two ports, with an entry of another between them
abbrev pub two_notes : ℕ → ℕ → List Entry
two_notes first second =
    entry 0 (Short first 0) (Noted 0) ∷ entry 3 (Pull 0) (Unranked 0) ∷ entry 0 (Short second 0) (Noted 0) ∷ []

-- they come in order where the first port is the lesser one, and neither the other way nor for one port twice
abbrev pub NotesInOrder : Type 0
NotesInOrder =
    AllPairs IsNotedBefore (two_notes 0 1) × (AllPairs IsNotedBefore (two_notes 1 0) → ⊥)
    × (AllPairs IsNotedBefore (two_notes 1 1) → ⊥)

-- the first run of two ports: a unit was sent in its one slot from port 0, and none from port 1, which was noted
abbrev pub first_apart : Drive
first_apart = record {
  earlier = [];
  most = 9;
  first = 1;
  slots = 1;
  count = 2;
  between = entry 0 (Short 1 0) (Noted 0) ∷ [];
  answer = Closed 1;
  sent = λ port. if port == 0 then 1 else 0;
}

-- and the second one, in which a unit was sent from each
abbrev pub second_apart : Drive
second_apart = record {
  earlier = [];
  most = 9;
  first = 2;
  slots = 1;
  count = 2;
  between = [];
  answer = Closed 2;
  sent = λ port. 1;
}

-- the journals before the first run, after it, and after the second one
abbrev pub both_registered : List Entry
both_registered = entries ((Register 0, Joined) ∷ (Register 1, Joined) ∷ [])

abbrev pub after_first_apart : List Entry
after_first_apart = closed_in both_registered first_apart ++ closing first_apart ∷ []

abbrev pub after_second_apart : List Entry
after_second_apart = closed_in after_first_apart second_apart ++ closing second_apart ∷ []

-- both are driven runs of that journal; the port that sent its unit is to be noted not at all, and the other one once;
-- and the second one was sent whole
abbrev pub DrivenApart : Type 0
DrivenApart =
    (after_second_apart
    ++ entries ((Open 9, Opened 3 1 1) ∷ (Close, Closed 3) ∷ (Open 9, NothingLeft) ∷ []) ≡ ports_apart)
    × IsDriven two_ports both_registered after_first_apart first_apart
    × (notes_due all_ties.flows first_apart 0 ≡ 0) × (notes_due all_ties.flows first_apart 3 ≡ 1)
    × IsDriven two_ports after_first_apart after_second_apart second_apart
    × IsSentWhole two_ports after_first_apart second_apart

-- which commands note, and which skip
abbrev pub CountedKinds : Type 0
CountedKinds =
    (map (λ (e : Entry). is_noting e.command) noted_run ≡ false ∷ false ∷ true ∷ false ∷ false ∷ false ∷ [])
    × (map (λ (e : Entry). is_skipping e.command) skipped_slots ≡ true ∷ false ∷ false ∷ false ∷ [])

-- a run of the slots 4 and 5, of which one unit was sent
abbrev pub two_slots : Run
two_slots = record { first = 4; slots = 2; granted = 0 ∷ []; notes = (0, 1) ∷ [] }

abbrev pub SlotsOfARun : Type 0
SlotsOfARun =
    IsSlotOf 4 two_slots × IsSlotOf 5 two_slots × (IsSlotOf 3 two_slots → ⊥) × (IsSlotOf 6 two_slots → ⊥)

-- a run of the slots 1 and 2 that grants the flow
abbrev pub two_of : ℕ → List (ℕ × ℕ) → Run
two_of f notes = record { first = 1; slots = 2; granted = f ∷ []; notes = notes }

-- in the run with a note no flow ended, and in the one after it one did; in each run of the two ports one ended; and
-- where a coflow left after two of its units were sent, its flow owes one still
abbrev pub EndedFlows : Type 0
EndedFlows =
    (flows_ended (two 100) noted_run ≡ 1)
    × (runs_without_end (two 100) noted_run ≡ two_of 0 ((0, 1) ∷ []) ∷ [])
    × (flows_ended two_ports ports_apart ≡ 4) × (runs_without_end two_ports ports_apart ≡ [])
    × (flows_ended (two 100) withdrawal_between ≡ 1)
    × (runs_without_end (two 100) withdrawal_between ≡ two_of 0 [] ∷ [])

-- so many units of the flow, which begins at the port
abbrev pub credit_of : ℕ → ℕ → ℕ → Credit
credit_of flow ingress units = record { flow = flow; ingress = ingress; units = units }

-- one unit of flow 0 in a run of two slots, and two of flow 2 beside one of flow 1 in a run of three slots that begins
-- with slot 4
abbrev pub two_credited : List CreditedRun
two_credited =
    record { first = 1; slots = 2; credits = credit_of 0 0 1 ∷ [] }
    ∷ record { first = 4; slots = 3; credits = credit_of 1 1 1 ∷ credit_of 2 0 2 ∷ [] } ∷ []

abbrev pub TalliedSlots : Type 0
TalliedSlots =
    (tallied_schedule two_credited 7 ≡ (0 ∷ []) ∷ [] ∷ [] ∷ (1 ∷ 2 ∷ []) ∷ (2 ∷ []) ∷ [] ∷ [])
    × (tallied_wire two_credited 0 ≡ (1, 0, 1) ∷ (4, 2, 2) ∷ []) × (tallied_wire two_credited 1 ≡ (4, 1, 1) ∷ [])
    × (tallied_wire two_credited 2 ≡ [])
    × (map (credited two_flows) (closed_runs (two 100) noted_run)
    ≡ record { first = 1; slots = 2; credits = credit_of 0 0 1 ∷ [] }
    ∷ record { first = 3; slots = 2; credits = credit_of 0 0 2 ∷ [] } ∷ [])
