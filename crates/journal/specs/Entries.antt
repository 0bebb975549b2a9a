-- What an entry of a legal journal tells of the state that it answered in.
use Rattle.std.specs.Prelude.{◌≡◌, ◌≢◌, ℕ, ◌+◌, ◌<◌, ◌≤◌, ◌⊎◌, min, max, Bool, true, false, length, Some, None}
use Rattle.std.specs.List.{slice_index_or}
use Rattle.journal.specs.declared.command.Command.{Command}
use Rattle.journal.specs.declared.command.Command.TheVariants.{Register, Withdraw, Publish, Pull, Open, Short, Close}
use Rattle.journal.specs.declared.command.Command.TheVariants.{Skip, Reweigh}
use Rattle.journal.specs.declared.command.Reply.{Reply}
use Rattle.journal.specs.declared.command.Reply.TheVariants.{Full, Already, Joined, NotHere, Left, StillOpen, Version}
use Rattle.journal.specs.declared.command.Reply.TheVariants.{Rank, Unranked, NothingLeft, Late, Opened, NotGranted}
use Rattle.journal.specs.declared.command.Reply.TheVariants.{Noted, NoneOpen, Closed, StillOwed, Skipped, Weighed}
use Rattle.journal.specs.declared.opening.Opening.{Opening}
use Rattle.journal.specs.State.{has, is_present, Run, slot_end, State}
use Rattle.journal.specs.Line.{owing, rank, version}
use Rattle.journal.specs.Runs.{flow_at, grant_in, granted, slots_for}

-- the command is one that the driver of runs asks: Open, Short, Close or Skip
abbrev pub is_driving : Command → Bool
is_driving (Open most) = true
is_driving (Short port units) = true
is_driving Close = true
is_driving (Skip to) = true
is_driving k = false

-- the reply changes the open run, the next slot or the units sent
abbrev pub is_moving : Reply → Bool
is_moving (Opened slot slots count) = true
is_moving (Noted n) = true
is_moving (Closed slot) = true
is_moving (Skipped slot) = true
is_moving reply = false

-- the reply closes a run or lets slots pass
abbrev pub is_passing : Reply → Bool
is_passing (Closed slot) = true
is_passing (Skipped slot) = true
is_passing reply = false

-- What a reply tells of its command and of the state that it answers in: a new version is the next one; a pull tells
-- the newest version, and the place in it where there is one; a run is opened where none is open, a flow owes, and a
-- slot is left, with the next slot; a note is of a grant of the open run; a closing is of the open run; slots are skipped where no run is
-- open and no flow of the line owes; and each refusal has its cause.
abbrev pub TellsEntry : Opening → State → Command → Reply → Type 0
TellsEntry o s k (Version v) = (k ≡ Publish) × (s.run ≡ None) × (v ≡ version s + 1)
TellsEntry o s k (Rank v r) = (c : ℕ) × (k ≡ Pull c) × (v ≡ version s) × (r ≡ rank s v c) × (0 < r)
TellsEntry o s k (Unranked v) = (c : ℕ) × (k ≡ Pull c) × (v ≡ version s) × (rank s v c ≡ 0)
TellsEntry o s k (Opened slot slots count) =
    (most : ℕ) × (k ≡ Open most) × (s.run ≡ None) × (0 < length (owing o s)) × (slot ≡ s.next)
    × (slots ≡ slots_for o s most) × (count ≡ length (granted o s)) × (s.next ≢ slot_end)
TellsEntry o s k (Noted n) =
    (port units f : ℕ) × (r : Run) × (k ≡ Short port units) × (s.run ≡ Some r)
    × (grant_in o.table.flows r.granted port ≡ Some f) × (n ≡ min units r.slots)
TellsEntry o s k (Closed slot) = (r : Run) × (k ≡ Close) × (s.run ≡ Some r) × (slot ≡ r.first)
TellsEntry o s k (Skipped slot) =
    (to : ℕ) × (k ≡ Skip to) × (s.run ≡ None) × (slot ≡ max s.next to) × (length (owing o s) ≡ 0) × (to < slot_end)
TellsEntry o s k Already = (c : ℕ) × (k ≡ Register c) × (has s.joined c ≡ true)
TellsEntry o s k Joined = (c : ℕ) × (k ≡ Register c) × (has s.joined c ≡ false)
TellsEntry o s k Left = (c : ℕ) × (k ≡ Withdraw c) × (is_present s c ≡ true)
TellsEntry o s k NotHere = (c : ℕ) × (is_present s c ≡ false) × ((k ≡ Withdraw c) ⊎ ((w : ℕ) × (k ≡ Reweigh c w)))
TellsEntry o s k (Weighed old) = (c w : ℕ) × (k ≡ Reweigh c w) × (is_present s c ≡ true) × (old ≡ s.weight c)
TellsEntry o s k (StillOpen slot) =
    (r : Run) × (s.run ≡ Some r) × (slot ≡ r.first)
    × ((k ≡ Publish) ⊎ (((most : ℕ) × (k ≡ Open most)) ⊎ ((to : ℕ) × (k ≡ Skip to))))
TellsEntry o s k NothingLeft = (most : ℕ) × (k ≡ Open most) × (s.run ≡ None) × (length (owing o s) ≡ 0)
TellsEntry o s k (Late slot) =
    (s.run ≡ None)
    × (((most : ℕ) × (k ≡ Open most) × (slot ≡ slot_end) × (s.next ≡ slot_end) × (0 < length (owing o s)))
    ⊎ ((k ≡ Skip slot) × (slot_end ≤ slot) × (length (owing o s) ≡ 0)))
TellsEntry o s k (NotGranted port) = (units : ℕ) × (k ≡ Short port units) × (flow_at o.table.flows s.run port ≡ None)
TellsEntry o s k NoneOpen = (k ≡ Close) × (s.run ≡ None)
TellsEntry o s k (StillOwed f) =
    (to : ℕ) × (k ≡ Skip to) × (s.run ≡ None) × (0 < length (owing o s)) × (f ≡ slice_index_or (owing o s) 0 0)
TellsEntry o s k (Full n) = Unit {0}

-- what an Open is answered where no run is open: that nothing is left, where no flow of the line owes; that it comes
-- too late, where a flow owes and no slot is left; or the run that it opens, where a flow owes and a slot is left
abbrev pub IsOpenReply : Opening → State → ℕ → Reply → Type 0
IsOpenReply o s most reply =
    ((reply ≡ NothingLeft) × (length (owing o s) ≡ 0))
    ⊎ (((reply ≡ Late slot_end) × (s.next ≡ slot_end) × (0 < length (owing o s)))
    ⊎ ((reply ≡ Opened s.next (slots_for o s most) (length (granted o s))) × (0 < length (owing o s))
    × (s.next ≢ slot_end)))
