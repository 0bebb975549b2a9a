-- What the master answers. The causes stand in their order: the first that holds gives the reply.
use Rattle.std.specs.Prelude.{ℕ, ◌+◌, ◌^◌, ◌<◌, ◌≤◌, ◌==◌, ◌&&◌, min, max, Bool, true, nat_le, nat_lt, if◌then◌else◌}
use Rattle.std.specs.Prelude.{List, length, Option, Some, None}
use Rattle.coflow_units.specs.declared.limits.TheConstants.{MAX_WEIGHT}
use Rattle.std.specs.List.{slice_index_or}
use Rattle.journal.specs.declared.command.Command.{Command}
use Rattle.journal.specs.declared.command.Command.TheVariants.{Register, Withdraw, Publish, Pull, Open, Short, Close}
use Rattle.journal.specs.declared.command.Command.TheVariants.{Skip, Reweigh}
use Rattle.journal.specs.declared.command.Reply.{Reply}
use Rattle.journal.specs.declared.command.Reply.TheVariants.{Full, Already, Joined, NotHere, Left, StillOpen, Version}
use Rattle.journal.specs.declared.command.Reply.TheVariants.{Rank, Unranked, NothingLeft, Late, Opened, NotGranted}
use Rattle.journal.specs.declared.command.Reply.TheVariants.{Noted, NoneOpen, Closed, StillOwed, Skipped, Weighed}
use Rattle.journal.specs.declared.command.Entry.{Entry}
use Rattle.journal.specs.declared.opening.Opening.{Opening}
use Rattle.journal.specs.State.{has, is_present, Run, slot_end, State}
use Rattle.journal.specs.Line.{owing, rank, version}
use Rattle.journal.specs.Runs.{grant_in, granted, slots_for}
use Rattle.journal.specs.Fold.{state_of}

-- the reply is this one where a run is open, and else the other
abbrev pub on_run : Option Run → (Run → Reply) → Reply → Reply
on_run None given other = other
on_run (Some r) given other = given r

-- a pull in version v of a coflow with this rank
abbrev pub pulled : ℕ → ℕ → Reply
pulled v r = if r == 0 then Unranked v else Rank v r

-- an opening of a run of at most so many slots, where none is open
abbrev pub opened : Opening → State → ℕ → Reply
opened o s most =
    if length (owing o s) == 0 then NothingLeft
    else if s.next == slot_end then Late s.next
    else Opened s.next (slots_for o s most) (length (granted o s))

-- a note of a run at a port with this grant
abbrev pub noted : Run → ℕ → ℕ → Option ℕ → Reply
noted r port units None = NotGranted port
noted r port units (Some f) = Noted (min units r.slots)

-- a skip, where no run is open
abbrev pub skipped : Opening → State → ℕ → Reply
skipped o s to =
    if nat_lt 0 (length (owing o s)) then StillOwed (slice_index_or (owing o s) 0 0)
    else if nat_le slot_end to then Late to
    else Skipped (max s.next to)

-- the reply of a master whose journal has room
abbrev pub answer : Opening → State → Command → Reply
answer o s (Register c) = if has s.joined c then Already else Joined
answer o s (Withdraw c) = if is_present s c then Left else NotHere
answer o s Publish = on_run s.run (λ r. StillOpen r.first) (Version (version s + 1))
answer o s (Pull c) = pulled (version s) (rank s (version s) c)
answer o s (Open most) = on_run s.run (λ r. StillOpen r.first) (opened o s most)
answer o s (Short port units) =
    on_run s.run (λ r. noted r port units (grant_in o.table.flows r.granted port)) (NotGranted port)
answer o s Close = on_run s.run (λ r. Closed r.first) NoneOpen
answer o s (Skip to) = on_run s.run (λ r. StillOpen r.first) (skipped o s to)
answer o s (Reweigh c w) = if is_present s c then Weighed (s.weight c) else NotHere

-- the numbers of the command are in range
abbrev pub in_range : Opening → Command → Bool
in_range o (Register c) = nat_lt c (length o.table.ids)
in_range o (Withdraw c) = nat_lt c (length o.table.ids)
in_range o Publish = true
in_range o (Pull c) = nat_lt c (length o.table.ids)
in_range o (Open most) = nat_lt 0 most
in_range o (Short port units) = nat_lt port o.table.ports
in_range o Close = true
in_range o (Skip to) = true
in_range o (Reweigh c w) = nat_lt c (length o.table.ids) && (nat_lt 0 w && nat_le w (2 ^ 32))

-- the same as a condition: the command's coflow, its ingress, its number of slots and its weight are in range
abbrev pub IsInRange : Opening → Command → Type 0
IsInRange o (Register coflow) = coflow < length o.table.ids
IsInRange o (Withdraw coflow) = coflow < length o.table.ids
IsInRange o (Pull coflow) = coflow < length o.table.ids
IsInRange o (Open most) = 1 ≤ most
IsInRange o (Short ingress units) = ingress < o.table.ports
IsInRange o (Reweigh coflow weight) = (coflow < length o.table.ids) × (1 ≤ weight) × (weight ≤ MAX_WEIGHT)
IsInRange o k = Unit {0}

-- up to how many entries the journal may grow by a command: a run that was opened can be closed after one note for each
-- port
abbrev pub room : Opening → Command → ℕ
room o (Short port units) = o.limit + o.table.ports + 1
room o Close = o.limit + o.table.ports + 1
room o k = o.limit

-- the reply to a command after a journal
abbrev pub reply_of : Opening → List Entry → Command → Reply
reply_of o journal k = if nat_le (room o k) (length journal) then Full (length journal) else answer o
    (state_of o journal) k
