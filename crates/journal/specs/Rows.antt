-- What a master of two small flows answers, worked out by hand.
use Rattle.std.specs.Prelude.{◌≡◌, ℕ, List, [], ◌∷◌, ◌++◌}
use Rattle.coflow_units.specs.Rows.{two_flows}
use Rattle.journal.specs.declared.command.Command.{Command}
use Rattle.journal.specs.declared.command.Command.TheVariants.{Register, Withdraw, Publish, Pull, Open, Short, Close}
use Rattle.journal.specs.declared.command.Command.TheVariants.{Skip, Reweigh}
use Rattle.journal.specs.declared.command.Reply.{Reply}
use Rattle.journal.specs.declared.command.Reply.TheVariants.{Full, Already, Joined, NotHere, Left, StillOpen, Version}
use Rattle.journal.specs.declared.command.Reply.TheVariants.{Rank, Unranked, NothingLeft, Late, Opened, NotGranted}
use Rattle.journal.specs.declared.command.Reply.TheVariants.{Noted, NoneOpen, Closed, StillOwed, Skipped, Weighed}
use Rattle.journal.specs.declared.command.Entry.{Entry}
use Rattle.journal.specs.declared.opening.Opening.{Opening}
use Rattle.journal.specs.Answer.{reply_of}
use Rattle.journal.specs.Journal.{adds}

-- after the entries, the commands one after another have these replies
abbrev pub Gives : Opening → List Entry → List (Command × Reply) → Type 0
Gives o before [] = Unit {0}
Gives o before (x ∷ xs) = (reply_of o before x.0 ≡ x.1) × Gives o (before ++ adds 0 x.0 x.1) xs

-- a coflow of 3 units and one of 1 unit, both from ingress 0 to egress 1
abbrev pub two : ℕ → Opening
two limit = record {
  table = record { flows = two_flows; starts = 0 ∷ 1 ∷ 2 ∷ []; ports = 3; ids = 1 ∷ 2 ∷ []; arrivals = 0 ∷ 0 ∷ [] };
  weights = 1 ∷ 1 ∷ [];
  limit = limit;
}

-- ranks are kept by those who left
abbrev pub Ranks : Type 0
Ranks = Gives (two 100) []
    ((Register 0, Joined) ∷ (Pull 0, Unranked 0) ∷ (Publish, Version 1) ∷ (Pull 0, Rank 1 1) ∷ (Withdraw 0, Left) ∷
    (Pull 0, Rank 1 1) ∷ (Register 0, Already) ∷ (Withdraw 0, NotHere) ∷ [])

-- a journal of three entries
abbrev pub Fills : Type 0
Fills = Gives (two 3) [] ((Register 0, Joined) ∷ (Register 1, Joined) ∷ (Publish, Version 1) ∷ (Pull 0, Full 3) ∷ [])

-- the further room: an open run can be noted and closed where the journal is full for other commands
abbrev pub ClosesInFull : Type 0
ClosesInFull = Gives (two 2) []
    ((Register 0, Joined) ∷ (Open 5, Opened 1 3 1) ∷ (Pull 0, Full 2) ∷ (Short 0 7, Noted 3) ∷ (Close, Closed 1) ∷
    (Close, NoneOpen) ∷ (Close, NoneOpen) ∷ (Close, Full 6) ∷ (Pull 0, Full 6) ∷ [])

-- runs with notes
abbrev pub Runs : Type 0
Runs = Gives (two 100) []
    ((Close, NoneOpen) ∷ (Short 0 1, NotGranted 0) ∷ (Register 0, Joined) ∷ (Open 2, Opened 1 2 1) ∷
    (Open 1, StillOpen 1) ∷ (Publish, StillOpen 1)
    ∷ (Short 1 0, NotGranted 1) ∷ (Short 0 1, Noted 1) ∷ (Close, Closed 1) ∷ (Open 9, Opened 3 2 1) ∷
    (Close, Closed 3) ∷ (Open 1, NothingLeft) ∷ [])

-- the last slot
abbrev pub LastSlot : Type 0
LastSlot = Gives (two 100) []
    ((Skip 2199023255552, Late 2199023255552) ∷ (Skip 2199023255551, Skipped 2199023255551) ∷ (Register 0, Joined) ∷
    (Skip 5, StillOwed 0)
    ∷ (Open 4, Opened 2199023255551 1 1) ∷ (Close, Closed 2199023255551) ∷ (Open 1, Late 2199023255552) ∷ [])

-- a weight that is changed before a publishing puts the longer coflow first, and one that is changed after it does not
abbrev pub Weights : Type 0
Weights = Gives (two 100) []
    ((Reweigh 0 5, NotHere) ∷ (Register 0, Joined) ∷ (Register 1, Joined) ∷ (Publish, Version 1) ∷ (Pull 0, Rank 1 2) ∷
    (Reweigh 0 5, Weighed 1) ∷ (Pull 0, Rank 1 2)
    ∷ (Publish, Version 2) ∷ (Pull 0, Rank 2 1) ∷ (Reweigh 0 7, Weighed 5) ∷ (Withdraw 0, Left) ∷
    (Reweigh 0 1, NotHere) ∷ [])

-- who never joined can't leave, and who joined joins no more
abbrev pub Doors : Type 0
Doors = Gives (two 100) []
    ((Withdraw 0, NotHere) ∷ (Register 0, Joined) ∷ (Register 0, Already) ∷ (Withdraw 1, NotHere) ∷ (Withdraw 0, Left) ∷
    [])

-- a skip to a slot that is past leaves the next slot, which the next run begins with
abbrev pub SkipsBack : Type 0
SkipsBack = Gives (two 100) []
    ((Skip 5, Skipped 5) ∷ (Skip 3, Skipped 5) ∷ (Register 0, Joined) ∷ (Open 9, Opened 5 3 1) ∷ [])

-- who has a place in the newest order is served before those who joined since, also where they have lesser numbers
abbrev pub LateJoiner : Type 0
LateJoiner = Gives (two 100) []
    ((Register 1, Joined) ∷ (Publish, Version 1) ∷ (Register 0, Joined) ∷ (Open 9, Opened 1 1 1) ∷ (Close, Closed 1)
    ∷ (Open 9, Opened 2 3 1) ∷ [])

-- who has no place is served by joining, and not by number
abbrev pub ByJoining : Type 0
ByJoining = Gives (two 100) [] ((Register 1, Joined) ∷ (Register 0, Joined) ∷ (Open 9, Opened 1 1 1) ∷ [])

-- who has a place is served by the order, and not by joining; a skip names the least flow that owes, and not the first
-- in the line
abbrev pub ByOrder : Type 0
ByOrder = Gives (two 100) []
    ((Register 0, Joined) ∷ (Register 1, Joined) ∷ (Publish, Version 1) ∷ (Skip 2, StillOwed 0) ∷
    (Open 9, Opened 1 1 1) ∷ [])

-- the newest note of a port counts: neither the oldest, nor the greatest, nor the least, nor their sum
abbrev pub NewestNote : Type 0
NewestNote = Gives (two 100) []
    ((Register 0, Joined) ∷ (Open 3, Opened 1 3 1) ∷ (Short 0 2, Noted 2) ∷ (Short 0 1, Noted 1) ∷ (Close, Closed 1)
    ∷ (Open 9, Opened 4 2 1) ∷ (Short 0 0, Noted 0) ∷ (Short 0 1, Noted 1) ∷ (Close, Closed 4) ∷
    (Open 9, Opened 6 1 1) ∷ [])

-- an order takes the units that are owed, and leaves out who left: where both owe one unit, number 1 is last
abbrev pub LeftWork : Type 0
LeftWork = Gives (two 100) []
    ((Register 0, Joined) ∷ (Open 2, Opened 1 2 1) ∷ (Close, Closed 1) ∷ (Register 1, Joined) ∷ (Publish, Version 1)
    ∷ (Pull 0, Rank 1 1) ∷ (Pull 1, Rank 1 2) ∷ (Withdraw 1, Left) ∷ (Publish, Version 2) ∷ (Pull 1, Unranked 2)
    ∷ (Pull 0, Rank 2 1) ∷ [])
