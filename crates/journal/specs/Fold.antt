-- The state after a journal: it begins with what the opening gives, and each entry changes it by its reply.
use Rattle.std.specs.Prelude.{ℕ, ◌+◌, ◌==◌, if◌then◌else◌, List, [], ◌∷◌, ◌++◌, Option, Some, None}
use Rattle.std.specs.List.{slice_index_or}
use Rattle.journal.specs.declared.command.Command.{Command}
use Rattle.journal.specs.declared.command.Command.TheVariants.{Register, Withdraw, Pull, Short, Reweigh}
use Rattle.journal.specs.declared.command.Reply.{Reply}
use Rattle.journal.specs.declared.command.Reply.TheVariants.{Joined, Left, Version, Opened, Noted, Closed, Skipped}
use Rattle.journal.specs.declared.command.Reply.TheVariants.{Weighed}
use Rattle.journal.specs.declared.command.Entry.{Entry}
use Rattle.journal.specs.declared.opening.Opening.{Opening}
use Rattle.journal.specs.State.{Run, State, what_is_left}
use Rattle.journal.specs.Runs.{credit, granted}

-- the coflow that a command names, or 0
abbrev pub coflow_named : Command → ℕ
coflow_named (Register c) = c
coflow_named (Withdraw c) = c
coflow_named (Pull c) = c
coflow_named (Reweigh c w) = c
coflow_named k = 0

-- the port that a command names, or 0
abbrev pub port_named : Command → ℕ
port_named (Short port units) = port
port_named k = 0

-- the weight that a command names, or 0
abbrev pub weight_named : Command → ℕ
weight_named (Reweigh c w) = w
weight_named k = 0

-- the note joins those of the open run
abbrev pub noted_in : Option Run → ℕ → ℕ → Option Run
noted_in None port n = None
noted_in (Some r) port n = Some (record r { notes = (port, n) ∷ r.notes })

-- the open run is closed: its credits are sent, and the next slot is the first after it
abbrev pub closed : Opening → State → Option Run → State
closed o s None = s
closed o s (Some r) = record s { sent = λ f. s.sent f + credit o.table.flows r f; run = None; next = r.first + r.slots }

-- The state after a command with this reply. A refusal changes nothing, nor does a pull.
abbrev pub after : Opening → State → Command → Reply → State
after o s k Joined = record s { joined = s.joined ++ coflow_named k ∷ [] }
after o s k Left = record s { left = s.left ++ coflow_named k ∷ [] }
after o s k (Version v) = record s { published = s.published ++ what_is_left o s ∷ [] }
after o s k (Opened slot slots count) =
    record s { run = Some (record { first = slot; slots = slots; granted = granted o s; notes = [] }) }
after o s k (Noted n) = record s { run = noted_in s.run (port_named k) n }
after o s k (Closed slot) = closed o s s.run
after o s k (Skipped slot) = record s { next = slot }
after o s k (Weighed old) = record s { weight = λ c. if c == coflow_named k then weight_named k else s.weight c }
after o s k reply = s

-- the state before the first entry
abbrev pub start : Opening → State
start o = record {
  joined = [];
  left = [];
  weight = λ c. slice_index_or o.weights c 0;
  published = [];
  sent = λ f. 0;
  run = None;
  next = 1;
}

-- the state after further entries
abbrev pub state_from : Opening → State → List Entry → State
state_from o s [] = s
state_from o s (e ∷ es) = state_from o (after o s e.command e.reply) es

-- the state after a journal
abbrev pub state_of : Opening → List Entry → State
state_of o journal = state_from o (start o) journal
