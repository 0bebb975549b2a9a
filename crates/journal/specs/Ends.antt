-- The flows that end, and the runs in which none does.
use Rattle.std.specs.Prelude.{◌≡◌, ℕ, ◌-◌, ◌==◌, Bool, not, min, List, [], ◌∷◌, ◌++◌, count_by, length}
use Rattle.std.specs.List.{filter, list_any, range_with_len}
use Rattle.journal.specs.declared.command.Entry.{Entry}
use Rattle.journal.specs.declared.command.Reply.{Reply}
use Rattle.journal.specs.declared.opening.Opening.{Opening}
use Rattle.journal.specs.State.{owed, Run, slot_end, State}
use Rattle.journal.specs.Runs.{credit}
use Rattle.journal.specs.Fold.{after, start, state_of}
use Rattle.journal.specs.Closed.{closed_by, IsOpenedIn}

-- how many flows owe nothing after the journal
abbrev pub flows_ended : Opening → List Entry → ℕ
flows_ended o journal = count_by (λ f. owed o (state_of o journal) f == 0) (range_with_len 0 (length o.table.flows))

-- the run credits to one of its flows all that the flow owes
abbrev pub ends_flow : Opening → State → Run → Bool
ends_flow o s r = list_any (λ f. credit o.table.flows r f == owed o s f) r.granted

-- the run that a reply closes, where no flow ends in it
abbrev pub without_end_by : Opening → State → Reply → List Run
without_end_by o s reply = filter (λ r. not (ends_flow o s r)) (closed_by reply s.run)

-- the runs that these entries close, from this state on, and in which no flow ends
abbrev pub without_end_from : Opening → State → List Entry → List Run
without_end_from o s [] = []
without_end_from o s (e ∷ es) = without_end_by o s e.reply ++ without_end_from o (after o s e.command e.reply) es

-- the closed runs of the journal in which no flow ended, in order
abbrev pub runs_without_end : Opening → List Entry → List Run
runs_without_end o journal = without_end_from o (start o) journal

-- an entry of the journal opened the run, which has all the slots that were asked for there and that were left
abbrev pub IsLongAsAsked : Opening → List Entry → Run → Type 0
IsLongAsAsked o journal r = (x : IsOpenedIn o journal r) × (r.slots ≡ min x.most (slot_end - r.first))
