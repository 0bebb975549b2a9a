-- What closings credit, along a journal.
use Rattle.std.specs.Prelude.{◌≡◌, ℕ, ◌+◌, ◌≤◌, List, [], ◌∷◌, Option}
use Rattle.journal.specs.declared.command.Entry.{Entry}
use Rattle.journal.specs.declared.command.Reply.{Reply}
use Rattle.journal.specs.declared.command.Reply.TheVariants.{Closed}
use Rattle.journal.specs.declared.opening.Opening.{Opening}
use Rattle.journal.specs.State.{Run, State}
use Rattle.journal.specs.Runs.{credit}
use Rattle.journal.specs.Fold.{after, start}
use Rattle.journal.specs.Sound.{OnRun}
use Rattle.world_model.specs.declared.event.SentRun.{SentRun}
use Rattle.world_model.specs.Sent.{sent_in}

-- where the reply closes the run, the run ends before this slot, and each flow is credited with the units that were
-- sent for it in the slots of the run
abbrev pub CreditsSent : Opening → List SentRun → ℕ → Reply → Option Run → Type 0
CreditsSent o sent next (Closed slot) run =
    OnRun run (λ r. (r.first + r.slots ≤ next) × ((f : ℕ) → credit o.table.flows r f ≡ sent_in sent r f))
CreditsSent o sent next reply run = Unit {0}

-- so it is with each entry, from this state on
abbrev pub CreditedFrom : Opening → List SentRun → ℕ → State → List Entry → Type 0
CreditedFrom o sent next s [] = Unit {0}
CreditedFrom o sent next s (e ∷ es) = CreditsSent o sent next e.reply s.run ×
    CreditedFrom o sent next (after o s e.command e.reply) es

-- so it is with each entry of the journal
abbrev pub IsCredited : Opening → List SentRun → ℕ → List Entry → Type 0
IsCredited o sent next journal = CreditedFrom o sent next (start o) journal
