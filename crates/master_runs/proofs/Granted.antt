-- The flows that an open run grants are flows of the table.
use Rattle.std.proofs.Common.{◌<◌, ℕ, List, length, Option, None, Some}
use Rattle.std.specs.Prelude.{All}
use Rattle.std.proofs.lemmas.List.Elements.{All-nil}
use Rattle.coflow_units.specs.declared.fabric.Flow.{Flow}
use Rattle.journal.specs.Runs.{flows_granted}
use Rattle.journal.specs.Sound.{IsOpenRun, OnRun}
use Rattle.journal.specs.State.{Run}

pub granted_there : (flows : List Flow) (sent : ℕ → ℕ) (next : ℕ) (run : Option Run) → OnRun run (IsOpenRun flows sent next) → All (λ f. f < length flows) (flows_granted run)
granted_there flows sent next None on = All-nil (λ f. f < length flows)
granted_there flows sent next (Some r) on = on.clear.flow
