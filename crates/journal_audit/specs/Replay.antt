-- What is known of a journal that a master answers anew, and of the slots of the runs that it closes.
use Rattle.std.specs.Prelude.{◌≡◌, ℕ, Bool, true, false, if◌then◌else◌, List, [], All, Option, map, option_to_list}
use Rattle.coflow_units.specs.Schedule.{slots_of}
use Rattle.journal.specs.declared.command.Command.{Command}
use Rattle.journal.specs.declared.command.Command.TheVariants.{Close}
use Rattle.journal.specs.declared.command.Entry.{Entry}
use Rattle.journal.specs.declared.opening.Opening.{Opening}
use Rattle.journal.specs.State.{Run}
use Rattle.journal.specs.Closed.{closed_runs}
use Rattle.journal.specs.Counts.{is_noting, is_skipping, run_line}
use Rattle.journal.specs.Journal.{IsLegal}
use Rattle.journal.specs.Sound.{InRange}

-- the command notes no units and skips no slots
abbrev pub IsPlainCommand : Command → Type 0
IsPlainCommand k = (is_noting k ≡ false) × (is_skipping k ≡ false)

-- no entry notes units or skips slots
abbrev pub IsPlain : List Entry → Type 0
IsPlain journal = All (λ (e : Entry). IsPlainCommand e.command) journal

-- the equal slots of the runs, each with the flows that its run grants
abbrev pub even_slots : List Run → List (List ℕ)
even_slots runs = slots_of (map run_line runs)

-- the command closes the open run
abbrev pub closes : Command → Bool
closes Close = true
closes k = false

-- the run that the command closes, where one is open
abbrev pub closing_run : Command → Option Run → List Run
closing_run k run = if closes k then option_to_list run else []

-- the journal is legal, in range, and has no notes and no skips, and the slots are those of its closed runs
pub record IsReplay (o : Opening) (journal : List Entry) (slots : List (List ℕ)) : Type 0 where
  pub legal : IsLegal o journal
  pub in_range : InRange o journal
  pub plain : IsPlain journal
  pub slots_are : slots ≡ even_slots (closed_runs o journal)
