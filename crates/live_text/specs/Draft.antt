-- A printed journal that was read in part.
use Rattle.std.specs.Prelude.{◌≡◌, ◌≢◌, ℕ, ◌-◌, ◌<◌, ◌++◌, Bool, true, false, List, [], ◌∷◌, Option, Some, None, length}
use Rattle.std.specs.Prelude.{sum_by}
use Rattle.std.specs.List.{slice_index_or}
use Rattle.coflow_units.specs.declared.plan.Run.{Run}
use Rattle.live_text.specs.declared.draft.Draft.{Draft}
use Rattle.live_text.specs.declared.draft.Stage.{Stage}
use Rattle.live_text.specs.declared.draft.Stage.TheVariants.{First, Lines, Done}
use Rattle.live_text.specs.declared.value.Live.{Live}
use Rattle.live_text.specs.declared.value.PullLine.{PullLine}
use Rattle.live_text.specs.Live.{IsBefore, IsLive}
use Rattle.live_text.specs.Text.{body_lines, live_lines}

-- the printed journal with what was read so far, and nothing where nothing was read
abbrev pub live_of : Draft → Live
live_of d = record { entries = d.entries.items; orders = d.orders.items; pulls = d.pulls.items; runs = d.runs }

-- the lines of a printed journal that were read when the stage begins
abbrev pub lines_before : Stage → Live → List (List ℕ)
lines_before First l = []
lines_before Lines l = body_lines l
lines_before Done l = live_lines l

-- the lines that were read
abbrev pub draft_lines : Draft → List (List ℕ)
draft_lines d = lines_before d.stage (live_of d)

-- before the first line nothing was read
abbrev pub HasNothing : Stage → Live → Type 0
HasNothing First l = (l.entries ≡ []) × (l.orders ≡ []) × (l.pulls ≡ []) × (l.runs ≡ [])
HasNothing Lines l = Unit {0}
HasNothing Done l = Unit {0}

-- what was read is a printed journal's, and the slots of its runs are counted
pub record IsDraft (d : Draft) : Type 0 where
  pub live : IsLive (live_of d)
  pub slots : d.slots ≡ sum_by (λ (run : Run). run.length) d.runs
  pub nothing : HasNothing d.stage (live_of d)

-- no text has the line after the lines that were read
abbrev pub Refuses : Draft → List ℕ → Type 0
Refuses d line = (l : Live) (more : List (List ℕ)) → IsLive l → live_lines l ≡ draft_lines d ++ (line ∷ more) → ⊥

-- the line is taken, and stands behind the lines that were read before; or no text has it there
abbrev pub Takes : Draft → Draft → List ℕ → Bool → Type 0
Takes old new line true = IsDraft new × (draft_lines new ≡ draft_lines old ++ (line ∷ []))
Takes old new line false = Refuses old line

-- the answer tells whether the pull stands behind the last one
abbrev pub ComesBehind : List PullLine → PullLine → Bool → Type 0
ComesBehind pulls pull true = (d : PullLine) → 0 < length pulls →
    IsBefore (slice_index_or pulls (length pulls - 1) d) pull
ComesBehind pulls pull false = (d : PullLine) → (0 < length pulls) ×
    (IsBefore (slice_index_or pulls (length pulls - 1) d) pull → ⊥)

-- the printed journal is finished where its last line was read
abbrev pub Finishes : Draft → Option Live → Type 0
Finishes d (Some l) = (d.stage ≡ Done) × (l ≡ live_of d)
Finishes d None = d.stage ≢ Done
