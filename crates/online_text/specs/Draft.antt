-- An online run that was read in part.
use Rattle.std.specs.Prelude.{◌≡◌, ◌≢◌, ℕ, ◌+◌, ◌++◌, ◌↔◌, Bool, true, false, List, [], ◌∷◌, Option, Some, None}
use Rattle.std.specs.Prelude.{codes, length, sum_by}
use Rattle.std.specs.List.{flat_map}
use Rattle.coflow_units.specs.declared.plan.Run.{Run}
use Rattle.report_text.specs.Text.{bound_line, cost_line, run_line}
use Rattle.online_text.specs.declared.value.Epoch.{Epoch}
use Rattle.online_text.specs.declared.value.Online.{Online}
use Rattle.online_text.specs.Online.{HasSmallNumbers, IsOnline}
use Rattle.online_text.specs.Text.{done_line, epoch_lines, lines_from_done, lines_from_release, lines_from_runs}
use Rattle.online_text.specs.Text.{online_lines, order_line, release_line, total_line}
use Rattle.online_text.specs.declared.draft.Draft.{Draft}
use Rattle.online_text.specs.declared.draft.Stage.{Stage}
use Rattle.online_text.specs.declared.draft.Stage.TheVariants.{First, Epochs, Places, Done, Release, Runs, Ended}

-- the publishing whose order is being read, with no bound yet
abbrev pub opened : Draft → Epoch
opened d = record { time = d.time; places = d.places.items; bound = 0 }

-- the publishings that were read, one of them in part where its order is being read
abbrev pub epochs_of : Stage → Draft → List Epoch
epochs_of First d = d.epochs.items
epochs_of Epochs d = d.epochs.items
epochs_of Places d = d.epochs.items ++ (opened d ∷ [])
epochs_of Done d = d.epochs.items
epochs_of Release d = d.epochs.items
epochs_of Runs d = d.epochs.items
epochs_of Ended d = d.epochs.items

-- the online run with what was read so far, and nothing where nothing was read
abbrev pub online_at : Stage → Draft → Online
online_at stage d = record {
  epochs = epochs_of stage d;
  done = d.done.items;
  cost = d.cost;
  release = d.release.items;
  total = d.total;
  runs = d.runs;
}

abbrev pub online_of : Draft → Online
online_of d = online_at d.stage d

-- what comes later in a text was not read yet
abbrev pub HasNothingLater : Stage → Draft → Type 0
HasNothingLater First d = (d.epochs.items ≡ []) × (d.places.items ≡ []) × (d.done.items ≡ []) ×
    (d.release.items ≡ []) × (d.runs ≡ [])
HasNothingLater Epochs d = (d.places.items ≡ []) × (d.done.items ≡ []) × (d.release.items ≡ []) × (d.runs ≡ [])
HasNothingLater Places d = (d.done.items ≡ []) × (d.release.items ≡ []) × (d.runs ≡ [])
HasNothingLater Done d = (d.release.items ≡ []) × (d.runs ≡ [])
HasNothingLater Release d = d.runs ≡ []
HasNothingLater Runs d = Unit {0}
HasNothingLater Ended d = Unit {0}

-- what was read before the stage is an online run's, and the slots of its runs are counted
pub record IsDraftAt (stage : Stage) (d : Draft) : Type 0 where
  pub online : IsOnline (online_at stage d)
  pub small : HasSmallNumbers (online_at stage d)
  pub slots : d.slots ≡ sum_by (λ (run : Run). run.length) d.runs
  pub later : HasNothingLater stage d

abbrev pub IsDraft : Draft → Type 0
IsDraft d = IsDraftAt d.stage d

-- the lines of the elements, the first of which has index k; a line tells the number of its element, counted from 1
abbrev pub lines_from : {X : Type 0} → (ℕ → X → List ℕ) → ℕ → List X → List (List ℕ)
lines_from line k [] = []
lines_from line k (x ∷ xs) = line (k + 1) x ∷ lines_from line (k + 1) xs

-- the whole list begins with xs, and these are the lines of its other elements, and the closing ones
abbrev pub AreLeft : {X : Type 0} → (ℕ → X → List ℕ) → List X → List X → List (List ℕ) → List (List ℕ) → Type 0
AreLeft {X} line xs whole closing lines = (ys : List X) × (whole ≡ xs ++ ys) ×
    (lines ≡ lines_from line (length xs) ys ++ closing)

-- the online run has the publishings, completions, cost and so on that were read before the stage
abbrev pub HasBefore : Stage → Draft → Online → Type 0
HasBefore First d o = Unit {0}
HasBefore Epochs d o = Unit {0}
HasBefore Places d o = Unit {0}
HasBefore Done d o = o.epochs ≡ d.epochs.items
HasBefore Release d o = (o.epochs ≡ d.epochs.items) × (o.done ≡ d.done.items) × (o.cost ≡ d.cost)
HasBefore Runs d o = (o.epochs ≡ d.epochs.items) × (o.done ≡ d.done.items) × (o.cost ≡ d.cost) ×
    (o.release ≡ d.release.items) × (o.total ≡ d.total)
HasBefore Ended d o = o ≡ online_at Ended d

-- the online run begins with what was read, and these are the lines of what is left of it
abbrev pub IsLeft : Stage → Draft → Online → List (List ℕ) → Type 0
IsLeft First d o lines = lines ≡ online_lines o
IsLeft Epochs d o lines = (es : List Epoch) × (o.epochs ≡ d.epochs.items ++ es) ×
    (lines ≡ flat_map epoch_lines es ++ lines_from_done o)
IsLeft Places d o lines = (e : Epoch) × (es : List Epoch) × (o.epochs ≡ d.epochs.items ++ (e ∷ es)) ×
    (e.time ≡ d.time) × AreLeft order_line d.places.items e.places
    (bound_line e.bound ∷ (flat_map epoch_lines es ++ lines_from_done o)) lines
IsLeft Done d o lines = AreLeft (λ k. done_line) d.done.items o.done (cost_line o.cost ∷ lines_from_release o) lines
IsLeft Release d o lines = AreLeft release_line d.release.items o.release (total_line o.total ∷ lines_from_runs o) lines
IsLeft Runs d o lines = AreLeft (λ k. run_line) d.runs o.runs (codes "end" ∷ []) lines
IsLeft Ended d o lines = lines ≡ []

-- the online run has what was read before the stage, and ends with these lines
abbrev pub GoesOnAt : Stage → Draft → Online → List (List ℕ) → Type 0
GoesOnAt stage d o lines = HasBefore stage d o × IsLeft stage d o lines

abbrev pub GoesOn : Draft → Online → List (List ℕ) → Type 0
GoesOn d o lines = GoesOnAt d.stage d o lines

-- no online run goes on from the draft with the line
abbrev pub Refuses : Draft → List ℕ → Type 0
Refuses d line = (o : Online) (more : List (List ℕ)) → IsOnline o → HasSmallNumbers o → GoesOn d o (line ∷ more) → ⊥

-- the online runs that go on from the old draft with the line are those that go on from the new one
abbrev pub Follows : Draft → Draft → List ℕ → Type 0
Follows old new line = (o : Online) (more : List (List ℕ)) → IsOnline o → HasSmallNumbers o →
    GoesOn old o (line ∷ more) ↔ GoesOn new o more

-- the line is taken; or no online run has it there
abbrev pub Takes : Draft → Draft → List ℕ → Bool → Type 0
Takes old new line true = IsDraft new × Follows old new line
Takes old new line false = Refuses old line

-- the online run is finished where its last line was read
abbrev pub Finishes : Draft → Option Online → Type 0
Finishes d (Some o) = (d.stage ≡ Ended) × (o ≡ online_of d)
Finishes d None = d.stage ≢ Ended
