-- A report that was read in part.
use Rattle.std.specs.Prelude.{◌≡◌, ◌≢◌, ℕ, ◌++◌, Bool, true, false, List, [], ◌∷◌, Option, Some, None}
use Rattle.std.specs.Prelude.{map, sum_by}
use Rattle.coflow_units.specs.declared.plan.Run.{Run}
use Rattle.report_text.specs.declared.draft.Stage.{Stage}
use Rattle.report_text.specs.declared.draft.Stage.TheVariants.{Version, Places, Slack, Cost, Runs, Done}
use Rattle.report_text.specs.declared.draft.Draft.{Draft}
use Rattle.report_text.specs.declared.value.Report.{Report}
use Rattle.report_text.specs.Report.{HasSmallNumbers, IsReport}
use Rattle.report_text.specs.Text.{bound_line, place_lines, report_lines, run_line, slack_line, total_lines, version_line}
use Rattle.report_text.specs.Readers.{weights_if}

-- the report with what was read so far, and nothing where nothing was read
abbrev pub report_of : Draft → Report
report_of d = record {
  places = d.places.items;
  weights = weights_if d.weighed d.weights.items;
  bound = d.bound;
  slack = d.slack;
  cost = d.cost;
  runs = d.runs;
}

-- the lines of a report that were read when the stage begins
abbrev pub lines_before : Stage → Report → List (List ℕ)
lines_before Version r = []
lines_before Places r = version_line r.weights ∷ place_lines r
lines_before Slack r = version_line r.weights ∷ (place_lines r ++ (bound_line r.bound ∷ []))
lines_before Cost r = version_line r.weights ∷ (place_lines r ++ (bound_line r.bound ∷ slack_line r.slack ∷ []))
lines_before Runs r = version_line r.weights ∷ (place_lines r ++ total_lines r ++ map run_line r.runs)
lines_before Done r = report_lines r

-- the lines that were read
abbrev pub draft_lines : Draft → List (List ℕ)
draft_lines d = lines_before d.stage (report_of d)

-- what comes later in a text was not read yet
abbrev pub HasNothingLater : Stage → Draft → Type 0
HasNothingLater Version d = (d.places.items ≡ []) × (d.weights.items ≡ []) × (d.runs ≡ [])
HasNothingLater Places d = d.runs ≡ []
HasNothingLater Slack d = d.runs ≡ []
HasNothingLater Cost d = d.runs ≡ []
HasNothingLater Runs d = Unit {0}
HasNothingLater Done d = Unit {0}

-- what was read is a report's, and the slots of its runs are counted
pub record IsDraft (d : Draft) : Type 0 where
  pub report : IsReport (report_of d)
  pub small : HasSmallNumbers (report_of d)
  pub slots : d.slots ≡ sum_by (λ (run : Run). run.length) d.runs
  pub later : HasNothingLater d.stage d

-- no report has the line after the lines that were read
abbrev pub Refuses : Draft → List ℕ → Type 0
Refuses d line = (r : Report) (more : List (List ℕ)) → IsReport r → HasSmallNumbers r →
    report_lines r ≡ draft_lines d ++ (line ∷ more) → ⊥

-- the line is taken, and stands behind the lines that were read before; or no report has it there
abbrev pub Takes : Draft → Draft → List ℕ → Bool → Type 0
Takes old new line true = IsDraft new × (draft_lines new ≡ draft_lines old ++ (line ∷ []))
Takes old new line false = Refuses old line

-- the report is finished where its last line was read
abbrev pub Finishes : Draft → Option Report → Type 0
Finishes d (Some r) = (d.stage ≡ Done) × (r ≡ report_of d)
Finishes d None = d.stage ≢ Done
