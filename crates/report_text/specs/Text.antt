-- The text of a report, line by line.
use Rattle.coflow_units.specs.Text.{spaced, text_of}
use Rattle.std.specs.Prelude.{ℕ, ◌+◌, ◌++◌, List, [], ◌∷◌, Option, Some, None, length, map, codes}
use Rattle.std.specs.List.{flat_map, range_with_len, slice_index_or}
use Rattle.coflow_units.specs.declared.fabric.Side.{Side}
use Rattle.coflow_units.specs.declared.fabric.Side.TheVariants.{Ingress, Egress}
use Rattle.coflow_units.specs.declared.plan.Run.{Run}
use Rattle.report_text.specs.declared.value.PlaceLine.{PlaceLine}
use Rattle.report_text.specs.declared.value.Report.{Report}

-- the first line tells the version: 2 with weights, 1 without
abbrev pub version_line : Option (List ℕ) → List ℕ
version_line (Some weights) = codes "sincronia 2"
version_line None = codes "sincronia 1"

-- an ingress port is `in`, an egress port is `out`
abbrev pub side_word : Side → List ℕ
side_word Ingress = codes "in"
side_word Egress = codes "out"

-- the weight behind a space, or nothing in version 1
abbrev pub weight_word : Option ℕ → List ℕ
weight_word (Some weight) = spaced weight
weight_word None = []

-- what a place line says of the place: id, side, port, y, and the slot of completion
abbrev pub charge_words : PlaceLine → List ℕ
charge_words p = spaced p.id ++ codes " " ++ side_word p.port.side ++ spaced p.port.number ++ spaced p.y ++
    spaced p.done

-- the line of the place with number k, counted from 1
abbrev pub place_line : ℕ → PlaceLine → Option ℕ → List ℕ
place_line k p weight = codes "place" ++ spaced k ++ charge_words p ++ weight_word weight

-- the weight of the place with index k
abbrev pub weight_at : Option (List ℕ) → ℕ → Option ℕ
weight_at (Some weights) k = Some (slice_index_or weights k 0)
weight_at None k = None

-- the place with index k; an index past the end gives zeros, and is read only where it is known to be a place's
abbrev pub place_at : List PlaceLine → ℕ → PlaceLine
place_at places k = slice_index_or places k record {
  id = 0;
  port = record { side = Ingress; number = 0 };
  y = 0;
  done = 0;
}

-- the line of the place with index k
abbrev pub place_line_at : Report → ℕ → List ℕ
place_line_at r k = place_line (k + 1) (place_at r.places k) (weight_at r.weights k)

-- the lines of the places
abbrev pub place_lines : Report → List (List ℕ)
place_lines r = map (place_line_at r) (range_with_len 0 (length r.places))

-- the line of the bound
abbrev pub bound_line : ℕ → List ℕ
bound_line bound = codes "bound" ++ spaced bound

-- the line of the slack
abbrev pub slack_line : ℕ → List ℕ
slack_line slack = codes "slack" ++ spaced slack

-- the line of the cost
abbrev pub cost_line : ℕ → List ℕ
cost_line cost = codes "cost" ++ spaced cost

-- the lines of the bound, the slack and the cost
abbrev pub total_lines : Report → List (List ℕ)
total_lines r = bound_line r.bound ∷ slack_line r.slack ∷ cost_line r.cost ∷ []

-- the line of a run: its length, and the flows of its slots
abbrev pub run_line : Run → List ℕ
run_line run = codes "run" ++ spaced run.length ++ flat_map spaced run.flows

-- what a text has behind its head: where it ends with a schedule, the lines of the runs and the last line
abbrev pub ending : Option (List Run) → List ℕ
ending None = []
ending (Some runs) = text_of (map run_line runs ++ (codes "end" ∷ []))

-- the lines of a report
abbrev pub report_lines : Report → List (List ℕ)
report_lines r = (version_line r.weights ∷ []) ++ place_lines r ++ total_lines r ++ map run_line r.runs ++
    (codes "end" ∷ [])

-- the text of a report
abbrev pub report_text : Report → List ℕ
report_text r = text_of (report_lines r)
