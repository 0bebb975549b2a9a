-- How long the text of a report is at most.
use Rattle.std.proofs.Common.{◌≡◌, ℕ, suc, ◌+◌, ◌*◌, ◌<◌, ◌≤◌, ◌^◌, List, [], ◌∷◌, ◌++◌, Option, Some, None, length, map, length-append, arith}
use Rattle.std.specs.Prelude.{All, codes, sum_by}
use Rattle.std.specs.List.{flat_map, range_with_len}
use Rattle.std.proofs.lemmas.Fmt.{length-decimal-le_wide}
use Rattle.std.proofs.lemmas.List.Concat.{length-flat_map}
use Rattle.std.proofs.lemmas.List.Elements.{All-map}
use Rattle.std.proofs.lemmas.List.FromFn.{length-map-range_with_len}
use Rattle.std.proofs.lemmas.List.Sums.{get_or-le-sum_by, sum_by-append, sum_by-cons, sum_by-le}
use Rattle.coflow_units.specs.declared.fabric.Side.{Side}
use Rattle.coflow_units.specs.declared.fabric.Side.TheVariants.{Ingress, Egress}
use Rattle.coflow_units.specs.declared.plan.Run.{Run}
use Rattle.coflow_units.proofs.Lists.{number_below}
use Rattle.coflow_units.proofs.Sums.{all_of_members}
use Rattle.report_text.specs.declared.value.PlaceLine.{PlaceLine}
use Rattle.report_text.specs.declared.value.Report.{Report}
use Rattle.report_text.specs.Report.{ForEach, HasSmallNumbers, IsReport, IsSmallPlace}
use Rattle.report_text.specs.Text.{charge_words, place_at, place_line, place_line_at, place_lines, report_text, run_line, side_word, total_lines, version_line, weight_at}
use Rattle.coflow_units.specs.Text.{ended, spaced}
use Rattle.report_text.specs.Text.{weight_word}

-- ---- numbers

small_is_short : (n : ℕ) → n < 2 ^ 32 → length (spaced n) ≤ 11
small_is_short n small = omega (arith, length-decimal-le_wide 10 n (omega arith) (omega (arith, small)) (omega (arith, small)))

weight_is_short : (n : ℕ) → n ≤ 2 ^ 32 → length (spaced n) ≤ 11
weight_is_short n small = omega (arith, length-decimal-le_wide 10 n (omega arith) (omega (arith, small)) (omega (arith, small)))

time_is_short : (n : ℕ) → n < 2 ^ 64 → length (spaced n) ≤ 21
time_is_short n small = omega (arith, length-decimal-le_wide 20 n (omega arith) (omega (arith, small)) (omega (arith, small)))

wide_is_short : (n : ℕ) → n ≤ 2 ^ 128 → length (spaced n) ≤ 40
wide_is_short n small = omega (arith, length-decimal-le_wide 39 n (omega arith) (omega (arith, small)) (omega (arith, small)))

-- ---- places

four_parts : (a b c d : List ℕ) → length (a ++ b ++ c ++ d) ≡ length a + length b + length c + length d
four_parts a b c d = omega (arith, length-append (a ++ b ++ c) d, length-append (a ++ b) c, length-append a b)

side_is_short : (side : Side) → length (side_word side) ≤ 3
side_is_short Ingress = omega arith
side_is_short Egress = omega arith

charge_is_short : (p : PlaceLine) → IsSmallPlace p → length (charge_words p) ≤ 100
charge_is_short p small =
    let front = spaced p.id ++ codes " " ++ side_word p.port.side ++ spaced p.port.number in
    omega (
      arith,
      length-append (front ++ spaced p.y) (spaced p.done),
      length-append front (spaced p.y),
      four_parts (spaced p.id) (codes " ") (side_word p.port.side) (spaced p.port.number),
      small_is_short p.id small.id,
      side_is_short p.port.side,
      small_is_short p.port.number small.port,
      wide_is_short p.y (omega (arith, small.y)),
      time_is_short p.done small.done,
    )

word_is_short : (weight : Option ℕ) → ForEach (λ w. w ≤ 2 ^ 32) weight → length (weight_word weight) ≤ 11
word_is_short (Some w) small = weight_is_short w small
word_is_short None small = omega arith

weight_in_range : (weights : Option (List ℕ)) (k n : ℕ) → ForEach (λ (ws : List ℕ). length ws ≡ n) weights → ForEach (All (λ w. (1 ≤ w) × (w ≤ 2 ^ 32))) weights → k < n →
    ForEach (λ w. w ≤ 2 ^ 32) (weight_at weights k)
weight_in_range (Some ws) k n each range lt = (range k 0 (omega (arith, each, lt))).1
weight_in_range None k n each range lt = tt

place_is_short : (k : ℕ) (p : PlaceLine) (weight : Option ℕ) → k ≤ 2 ^ 128 → IsSmallPlace p → ForEach (λ w. w ≤ 2 ^ 32) weight → length (ended (place_line k p weight)) ≤ 200
place_is_short k p weight few small range =
    omega (
      arith,
      length-append (place_line k p weight) (codes "\n"),
      four_parts (codes "place") (spaced k) (charge_words p) (weight_word weight),
      wide_is_short k few,
      charge_is_short p small,
      word_is_short weight range,
    )

-- how many bytes lines have, each with its line feed
abbrev bytes_in : List (List ℕ) → ℕ
bytes_in lines = sum_by (λ (line : List ℕ). length (ended line)) lines

place_at_is_short : (r : Report) (k : ℕ) → IsReport r → HasSmallNumbers r → k < length r.places → length (ended (place_line_at r k)) ≤ 200
place_at_is_short r k fits small lt =
    place_is_short (k + 1) (place_at r.places k) (weight_at r.weights k) (omega (arith, small.count, lt)) (small.places k _ lt)
    (weight_in_range r.weights k (length r.places) fits.weight_each fits.weight_range lt)

places_are_short : (r : Report) → IsReport r → HasSmallNumbers r → bytes_in (place_lines r) ≤ 200 * length r.places
places_are_short r fits small =
    let numbers = range_with_len 0 (length r.places) in
    let each = all_of_members (λ k. length (ended (place_line_at r k)) ≤ 200) numbers
    (λ k has. place_at_is_short r k fits small (omega (arith, number_below 0 (length r.places) k has))) in
    omega (
      arith,
      length-map-range_with_len (place_line_at r) 0 (length r.places),
      sum_by-le (λ (line : List ℕ). length (ended line)) 200 (place_lines r) (All-map (λ (line : List ℕ). length (ended line) ≤ 200) (place_line_at r) numbers each),
    )

-- ---- runs

flows_are_short : (flows : List ℕ) → All (λ f. f < 2 ^ 32) flows → length (flat_map spaced flows) ≤ 11 * length flows
flows_are_short flows small = omega (arith, length-flat_map spaced flows, sum_by-le (λ f. length (spaced f)) 11 flows (λ k d lt. small_is_short _ (small k d lt)))

run_is_short : (run : Run) → run.length < 2 ^ 64 → All (λ f. f < 2 ^ 32) run.flows → length (ended (run_line run)) ≤ 30 + 11 * length run.flows
run_is_short run few small =
    omega (
      arith,
      length-append (run_line run) (codes "\n"),
      length-append (codes "run" ++ spaced run.length) (flat_map spaced run.flows),
      length-append (codes "run") (spaced run.length),
      time_is_short run.length few,
      flows_are_short run.flows small,
    )

runs_are_short : (runs : List Run) → All (λ (run : Run). run.length < 2 ^ 64) runs → All (λ (run : Run). All (λ f. f < 2 ^ 32) run.flows) runs →
    bytes_in (map run_line runs) ≤ 30 * length runs + 11 * sum_by (λ (run : Run). length run.flows) runs
runs_are_short [] few small = omega arith
runs_are_short (r ∷ rs) few small =
    omega (
      arith,
      sum_by-cons (λ (line : List ℕ). length (ended line)) (run_line r) (map run_line rs),
      sum_by-cons (λ (run : Run). length run.flows) r rs,
      run_is_short r (few 0 r (omega arith)) (small 0 r (omega arith)),
      runs_are_short rs (λ k d lt. few (suc k) d (omega (arith, lt))) (λ k d lt. small (suc k) d (omega (arith, lt))),
    )

-- ---- the other lines

version_is_short : (weights : Option (List ℕ)) → length (ended (version_line weights)) ≤ 12
version_is_short (Some ws) = omega arith
version_is_short None = omega arith

totals_are_short : (r : Report) → HasSmallNumbers r → bytes_in (total_lines r) ≤ 140
totals_are_short r small =
    omega (
      arith,
      length-append (codes "bound" ++ spaced r.bound) (codes "\n"),
      length-append (codes "slack" ++ spaced r.slack) (codes "\n"),
      length-append (codes "cost" ++ spaced r.cost) (codes "\n"),
      wide_is_short r.bound (omega (arith, small.bound)),
      wide_is_short r.slack (omega (arith, small.slack)),
      wide_is_short r.cost (omega (arith, small.cost)),
    )

-- a text has at most 200 bytes for each place, 30 for each run and 11 for each flow of a run, and 200 more
pub text_is_short : (r : Report) → IsReport r → HasSmallNumbers r →
    length (report_text r) ≤ 200 + 200 * length r.places + 30 * length r.runs + 11 * sum_by (λ (run : Run). length run.flows) r.runs
text_is_short r fits small =
    let bytes = λ (line : List ℕ). length (ended line) in
    let first = version_line r.weights ∷ [] in
    let runs = map run_line r.runs in
    let last = codes "end" ∷ [] in
    let few : All (λ (run : Run). run.length < 2 ^ 64) r.runs = λ k d lt. omega (arith, get_or-le-sum_by (λ (run : Run). run.length) r.runs k d lt, fits.few_slots) in
    omega (
      arith,
      length-flat_map ended (first ++ place_lines r ++ total_lines r ++ runs ++ last),
      sum_by-append bytes (first ++ place_lines r ++ total_lines r ++ runs) last,
      sum_by-append bytes (first ++ place_lines r ++ total_lines r) runs,
      sum_by-append bytes (first ++ place_lines r) (total_lines r),
      sum_by-append bytes first (place_lines r),
      version_is_short r.weights,
      places_are_short r fits small,
      totals_are_short r small,
      runs_are_short r.runs few small.flows,
    )
