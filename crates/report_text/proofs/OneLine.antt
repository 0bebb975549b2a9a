-- No line of a report has a line feed inside.
use Rattle.std.proofs.Common.{◌≡◌, ℕ, zero, suc, ◌+◌, ◌<◌, ◌≤◌, ◌^◌, List, [], ◌∷◌, ◌++◌, true, Option, Some, None, length, map, sym, ap, subst, ◌∙◌, arith, zero-add}
use Rattle.std.specs.Prelude.{All, codes, decimal}
use Rattle.std.specs.Char.{is_ascii_digit}
use Rattle.std.specs.List.{flat_map, range_with_len}
use Rattle.std.specs.Str.{all_ascii_digits}
use Rattle.std.proofs.lemmas.List.FromFn.{map-range_with_len_more}
use Rattle.coflow_units.specs.declared.fabric.Side.{Side}
use Rattle.coflow_units.specs.declared.fabric.Side.TheVariants.{Ingress, Egress}
use Rattle.coflow_units.specs.declared.plan.Run.{Run}
use Rattle.report_text.specs.declared.value.PlaceLine.{PlaceLine}
use Rattle.report_text.specs.declared.value.Report.{Report}
use Rattle.report_text.specs.Report.{ForEach, HasSmallNumbers, IsReport, IsSmallPlace}
use Rattle.report_text.specs.Text.{charge_words, place_at, place_line_at, place_lines, report_lines, run_line, side_word, total_lines, version_line, weight_at, weight_word}
use Rattle.coflow_units.specs.Text.{spaced}
use Rattle.report_text.specs.Readers.{IsOneLine, IsRun}
use Rattle.report_text.proofs.LineText.{front_is_line}
use Rattle.report_text.proofs.NumberText.{digits_of_decimal}
use Rattle.report_text.proofs.DraftText.{all_runs}
use Rattle.report_text.proofs.ReadingText.{AreLines, more_lines}

pub both : (a b : List ℕ) → IsOneLine a → IsOneLine b → IsOneLine (a ++ b)
both [] b ha hb = hb
both (x ∷ xs) b ha hb = (ha.0, both xs b ha.1 hb)

digits_one : (ds : List ℕ) → all_ascii_digits ds ≡ true → IsOneLine ds
digits_one [] h = tt
digits_one (c ∷ cs) h =
    let one : is_ascii_digit c ≡ true = grind arith in
    let more : all_ascii_digits cs ≡ true = grind arith in
    (λ e. let bad : is_ascii_digit 10 ≡ true = ap is_ascii_digit (sym e) ∙ one in absurd cc, digits_one cs more)

spaced_one : (n : ℕ) → n < 2 ^ 128 → IsOneLine (spaced n)
spaced_one n small = (λ e. absurd (omega (arith, e)), digits_one (decimal n) (digits_of_decimal n small))

version_one : (weights : Option (List ℕ)) → IsOneLine (version_line weights)
version_one (Some ws) = front_is_line (codes "sincronia 2")
version_one None = front_is_line (codes "sincronia 1")

side_one : (side : Side) → IsOneLine (codes " " ++ side_word side)
side_one Ingress = front_is_line (codes " in")
side_one Egress = front_is_line (codes " out")

charge_one : (p : PlaceLine) → IsSmallPlace p → IsOneLine (charge_words p)
charge_one p h =
    let a = both (spaced p.id) (codes " ") (spaced_one p.id (omega (arith, h.id))) (front_is_line (codes " ")) in
    let b : IsOneLine (spaced p.id ++ codes " " ++ side_word p.port.side) = both (spaced p.id ++ codes " ") (side_word p.port.side) a (side_one p.port.side).1 in
    let d = both (spaced p.id ++ codes " " ++ side_word p.port.side) (spaced p.port.number) b (spaced_one p.port.number (omega (arith, h.port))) in
    let e = both (spaced p.id ++ codes " " ++ side_word p.port.side ++ spaced p.port.number) (spaced p.y) d (spaced_one p.y h.y) in
    both (spaced p.id ++ codes " " ++ side_word p.port.side ++ spaced p.port.number ++ spaced p.y) (spaced p.done) e (spaced_one p.done (omega (arith, h.done)))

weight_one : (weights : Option (List ℕ)) (n k : ℕ) → ForEach (λ (x : List ℕ). length x ≡ n) weights → ForEach (All (λ w. (1 ≤ w) × (w ≤ 2 ^ 32))) weights → k < n →
    IsOneLine (weight_word (weight_at weights k))
weight_one (Some ws) n k each range lt = spaced_one _ (omega (arith, (range k 0 (omega (arith, each))).1))
weight_one None n k each range lt = tt

place_one : (r : Report) (k : ℕ) → IsReport r → HasSmallNumbers r → k < length r.places → IsOneLine (place_line_at r k)
place_one r k h small lt =
    let p : PlaceLine = place_at r.places k in
    let a = both (codes "place") (spaced (k + 1)) (front_is_line (codes "place")) (spaced_one (k + 1) (omega (arith, small.count))) in
    let b = both (codes "place" ++ spaced (k + 1)) (charge_words p) a (charge_one p (small.places k _ lt)) in
    both (codes "place" ++ spaced (k + 1) ++ charge_words p) (weight_word (weight_at r.weights k)) b (weight_one r.weights (length r.places) k h.weight_each h.weight_range lt)

flows_one : (flows : List ℕ) → All (λ f. f < 2 ^ 32) flows → IsOneLine (flat_map spaced flows)
flows_one [] h = tt
flows_one (f ∷ fs) h = both (spaced f) (flat_map spaced fs) (spaced_one f (omega (arith, h 0 f (omega arith)))) (flows_one fs (λ k d lt. h (suc k) d (omega arith)))

run_one : (run : Run) → IsRun run → IsOneLine (run_line run)
run_one run h = both (codes "run" ++ spaced run.length) (flat_map spaced run.flows)
    (both (codes "run") (spaced run.length) (front_is_line (codes "run")) (spaced_one run.length (omega (arith, h.1)))) (flows_one run.flows h.2.1)

-- a word and a number behind a space
pub total_one : (word : List ℕ) (n : ℕ) → IsOneLine word → n < 2 ^ 128 → IsOneLine (word ++ spaced n)
total_one word n h small = both word (spaced n) h (spaced_one n small)

pub both_lines : (xs ys : List (List ℕ)) → AreLines xs → AreLines ys → AreLines (xs ++ ys)
both_lines [] ys hx hy = hy
both_lines (x ∷ xs) ys hx hy = (hx.0, both_lines xs ys hx.1 hy)

pub range_lines : (f : ℕ → List ℕ) (n : ℕ) → ((k : ℕ) → k < n → IsOneLine (f k)) → AreLines (map f (range_with_len 0 n))
range_lines f zero h = tt
range_lines f (suc n) h =
    let before : AreLines (map f (range_with_len 0 n)) = range_lines f n (λ k lt. h k (omega arith)) in
    let e : n + 1 ≡ suc n = omega arith in
    subst (λ m. AreLines (map f (range_with_len 0 m))) e
    (rw (map-range_with_len_more f 0 n n (zero-add n)) (more_lines (map f (range_with_len 0 n)) (f n) before (h n (omega arith))))

pub runs_lines : (runs : List Run) → All IsRun runs → AreLines (map run_line runs)
runs_lines [] h = tt
runs_lines (x ∷ xs) h = (run_one x (h 0 x (omega arith)), runs_lines xs (λ k d lt. h (suc k) d (omega arith)))

-- each line of a report is one line
pub report_is_lines : (r : Report) → IsReport r → HasSmallNumbers r → AreLines (report_lines r)
report_is_lines r h small =
    let places : AreLines (place_lines r) = range_lines (place_line_at r) (length r.places) (λ k lt. place_one r k h small lt) in
    let totals : AreLines (total_lines r) = (
      total_one (codes "bound") r.bound (front_is_line (codes "bound")) small.bound,
      (total_one (codes "slack") r.slack (front_is_line (codes "slack")) small.slack, (total_one (codes "cost") r.cost (front_is_line (codes "cost")) small.cost, tt)),
    ) in
    let a : AreLines (place_lines r ++ total_lines r) = both_lines (place_lines r) (total_lines r) places totals in
    let b : AreLines (place_lines r ++ total_lines r ++ map run_line r.runs) =
    both_lines (place_lines r ++ total_lines r) (map run_line r.runs) a (runs_lines r.runs (all_runs r h small)) in
    (version_one r.weights, both_lines (place_lines r ++ total_lines r ++ map run_line r.runs) (codes "end" ∷ []) b (front_is_line (codes "end"), tt))
