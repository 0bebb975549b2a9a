-- A text is that of one report at most.
use Rattle.std.proofs.Common.{◌≡◌, ℕ, suc, ◌+◌, ◌<◌, ◌≤◌, ◌^◌, List, [], ◌∷◌, ◌++◌, Option, Some, None, append-nil, length, length-append, map, drop, get_or, refl, sym, ap, subst}
use Rattle.std.proofs.Common.{◌∙◌, arith, zero-add}
use Rattle.std.specs.Prelude.{All, codes}
use Rattle.std.proofs.lemmas.List.{append_cancel_left, ext_get_or}
use Rattle.std.proofs.lemmas.List.FromFn.{get_or-map-range_with_len, length-map-range_with_len}
use Rattle.coflow_units.specs.declared.plan.Run.{Run}
use Rattle.coflow_units.proofs.Fronts.{head_of}
use Rattle.report_text.specs.declared.value.PlaceLine.{PlaceLine}
use Rattle.report_text.specs.declared.value.Report.{Report}
use Rattle.report_text.specs.Report.{ForEach, HasSmallNumbers, IsReport, IsSmallPlace}
use Rattle.report_text.specs.Text.{bound_line, charge_words, cost_line, place_at, place_line, place_line_at, place_lines, report_lines, report_text, run_line, slack_line}
use Rattle.coflow_units.specs.Text.{ended, spaced}
use Rattle.coflow_units.specs.Text.{text_of}
use Rattle.report_text.specs.Text.{version_line, weight_at, weight_word}
use Rattle.report_text.specs.Readers.{IsRun}
use Rattle.report_text.proofs.NumberText.{decimal_one}
use Rattle.report_text.proofs.PartText.{charge_unique, place_parts, weight_stops}
use Rattle.report_text.proofs.LineLists.{both_ended, last_lines, lines_behind, lines_nested, places_first, tail_is}
use Rattle.report_text.proofs.DraftText.{all_runs, run_unique, runs_first}
use Rattle.report_text.proofs.OneLine.{report_is_lines}
use Rattle.report_text.proofs.ReadingText.{AreLines, text_goes_on}

place_unique : (k : ℕ) (p q : PlaceLine) (w v : Option ℕ) → IsSmallPlace p → IsSmallPlace q → place_line k p w ≡ place_line k q v → (p ≡ q) × (weight_word w ≡ weight_word v)
place_unique k p q w v sp sq e =
    let behind : spaced k ++ (charge_words p ++ weight_word w) ≡ spaced k ++ (charge_words q ++ weight_word v) = ap (drop 5) (sym (place_parts k p w) ∙ (e ∙ place_parts k q v)) in
    charge_unique p q (weight_word w) (weight_word v) sp sq (weight_stops w) (weight_stops v)
    (append_cancel_left (spaced k) (charge_words p ++ weight_word w) (charge_words q ++ weight_word v) behind)

pub runs_one : (xs ys : List Run) → All IsRun xs → All IsRun ys → map run_line xs ≡ map run_line ys → xs ≡ ys
runs_one [] [] hx hy e = refl
runs_one [] (y ∷ ys) hx hy e = absurd cc
runs_one (x ∷ xs) [] hx hy e = absurd cc
runs_one (x ∷ xs) (y ∷ ys) hx hy e =
    let same : x ≡ y = run_unique x y (hx 0 x (omega arith)) (hy 0 y (omega arith)) (head_of (run_line x) (run_line y) (map run_line xs) (map run_line ys) e) in
    let more : xs ≡ ys = runs_one xs ys (λ k d lt. hx (suc k) d (omega arith)) (λ k d lt. hy (suc k) d (omega arith))
    (tail_is (run_line x) (run_line y) (map run_line xs) (map run_line ys) e) in
    λ i. same i ∷ more i

weights_one : (n : ℕ) (a b : Option (List ℕ)) → ForEach (λ (x : List ℕ). length x ≡ n) a → ForEach (λ (x : List ℕ). length x ≡ n) b →
    ForEach (All (λ w. (1 ≤ w) × (w ≤ 2 ^ 32))) a → ForEach (All (λ w. (1 ≤ w) × (w ≤ 2 ^ 32))) b → version_line a ≡ version_line b →
    ((k : ℕ) → k < n → weight_word (weight_at a k) ≡ weight_word (weight_at b k)) → a ≡ b
weights_one n (Some xs) (Some ys) na nb ra rb v e =
    ap (λ x. Some x) (ext_get_or 0 xs ys (na ∙ sym nb)
    (λ k lt. decimal_one (get_or xs k 0) (get_or ys k 0) (omega (arith, (ra k 0 lt).1)) (omega (arith, (rb k 0 (omega (arith, na, nb))).1))
    (ap (drop 1) (e k (omega (arith, na))))))
weights_one n None None na nb ra rb v e = refl
weights_one n (Some xs) None na nb ra rb v e = absurd (let bad : 50 ≡ 49 = ap (λ l. get_or l 10 0) v in omega (arith, bad))
weights_one n None (Some ys) na nb ra rb v e = absurd (let bad : 49 ≡ 50 = ap (λ l. get_or l 10 0) v in omega (arith, bad))

-- a text is that of one list of lines at most
pub lines_one : (xs ys : List (List ℕ)) → AreLines xs → AreLines ys → text_of xs ≡ text_of ys → xs ≡ ys
lines_one xs ys hx hy e =
    let more = text_goes_on xs ys [] hx hy (append-nil (text_of xs) ∙ e) in
    go more.0 more.1 more.2
  where
    go : (ms : List (List ℕ)) → ys ≡ xs ++ ms → [] ≡ text_of ms → xs ≡ ys
    go [] whole none = sym (whole ∙ append-nil xs)
    go (m ∷ ms) whole none = absurd (omega (arith, ap length none, length-append (ended m) (text_of ms), length-append m (10 ∷ [])))

pub reports_are_one : (a b : Report) → IsReport a → HasSmallNumbers a → IsReport b → HasSmallNumbers b → report_text a ≡ report_text b → a ≡ b
reports_are_one a b ha sa hb sb e = λ i. record { places = places i; weights = weights i; bound = bound i; slack = slack i; cost = cost i; runs = runs i }
  where
    whole : version_line a.weights ∷ (place_lines a ++ lines_behind a (last_lines a)) ≡ version_line b.weights ∷ (place_lines b ++ lines_behind b (last_lines b))
    whole = sym (lines_nested a) ∙ (lines_one (report_lines a) (report_lines b) (report_is_lines a ha sa) (report_is_lines b hb sb) e ∙ lines_nested b)

    versions : version_line a.weights ≡ version_line b.weights
    versions = head_of (version_line a.weights) (version_line b.weights) (place_lines a ++ lines_behind a (last_lines a)) (place_lines b ++ lines_behind b (last_lines b)) whole

    parts : (place_lines a ≡ place_lines b) × (bound_line a.bound ≡ bound_line b.bound) ×
        (slack_line a.slack ∷ cost_line a.cost ∷ last_lines a ≡ slack_line b.slack ∷ cost_line b.cost ∷ last_lines b)
    parts = both_ended 112 (place_lines a) (place_lines b) (bound_line a.bound) (bound_line b.bound) (slack_line a.slack ∷ cost_line a.cost ∷ last_lines a)
        (slack_line b.slack ∷ cost_line b.cost ∷ last_lines b) (places_first a) (places_first b) (λ bad. absurd (omega (arith, bad))) (λ bad. absurd (omega (arith, bad)))
        (tail_is (version_line a.weights) (version_line b.weights) (place_lines a ++ lines_behind a (last_lines a)) (place_lines b ++ lines_behind b (last_lines b)) whole)

    behind : cost_line a.cost ∷ last_lines a ≡ cost_line b.cost ∷ last_lines b
    behind = tail_is (slack_line a.slack) (slack_line b.slack) (cost_line a.cost ∷ last_lines a) (cost_line b.cost ∷ last_lines b) parts.2

    bound : a.bound ≡ b.bound
    bound = decimal_one a.bound b.bound sa.bound sb.bound (ap (drop 6) parts.1)

    slack : a.slack ≡ b.slack
    slack = decimal_one a.slack b.slack sa.slack sb.slack
        (ap (drop 6) (head_of (slack_line a.slack) (slack_line b.slack) (cost_line a.cost ∷ last_lines a) (cost_line b.cost ∷ last_lines b) parts.2))

    cost : a.cost ≡ b.cost
    cost = decimal_one a.cost b.cost sa.cost sb.cost (ap (drop 5) (head_of (cost_line a.cost) (cost_line b.cost) (last_lines a) (last_lines b) behind))

    runs : a.runs ≡ b.runs
    runs = runs_one a.runs b.runs (all_runs a ha sa) (all_runs b hb sb)
        (both_ended 114 (map run_line a.runs) (map run_line b.runs) (codes "end") (codes "end") [] [] (runs_first a.runs) (runs_first b.runs) (λ bad. absurd (omega (arith, bad)))
        (λ bad. absurd (omega (arith, bad))) (tail_is (cost_line a.cost) (cost_line b.cost) (last_lines a) (last_lines b) behind)).0

    count : length a.places ≡ length b.places
    count = sym (length-map-range_with_len (place_line_at a) 0 (length a.places)) ∙ (ap length parts.0 ∙ length-map-range_with_len (place_line_at b) 0 (length b.places))

    line : (k : ℕ) → k < length a.places → place_line_at a k ≡ place_line_at b k
    line k lt = sym (get_or-map-range_with_len (place_line_at a) 0 (length a.places) k k [] lt (zero-add k)) ∙
        (ap (λ ls. get_or ls k []) parts.0 ∙ get_or-map-range_with_len (place_line_at b) 0 (length b.places) k k [] (omega (arith, count)) (zero-add k))

    each : (k : ℕ) → k < length a.places → (place_at a.places k ≡ place_at b.places k) × (weight_word (weight_at a.weights k) ≡ weight_word (weight_at b.weights k))
    each k lt = place_unique (k + 1) (place_at a.places k) (place_at b.places k) (weight_at a.weights k) (weight_at b.weights k) (sa.places k _ lt)
        (sb.places k _ (omega (arith, count))) (line k lt)

    places : a.places ≡ b.places
    places = ext_get_or _ a.places b.places count (λ k lt. (each k lt).0)

    weights : a.weights ≡ b.weights
    weights = weights_one (length a.places) a.weights b.weights ha.weight_each (subst (λ n. ForEach (λ (x : List ℕ). length x ≡ n) b.weights) (sym count) hb.weight_each)
        ha.weight_range hb.weight_range versions (λ k lt. (each k lt).1)
