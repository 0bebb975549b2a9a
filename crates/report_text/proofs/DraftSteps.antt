-- A draft that takes the line of a place or of a run.
use Rattle.std.proofs.Common.{◌≡◌, ◌≢◌, ℕ, ◌+◌, ◌-◌, ◌<◌, ◌≤◌, ◌^◌, List, [], ◌∷◌, ◌++◌, Bool, true, false, Option, Some, None, append_assoc, length, length-append, map, get_or}
use Rattle.std.proofs.Common.{refl, sym, ap, ◌∙◌, ltb, arith, zero-add}
use Rattle.std.specs.Prelude.{All, sum_by}
use Rattle.std.specs.List.{range_with_len}
use Rattle.std.specs.List.Sorted.{IsStrictlyIncreasing}
use Rattle.std.proofs.lemmas.Bool.Decides.{nat_tests}
use Rattle.std.proofs.lemmas.List.{get_or_append_left, get_or_push, map-append}
use Rattle.std.proofs.lemmas.List.Elements.{All-push}
use Rattle.std.proofs.lemmas.List.FromFn.{map-range_with_len_more}
use Rattle.std.proofs.lemmas.List.Sums.{sum_by-append, sum_by-cons}
use Rattle.std.specs.declared.vec.Vec.{Vec}
use Rattle.std.specs.declared.alloc.Global.{Global}
use Rattle.coflow_units.specs.declared.plan.Run.{Run}
use Rattle.run_list.specs.Runs.{IsLast}
use Rattle.report_text.specs.declared.draft.Draft.{Draft}
use Rattle.report_text.specs.declared.draft.Stage.TheVariants.{Cost, Places, Runs, Slack}
use Rattle.report_text.specs.declared.value.PlaceLine.{PlaceLine}
use Rattle.report_text.specs.declared.value.Report.{Report}
use Rattle.report_text.specs.Report.{ForEach, IsSmallPlace}
use Rattle.report_text.specs.Text.{bound_line, slack_line, place_at, place_line, place_line_at, place_lines, run_line, total_lines, version_line, weight_at}
use Rattle.report_text.specs.Readers.{IsRun, IsWeight, weights_if, weights_list}
use Rattle.report_text.specs.Draft.{HasNothingLater, IsDraft, draft_lines, report_of}
use Rattle.report_text.proofs.DraftText.{slots_in}
use Rattle.report_text.proofs.LineLists.{same_lines}

-- one more weight for one more place
weights_each : (weighed : Bool) (ws : List ℕ) (w : Option ℕ) (n : ℕ) → IsWeight weighed w → ForEach (λ (x : List ℕ). length x ≡ n) (weights_if weighed ws) →
    ForEach (λ (x : List ℕ). length x ≡ n + 1) (weights_if weighed (ws ++ weights_list w))
weights_each true ws (Some w) n h each = omega (arith, length-append ws (w ∷ []), each)
weights_each true ws None n h each = absurd h
weights_each false ws w n h each = tt

weights_range : (weighed : Bool) (ws : List ℕ) (w : Option ℕ) → IsWeight weighed w → ForEach (All (λ x. (1 ≤ x) × (x ≤ 2 ^ 32))) (weights_if weighed ws) →
    ForEach (All (λ x. (1 ≤ x) × (x ≤ 2 ^ 32))) (weights_if weighed (ws ++ weights_list w))
weights_range true ws (Some w) h range = All-push (λ x. (1 ≤ x) × (x ≤ 2 ^ 32)) ws w range h
weights_range true ws None h range = absurd h
weights_range false ws w h range = tt

-- the weight of the last place, and those of the places before it
weight_last : (weighed : Bool) (ws : List ℕ) (w : Option ℕ) (n : ℕ) → IsWeight weighed w → ForEach (λ (x : List ℕ). length x ≡ n) (weights_if weighed ws) →
    weight_at (weights_if weighed (ws ++ weights_list w)) n ≡ w
weight_last true ws (Some w) n h each = ap (λ x. Some x) (get_or_push ws w 0 n each)
weight_last true ws None n h each = absurd h
weight_last false ws (Some w) n h each = absurd h
weight_last false ws None n h each = refl

weight_before : (weighed : Bool) (ws : List ℕ) (w : Option ℕ) (n k : ℕ) → ForEach (λ (x : List ℕ). length x ≡ n) (weights_if weighed ws) → k < n →
    weight_at (weights_if weighed (ws ++ weights_list w)) k ≡ weight_at (weights_if weighed ws) k
weight_before true ws w n k each lt = ap (λ x. Some x) (get_or_append_left ws (weights_list w) 0 k (omega (arith, each)))
weight_before false ws w n k each lt = refl

version_same : (weighed : Bool) (xs ys : List ℕ) → version_line (weights_if weighed xs) ≡ version_line (weights_if weighed ys)
version_same true xs ys = refl
version_same false xs ys = refl

-- the draft with one more place
abbrev with_place : Draft → Vec PlaceLine Global → Vec ℕ Global → Draft
with_place d places weights = record {
  stage = d.stage;
  weighed = d.weighed;
  places = places;
  weights = weights;
  bound = d.bound;
  slack = d.slack;
  cost = d.cost;
  runs = d.runs;
  slots = d.slots;
}

pub place_taken : (d : Draft) (places : Vec PlaceLine Global) (weights : Vec ℕ Global) (p : PlaceLine) (w : Option ℕ) (line : List ℕ) → IsDraft d → d.stage ≡ Places →
    places.items ≡ d.places.items ++ (p ∷ []) → weights.items ≡ d.weights.items ++ weights_list w → IsSmallPlace p → IsWeight d.weighed w →
    line ≡ place_line (length d.places.items + 1) p w → length d.places.items < 2 ^ 64 →
    IsDraft (with_place d places weights) × (draft_lines (with_place d places weights) ≡ draft_lines d ++ (line ∷ []))
place_taken d places weights p w line h stage ps ws small fits is few = (draft, lines)
  where
    k : ℕ
    k = length d.places.items

    new : Report
    new = report_of (with_place d places weights)

    count : length places.items ≡ k + 1
    count = ap length ps ∙ length-append d.places.items (p ∷ [])

    each : ForEach (λ (x : List ℕ). length x ≡ length places.items) (weights_if d.weighed weights.items)
    each = rw (count, ws) (weights_each d.weighed d.weights.items w k fits h.report.weight_each)

    range : ForEach (All (λ x. (1 ≤ x) × (x ≤ 2 ^ 32))) (weights_if d.weighed weights.items)
    range = rw ws (weights_range d.weighed d.weights.items w fits h.report.weight_range)

    later : HasNothingLater d.stage (with_place d places weights)
    later = rw stage (rw stage at h.later)

    draft : IsDraft (with_place d places weights)
    draft = record {
      report = record {
        weight_each = each;
        weight_range = range;
        lengths = h.report.lengths;
        few_slots = h.report.few_slots;
        ascending = h.report.ascending;
        maximal = h.report.maximal;
      };
      small = record {
        count = omega (arith, count, few);
        places = rw ps (All-push IsSmallPlace d.places.items p h.small.places small);
        bound = h.small.bound;
        slack = h.small.slack;
        cost = h.small.cost;
        flows = h.small.flows;
      };
      slots = h.slots;
      later = later;
    }

    before : (j : ℕ) → j < k → place_line_at new j ≡ place_line_at (report_of d) j
    before j lt = λ i. place_line (j + 1) ((ap (λ xs. place_at xs j) ps ∙ get_or_append_left d.places.items (p ∷ []) _ j lt) i)
        ((ap (λ xs. weight_at (weights_if d.weighed xs) j) ws ∙ weight_before d.weighed d.weights.items w k j h.report.weight_each lt) i)

    last : place_line_at new k ≡ line
    last = (λ i. place_line (k + 1) ((ap (λ xs. place_at xs k) ps ∙ get_or_push d.places.items p _ k refl) i)
        ((ap (λ xs. weight_at (weights_if d.weighed xs) k) ws ∙ weight_last d.weighed d.weights.items w k fits h.report.weight_each) i)) ∙ sym is

    own : place_lines new ≡ place_lines (report_of d) ++ (line ∷ [])
    own = ap (λ n. map (place_line_at new) (range_with_len 0 n)) count ∙
        (map-range_with_len_more (place_line_at new) 0 k k (zero-add k) ∙ (λ i. same_lines (place_line_at new) (place_line_at (report_of d)) k before i ++ (last i ∷ [])))

    lines : draft_lines (with_place d places weights) ≡ draft_lines d ++ (line ∷ [])
    lines = rw stage (λ i. version_same d.weighed weights.items d.weights.items i ∷ own i)

-- the draft with one more run
abbrev with_run : Draft → List Run → ℕ → Draft
with_run d runs slots = record {
  stage = d.stage;
  weighed = d.weighed;
  places = d.places;
  weights = d.weights;
  bound = d.bound;
  slack = d.slack;
  cost = d.cost;
  runs = runs;
  slots = slots;
}

maximal_push : (runs : List Run) (run : Run) → ((k : ℕ) (d : Run) → k + 1 < length runs → (get_or runs k d).flows ≢ (get_or runs (k + 1) d).flows) → IsLast runs run.flows false →
    (k : ℕ) (d : Run) → k + 1 < length (runs ++ (run ∷ [])) → (get_or (runs ++ (run ∷ [])) k d).flows ≢ (get_or (runs ++ (run ∷ [])) (k + 1) d).flows
maximal_push runs run h other k d lt = go (ltb (k + 1) (length runs)) refl
  where
    flows_at : List Run → ℕ → List ℕ
    flows_at xs i = (get_or xs i d).flows

    go : (b : Bool) → ltb (k + 1) (length runs) ≡ b → flows_at (runs ++ (run ∷ [])) k ≢ flows_at (runs ++ (run ∷ [])) (k + 1)
    go true e same =
        let before : k + 1 < length runs = grind (arith, nat_tests) in
        h k d before (sym (ap (λ (x : Run). x.flows) (get_or_append_left runs (run ∷ []) d k (omega arith))) ∙
        (same ∙ ap (λ (x : Run). x.flows) (get_or_append_left runs (run ∷ []) d (k + 1) before)))
    go false e same =
        let here : length runs ≡ k + 1 = grind (arith, nat_tests, length-append runs (run ∷ [])) in
        let last : (get_or runs k d).flows ≡ flows_at (runs ++ (run ∷ [])) k =
        sym (ap (λ (x : Run). x.flows) (get_or_append_left runs (run ∷ []) d k (omega arith))) in
        other k d (sym here) (last ∙ (same ∙ ap (λ (x : Run). x.flows) (get_or_push runs run d (k + 1) here)))

pub run_taken : (d : Draft) (runs : List Run) (run : Run) (line : List ℕ) → IsDraft d → d.stage ≡ Runs → runs ≡ d.runs ++ (run ∷ []) → IsRun run →
    line ≡ run_line run → d.slots + run.length ≤ 2 ^ 41 - 1 → IsLast d.runs run.flows false →
    IsDraft (with_run d runs (d.slots + run.length)) × (draft_lines (with_run d runs (d.slots + run.length)) ≡ draft_lines d ++ (line ∷ []))
run_taken d runs run line h stage rs is_run is few other = (draft, lines)
  where
    total : sum_by slots_in runs ≡ d.slots + run.length
    total = omega (arith, ap (sum_by slots_in) rs, sum_by-append slots_in d.runs (run ∷ []), sum_by-cons slots_in run [], h.slots)

    later : HasNothingLater d.stage (with_run d runs (d.slots + run.length))
    later = rw stage tt

    draft : IsDraft (with_run d runs (d.slots + run.length))
    draft = record {
      report = record {
        weight_each = h.report.weight_each;
        weight_range = h.report.weight_range;
        lengths = rw rs (All-push (λ (x : Run). 1 ≤ x.length) d.runs run h.report.lengths is_run.0);
        few_slots = omega (arith, total, few);
        ascending = rw rs (All-push (λ (x : Run). IsStrictlyIncreasing x.flows) d.runs run h.report.ascending is_run.2.0);
        maximal = rw rs (maximal_push d.runs run h.report.maximal other);
      };
      small = record {
        count = h.small.count;
        places = h.small.places;
        bound = h.small.bound;
        slack = h.small.slack;
        cost = h.small.cost;
        flows = rw rs (All-push (λ (x : Run). All (λ f. f < 2 ^ 32) x.flows) d.runs run h.small.flows is_run.2.1);
      };
      slots = sym total;
      later = later;
    }

    grown : map run_line runs ≡ map run_line d.runs ++ (line ∷ [])
    grown = ap (map run_line) rs ∙ (map-append run_line d.runs (run ∷ []) ∙ ap (λ x. map run_line d.runs ++ (x ∷ [])) (sym is))

    lines : draft_lines (with_run d runs (d.slots + run.length)) ≡ draft_lines d ++ (line ∷ [])
    lines = rw stage (ap (λ x. version_line (weights_if d.weighed d.weights.items) ∷ x) (ap (λ x. (place_lines (report_of d) ++ total_lines (report_of d)) ++ x) grown ∙
        sym (append_assoc (place_lines (report_of d) ++ total_lines (report_of d)) (map run_line d.runs) (line ∷ []))))

-- the draft with the bound
abbrev with_bound : Draft → ℕ → Draft
with_bound d bound = record {
  stage = Slack;
  weighed = d.weighed;
  places = d.places;
  weights = d.weights;
  bound = bound;
  slack = d.slack;
  cost = d.cost;
  runs = d.runs;
  slots = d.slots;
}

pub bound_taken : (d : Draft) (bound : ℕ) (line : List ℕ) → IsDraft d → d.stage ≡ Places → bound < 2 ^ 128 → line ≡ bound_line bound →
    IsDraft (with_bound d bound) × (draft_lines (with_bound d bound) ≡ draft_lines d ++ (line ∷ []))
bound_taken d bound line h stage small is = (
  record {
    report = record {
      weight_each = h.report.weight_each;
      weight_range = h.report.weight_range;
      lengths = h.report.lengths;
      few_slots = h.report.few_slots;
      ascending = h.report.ascending;
      maximal = h.report.maximal;
    };
    small = record { count = h.small.count; places = h.small.places; bound = small; slack = h.small.slack; cost = h.small.cost; flows = h.small.flows };
    slots = h.slots;
    later = rw stage at h.later;
  },
  rw (stage, is) refl,
)

-- the draft with the slack
abbrev with_slack : Draft → ℕ → Draft
with_slack d slack = record {
  stage = Cost;
  weighed = d.weighed;
  places = d.places;
  weights = d.weights;
  bound = d.bound;
  slack = slack;
  cost = d.cost;
  runs = d.runs;
  slots = d.slots;
}

pub slack_taken : (d : Draft) (slack : ℕ) (line : List ℕ) → IsDraft d → d.stage ≡ Slack → slack < 2 ^ 128 → line ≡ slack_line slack →
    IsDraft (with_slack d slack) × (draft_lines (with_slack d slack) ≡ draft_lines d ++ (line ∷ []))
slack_taken d slack line h stage small is = (
  record {
    report = record {
      weight_each = h.report.weight_each;
      weight_range = h.report.weight_range;
      lengths = h.report.lengths;
      few_slots = h.report.few_slots;
      ascending = h.report.ascending;
      maximal = h.report.maximal;
    };
    small = record { count = h.small.count; places = h.small.places; bound = h.small.bound; slack = small; cost = h.small.cost; flows = h.small.flows };
    slots = h.slots;
    later = rw stage at h.later;
  },
  rw (stage, is) (
      ap (λ ls. version_line (weights_if d.weighed d.weights.items) ∷ ls)
      (sym (append_assoc (place_lines (report_of d)) (bound_line d.bound ∷ []) (slack_line slack ∷ [])))
      ),
)
