-- What line may follow the lines that were read.
use Rattle.std.proofs.Common.{◌≡◌, ◌⊎◌, inl, inr, ℕ, suc, ◌+◌, ◌-◌, ◌<◌, ◌≤◌, ◌^◌, List, [], ◌∷◌, ◌++◌, Bool, true, false, Option, Some, None, append_assoc, append-nil, length}
use Rattle.std.proofs.Common.{length-append, map, drop, get_or, refl, sym, ap, ◌∙◌, arith}
use Rattle.std.specs.Prelude.{All, codes, sum_by}
use Rattle.std.specs.List.{flat_map}
use Rattle.std.proofs.lemmas.List.{get_or_append_left}
use Rattle.std.proofs.Math.Seq.{get_or-append_seam}
use Rattle.std.proofs.lemmas.List.Sums.{get_or-le-sum_by, sum_by-append, sum_by-cons}
use Rattle.coflow_units.specs.declared.plan.Run.{Run}
use Rattle.coflow_units.proofs.Fronts.{head_of}
use Rattle.run_list.specs.Runs.{IsLast}
use Rattle.report_text.specs.declared.draft.Draft.{Draft}
use Rattle.report_text.specs.declared.draft.Stage.{Stage}
use Rattle.report_text.specs.declared.draft.Stage.TheVariants.{Places, Slack, Cost, Runs, Done}
use Rattle.report_text.specs.declared.value.Report.{Report}
use Rattle.report_text.specs.Report.{ForEach, HasSmallNumbers, IsReport}
use Rattle.report_text.specs.Text.{bound_line, cost_line, place_at, place_line_at, place_lines, report_lines, run_line, slack_line, total_lines, version_line, weight_at}
use Rattle.coflow_units.specs.Text.{spaced}
use Rattle.report_text.specs.Readers.{IsPlaceOf, IsRun, IsRunOf, IsTotalOf, IsWeight, weights_if}
use Rattle.report_text.specs.Draft.{IsDraft, Refuses, lines_before, report_of}
use Rattle.report_text.proofs.FlowText.{goes_on, stops_flows}
use Rattle.report_text.proofs.NumberText.{spaced_unique}
use Rattle.report_text.proofs.LineLists.{AllFirst, all_first, both_ended, first, last_lines, lines_behind, lines_nested, next_after, next_place, places_first, regroup, tail_is}

abbrev pub slots_in : Run → ℕ
slots_in run = run.length

-- the lines of a report that begins as the draft does
begins : (d : Draft) (s : Stage) (r : Report) (line : List ℕ) (more : List (List ℕ)) → d.stage ≡ s → report_lines r ≡ lines_before d.stage (report_of d) ++ (line ∷ more) →
    lines_before s (report_of d) ++ (line ∷ more) ≡ version_line r.weights ∷ (place_lines r ++ lines_behind r (last_lines r))
begins d s r line more stage e = sym (e ∙ ap (λ t. lines_before t (report_of d) ++ (line ∷ more)) stage) ∙ lines_nested r

-- a weight of a report of the draft's version
weight_fits : (weighed : Bool) (ws : List ℕ) (weights : Option (List ℕ)) (n k : ℕ) → version_line (weights_if weighed ws) ≡ version_line weights →
    ForEach (λ (x : List ℕ). length x ≡ n) weights → ForEach (All (λ w. (1 ≤ w) × (w ≤ 2 ^ 32))) weights → k < n → IsWeight weighed (weight_at weights k)
weight_fits true ws (Some xs) n k v each range lt = range k 0 (omega (arith, each))
weight_fits false ws None n k v each range lt = tt
weight_fits true ws None n k v each range lt = absurd (let bad : 50 ≡ 49 = ap (λ l. get_or l 10 0) v in omega (arith, bad))
weight_fits false ws (Some xs) n k v each range lt = absurd (let bad : 49 ≡ 50 = ap (λ l. get_or l 10 0) v in omega (arith, bad))

pub refuse_bound : (d : Draft) (line : List ℕ) → d.stage ≡ Places → IsPlaceOf (length d.places.items + 1) d.weighed line None → IsTotalOf (codes "bound") line None → Refuses d line
refuse_bound d line stage no_place no_bound r more report small e =
    go (next_after 112 (place_lines (report_of d)) (place_lines r) line (bound_line r.bound) more (slack_line r.slack ∷ cost_line r.cost ∷ last_lines r)
    (places_first (report_of d)) (places_first r) (λ bad. absurd (omega (arith, bad))) tails)
  where
    whole : version_line (report_of d).weights ∷ (place_lines (report_of d) ++ (line ∷ more)) ≡ version_line r.weights ∷ (place_lines r ++ lines_behind r (last_lines r))
    whole = begins d Places r line more stage e

    versions : version_line (report_of d).weights ≡ version_line r.weights
    versions = head_of _ _ (place_lines (report_of d) ++ (line ∷ more)) (place_lines r ++ lines_behind r (last_lines r)) whole

    tails : place_lines (report_of d) ++ (line ∷ more) ≡ place_lines r ++ lines_behind r (last_lines r)
    tails = tail_is (version_line (report_of d).weights) (version_line r.weights) _ _ whole

    go : ((zs : List (List ℕ)) × (place_lines r ≡ place_lines (report_of d) ++ (line ∷ zs))) ⊎
        ((place_lines (report_of d) ≡ place_lines r) × (line ≡ bound_line r.bound) × (more ≡ slack_line r.slack ∷ cost_line r.cost ∷ last_lines r)) → ⊥
    go (inl (zs, more_places)) =
        let k : ℕ = length d.places.items in
        let next = next_place (place_line_at r) (place_line_at (report_of d)) (length r.places) k line zs more_places in
        no_place (place_at r.places k) (weight_at r.weights k) (small.places k _ next.0)
        (weight_fits d.weighed d.weights.items r.weights (length r.places) k versions report.weight_each report.weight_range next.0) next.1
    go (inr (same, here, others)) = no_bound r.bound small.bound here

-- behind the places stand the same lines
after_places : (p r : Report) (b : List ℕ) (rest others : List (List ℕ)) → (first b ≡ 112 → ⊥) →
    version_line p.weights ∷ (place_lines p ++ (b ∷ rest)) ≡ version_line r.weights ∷ (place_lines r ++ lines_behind r others) →
    rest ≡ slack_line r.slack ∷ cost_line r.cost ∷ others
after_places p r b rest others other e =
    (both_ended 112 (place_lines p) (place_lines r) b (bound_line r.bound) rest (slack_line r.slack ∷ cost_line r.cost ∷ others) (places_first p) (places_first r) other
    (λ bad. absurd (omega (arith, bad)))
    (tail_is (version_line p.weights) (version_line r.weights) (place_lines p ++ (b ∷ rest)) (place_lines r ++ lines_behind r others) e)).2

pub refuse_slack : (d : Draft) (line : List ℕ) → d.stage ≡ Slack → IsTotalOf (codes "slack") line None → Refuses d line
refuse_slack d line stage no_slack r more report small e =
    let p : Report = report_of d in
    let regrouped : version_line p.weights ∷ (place_lines p ++ (bound_line p.bound ∷ line ∷ more)) ≡ version_line r.weights ∷ (place_lines r ++ lines_behind r (last_lines r)) =
    ap (λ x. version_line p.weights ∷ x) (sym (append_assoc (place_lines p) (bound_line p.bound ∷ []) (line ∷ more))) ∙ begins d Slack r line more stage e in
    let rest = after_places p r (bound_line p.bound) (line ∷ more) (last_lines r) (λ bad. absurd (omega (arith, bad))) regrouped in
    no_slack r.slack small.slack (head_of line (slack_line r.slack) more (cost_line r.cost ∷ last_lines r) rest)

pub refuse_cost : (d : Draft) (line : List ℕ) → d.stage ≡ Cost → IsTotalOf (codes "cost") line None → Refuses d line
refuse_cost d line stage no_cost r more report small e =
    let p : Report = report_of d in
    let regrouped : version_line p.weights ∷ (place_lines p ++ (bound_line p.bound ∷ slack_line p.slack ∷ line ∷ more)) ≡
    version_line r.weights ∷ (place_lines r ++ lines_behind r (last_lines r)) =
    ap (λ x. version_line p.weights ∷ x) (sym (append_assoc (place_lines p) (bound_line p.bound ∷ slack_line p.slack ∷ []) (line ∷ more))) ∙
    begins d Cost r line more stage e in
    let rest = after_places p r (bound_line p.bound) (slack_line p.slack ∷ line ∷ more) (last_lines r) (λ bad. absurd (omega (arith, bad))) regrouped in
    let behind = tail_is (slack_line p.slack) (slack_line r.slack) (line ∷ more) (cost_line r.cost ∷ last_lines r) rest in
    no_cost r.cost small.cost (head_of line (cost_line r.cost) more (last_lines r) behind)

-- behind the cost stand the same lines
after_totals : (p r : Report) (rest : List (List ℕ)) →
    version_line p.weights ∷ (place_lines p ++ total_lines p ++ map run_line p.runs ++ rest) ≡ version_line r.weights ∷ (place_lines r ++ lines_behind r (last_lines r)) →
    map run_line p.runs ++ rest ≡ last_lines r
after_totals p r rest e =
    let regrouped : version_line p.weights ∷ (place_lines p ++ lines_behind p (map run_line p.runs ++ rest)) ≡
    version_line r.weights ∷ (place_lines r ++ lines_behind r (last_lines r)) =
    ap (λ x. version_line p.weights ∷ x) (sym (regroup (place_lines p) (total_lines p) (map run_line p.runs) rest)) ∙ e in
    let behind = after_places p r (bound_line p.bound) (slack_line p.slack ∷ cost_line p.cost ∷ (map run_line p.runs ++ rest)) (last_lines r) (λ bad. absurd (omega (arith, bad)))
    regrouped in
    ap (drop 2) behind

pub runs_first : (runs : List Run) → AllFirst 114 (map run_line runs)
runs_first runs = all_first 114 run_line (λ run. refl) runs

pub run_unique : (a b : Run) → IsRun a → IsRun b → run_line a ≡ run_line b → a ≡ b
run_unique a b ha hb e =
    let one = spaced_unique (flat_map spaced a.flows) (flat_map spaced b.flows) a.length b.length (omega (arith, ha.1)) (omega (arith, hb.1)) (stops_flows a.flows)
    (stops_flows b.flows) (ap (drop 3) e) in
    let more = goes_on a.flows b.flows [] ha.2.1 hb.2.1 tt (append-nil (flat_map spaced a.flows) ∙ one.1) in
    go one.0 more.0 more.1 more.2
  where
    go : a.length ≡ b.length → (zs : List ℕ) → b.flows ≡ a.flows ++ zs → [] ≡ flat_map spaced zs → a ≡ b
    go len [] whole none = let flows : a.flows ≡ b.flows = sym (whole ∙ append-nil a.flows) in λ i. record { length = len i; flows = flows i }
    go len (z ∷ zs) whole none = absurd cc

-- the next run of a list whose lines go on
pub runs_go_on : (xs ys : List Run) (line : List ℕ) (zs : List (List ℕ)) → All IsRun xs → All IsRun ys → map run_line ys ≡ map run_line xs ++ (line ∷ zs) →
    (run : Run) × (others : List Run) × (ys ≡ xs ++ (run ∷ others)) × (line ≡ run_line run) × IsRun run
runs_go_on [] [] line zs hx hy e = absurd cc
runs_go_on [] (y ∷ ys) line zs hx hy e = (y, ys, refl, sym (head_of (run_line y) line (map run_line ys) zs e), hy 0 y (omega arith))
runs_go_on (x ∷ xs) [] line zs hx hy e = absurd cc
runs_go_on (x ∷ xs) (y ∷ ys) line zs hx hy e =
    let same : x ≡ y = run_unique x y (hx 0 x (omega arith)) (hy 0 y (omega arith)) (sym (head_of (run_line y) (run_line x) (map run_line ys) (map run_line xs ++ (line ∷ zs)) e))
    in
    let more = runs_go_on xs ys line zs (λ k d lt. hx (suc k) d (omega arith)) (λ k d lt. hy (suc k) d (omega arith))
    (tail_is (run_line y) (run_line x) (map run_line ys) (map run_line xs ++ (line ∷ zs)) e) in
    (more.0, more.1, (λ i. sym same i ∷ more.2 i), more.3, more.4)

pub all_runs : (r : Report) → IsReport r → HasSmallNumbers r → All IsRun r.runs
all_runs r h small k d lt = (h.lengths k d lt, omega (arith, get_or-le-sum_by slots_in r.runs k d lt, h.few_slots), (h.ascending k d lt, small.flows k d lt))

-- the lines behind the cost of a report that begins as the draft does
last_are : (d : Draft) (r : Report) (line : List ℕ) (more : List (List ℕ)) → d.stage ≡ Runs → report_lines r ≡ lines_before d.stage (report_of d) ++ (line ∷ more) →
    map run_line d.runs ++ (line ∷ more) ≡ last_lines r
last_are d r line more stage e = after_totals (report_of d) r (line ∷ more) (begins d Runs r line more stage e)

pub refuse_end : (d : Draft) (line : List ℕ) → IsDraft d → d.stage ≡ Runs → IsRunOf line None → (line ≡ codes "end" → ⊥) → Refuses d line
refuse_end d line h stage no_run no_end r more report small e =
    go (next_after 114 (map run_line d.runs) (map run_line r.runs) line (codes "end") more [] (runs_first d.runs) (runs_first r.runs)
    (λ bad. absurd (omega (arith, bad))) (last_are d r line more stage e))
  where
    go : ((zs : List (List ℕ)) × (map run_line r.runs ≡ map run_line d.runs ++ (line ∷ zs))) ⊎
        ((map run_line d.runs ≡ map run_line r.runs) × (line ≡ codes "end") × (more ≡ [])) → ⊥
    go (inl (zs, whole)) =
        let next = runs_go_on d.runs r.runs line zs (all_runs (report_of d) h.report h.small) (all_runs r report small) whole in
        no_run next.0 next.4 next.3
    go (inr (same, here, none)) = no_end here

-- a report that has the run's line here has the run
pub run_next : (d : Draft) (run : Run) (line : List ℕ) (r : Report) (more : List (List ℕ)) → IsDraft d → d.stage ≡ Runs → IsRun run → line ≡ run_line run → IsReport r →
    HasSmallNumbers r → report_lines r ≡ lines_before d.stage (report_of d) ++ (line ∷ more) → (others : List Run) × (r.runs ≡ d.runs ++ (run ∷ others))
run_next d run line r more h stage is_run is report small e =
    go (next_after 114 (map run_line d.runs) (map run_line r.runs) line (codes "end") more [] (runs_first d.runs) (runs_first r.runs)
    (λ bad. absurd (omega (arith, bad))) (last_are d r line more stage e))
  where
    go : ((zs : List (List ℕ)) × (map run_line r.runs ≡ map run_line d.runs ++ (line ∷ zs))) ⊎
        ((map run_line d.runs ≡ map run_line r.runs) × (line ≡ codes "end") × (more ≡ [])) → (others : List Run) × (r.runs ≡ d.runs ++ (run ∷ others))
    go (inl (zs, whole)) =
        let next = runs_go_on d.runs r.runs line zs (all_runs (report_of d) h.report h.small) (all_runs r report small) whole in
        let same : next.0 ≡ run = run_unique next.0 run next.4 is_run (sym next.3 ∙ is) in
        (next.1, next.2 ∙ ap (λ x. d.runs ++ (x ∷ next.1)) same)
    go (inr (same, here, none)) = absurd (let bad : 114 ≡ 101 = ap first (sym is ∙ here) in omega (arith, bad))

-- runs that go on with one more have at least the slots of both
pub slots_grow : (runs whole others : List Run) (run : Run) → whole ≡ runs ++ (run ∷ others) → sum_by slots_in runs + run.length ≤ sum_by slots_in whole
slots_grow runs whole others run is =
    let total : sum_by slots_in whole ≡ sum_by slots_in runs + (run.length + sum_by slots_in others) =
    ap (sum_by slots_in) is ∙ (sum_by-append slots_in runs (run ∷ others) ∙ ap (λ n. sum_by slots_in runs + n) (sum_by-cons slots_in run others)) in
    omega (arith, total)

pub refuse_long : (d : Draft) (run : Run) (line : List ℕ) → IsDraft d → d.stage ≡ Runs → IsRun run → line ≡ run_line run → 2 ^ 41 - 1 < d.slots + run.length → Refuses d line
refuse_long d run line h stage is_run is long r more report small e =
    let next = run_next d run line r more h stage is_run is report small e in
    absurd (omega (arith, slots_grow d.runs r.runs next.0 run next.1, h.slots, report.few_slots))

pub refuse_same : (d : Draft) (run : Run) (line : List ℕ) → IsDraft d → d.stage ≡ Runs → IsRun run → line ≡ run_line run → IsLast d.runs run.flows true → Refuses d line
refuse_same d run line h stage is_run is same r more report small e =
    let next = run_next d run line r more h stage is_run is report small e in
    let k : ℕ = length d.runs - 1 in
    let some : 1 ≤ length d.runs = same.0 in
    let at : length d.runs ≡ k + 1 = omega arith in
    let last : get_or r.runs k run ≡ get_or d.runs k run = rw next.1 (get_or_append_left d.runs (run ∷ next.0) run k (omega arith)) in
    let here : get_or r.runs (k + 1) run ≡ run = rw (next.1, ← at) (get_or-append_seam d.runs run next.0 run) in
    let lt : k + 1 < length r.runs = omega (arith, ap length next.1, length-append d.runs (run ∷ next.0)) in
    report.maximal k run lt (ap (λ (x : Run). x.flows) last ∙ (same.1 k run (sym at) ∙ sym (ap (λ (x : Run). x.flows) here)))

pub refuse_done : (d : Draft) (line : List ℕ) → d.stage ≡ Done → Refuses d line
refuse_done d line stage r more report small e =
    let p : Report = report_of d in
    let start : report_lines p ++ (line ∷ more) ≡ version_line r.weights ∷ (place_lines r ++ lines_behind r (last_lines r)) = begins d Done r line more stage e in
    let regrouped : version_line p.weights ∷ (place_lines p ++ total_lines p ++ map run_line p.runs ++ (codes "end" ∷ line ∷ more)) ≡
    version_line r.weights ∷ (place_lines r ++ lines_behind r (last_lines r)) =
    ap (λ x. version_line p.weights ∷ x) (sym (append_assoc (place_lines p ++ total_lines p ++ map run_line p.runs) (codes "end" ∷ []) (line ∷ more))) ∙ start in
    let behind = after_totals p r (codes "end" ∷ line ∷ more) regrouped in
    let none : line ∷ more ≡ [] = (both_ended 114 (map run_line p.runs) (map run_line r.runs) (codes "end") (codes "end") (line ∷ more) [] (runs_first p.runs) (runs_first r.runs)
    (λ bad. absurd (omega (arith, bad))) (λ bad. absurd (omega (arith, bad))) behind).2 in
    absurd cc
