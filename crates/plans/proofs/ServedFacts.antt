-- The report of a line that is served is one that a text can have.
use Rattle.std.proofs.Common.{◌≡◌, ℕ, ◌+◌, ◌*◌, ◌/◌, ◌≤◌, ◌<◌, inl, inr, List, [], ◌∷◌, length, get_or, reverse, sym, ap, subst, ◌∙◌, arith}
use Rattle.std.specs.Prelude.{All, Option, map, slice_index}
use Rattle.std.specs.List.Sorted.{IsStrictlyIncreasing}
use Rattle.std.proofs.lemmas.List.{get_or-map, length-map, reverse-reverse}
use Rattle.std.proofs.lemmas.List.Elements.{All-cons, All-map, All-nil}
use Rattle.std.proofs.Math.Nat.{mul-le-mul_left}
use Rattle.coflow_units.specs.declared.fabric.Flow.{Flow}
use Rattle.coflow_units.specs.declared.plan.Place.{Place}
use Rattle.coflow_units.specs.Certificate.{Entry, budget, entry_of, front}
use Rattle.coflow_units.specs.Completion.{holds_coflow}
use Rattle.coflow_units.specs.Load.{load, load_of_all}
use Rattle.coflow_units.specs.Ordering.{IsOrdered, IsPlaced, residual}
use Rattle.coflow_units.specs.Schedule.{IsClear}
use Rattle.coflow_units.proofs.Numbers.{floor_within, zero_or_more}
use Rattle.coflow_units.proofs.ServedLaws.{served_valid}
use Rattle.coflow_units.proofs.Sums.{apart_from_pairs}
use Rattle.bssi_order.specs.Order.{entries_of}
use Rattle.coflow_units.proofs.OrderingLaws.{ordering_feasible}
use Rattle.flow_table.specs.Table.{IsTable, TableFacts, instance_of}
use Rattle.report_text.specs.declared.value.PlaceLine.{PlaceLine}
use Rattle.report_text.specs.declared.value.Report.{Report}
use Rattle.report_text.specs.Report.{ForEach, HasSmallNumbers, IsReport, IsSmallPlace}
use Rattle.schedule_model.proofs.CostSums.{parts_small, weight_small}
use Rattle.schedule_model.proofs.LastSlots.{last_within}
use Rattle.cert_check.proofs.InstanceFacts.{all_reverse, values_fit}
use Rattle.cert_check.proofs.NameSteps.{at_most}
use Rattle.cert_check.proofs.SlotSteps.{slots_count}
use Rattle.plans.specs.PlanReport.{coflows_of, line_of}
use Rattle.plans.specs.ServedReport.{IsServedReport}
use Rattle.plans.specs.Weighed.{IsWeighed}
use Rattle.plans.proofs.CertificateFacts.{each_place_within, places_distinct, places_within}
use Rattle.plans.proofs.ServedRuns.{each_run, few_slots, run_lengths, runs_differ}

-- ---- the weights

weights_in_range : (t : TableFacts) (weights : List ℕ) (order : List Place) → length weights ≡ length t.ids → All (λ w. 1 ≤ w) weights → All (λ w. w ≤ 4294967296) weights →
    All (λ (x : Place). x.coflow < length t.ids) order →
    All (λ w. (1 ≤ w) × (w ≤ 4294967296)) (map (λ (x : Place). slice_index weights x.coflow) order)
weights_in_range t weights order count least most within =
    All-map (λ w. (1 ≤ w) × (w ≤ 4294967296)) (λ (x : Place). slice_index weights x.coflow) order
    (λ k d lt. (least (get_or order k d).coflow 0 (omega (arith, count, within k d lt)), most (get_or order k d).coflow 0 (omega (arith, count, within k d lt))))

-- ---- the prices

-- a place charges no more for a unit of load than its coflow has to spend
y_within : (flows : List Flow) (weight : ℕ → ℕ) (ports : ℕ) (later : List Entry) (coflows : List ℕ) (e : Entry) → IsPlaced flows weight ports later coflows e →
    e.y ≤ budget weight e.coflow
y_within flows weight ports later coflows e placed = elim (zero_or_more (load_of_all flows coflows e.port)) [
  | inl none ↦ omega (arith, (placed.idle none).y_is)
  | inr some ↦
      let busy = placed.busy some in
      omega (
        arith,
        busy.y_is,
        floor_within (residual flows weight later e.coflow) (load flows e.coflow e.port),
        mul-le-mul_left (residual flows weight later e.coflow / load flows e.coflow e.port) busy.has_load,
      )
]

abbrev IsAffordable : (ℕ → ℕ) → Entry → Type 0
IsAffordable weight e = e.y ≤ budget weight e.coflow

all_within : (flows : List Flow) (weight : ℕ → ℕ) (ports : ℕ) (later entries : List Entry) → IsOrdered flows weight ports later entries → All (IsAffordable weight) entries
all_within flows weight ports later [] ordered = All-nil (IsAffordable weight)
all_within flows weight ports later (e ∷ before) ordered =
    All-cons (IsAffordable weight) e before (y_within flows weight ports later (front (e ∷ before)) e ordered.0) (all_within flows weight ports (e ∷ later) before ordered.1)

-- what holds of the entries holds of the places
each_place : (P : Entry → Type 0) (order : List Place) → All P (entries_of order) → All (λ (x : Place). P (entry_of x)) order
each_place P order all =
    let turned : All (λ (x : Place). P (entry_of x)) (reverse order) =
    λ k d lt. subst P (get_or-map entry_of (reverse order) k d (entry_of d) lt) (all k (entry_of d) (omega (arith, lt, length-map (reverse order) entry_of))) in
    subst (All (λ (x : Place). P (entry_of x))) (reverse-reverse order) (all_reverse (λ (x : Place). P (entry_of x)) (reverse order) turned)

module _ (t : TableFacts) (weights line : List ℕ) (r : Report) (s : IsServedReport (instance_of t weights) t.ids line r) where
  -- ---- the schedule

  slots_are_short : IsTable t → length s.slots ≤ 2199023255551
  slots_are_short table = omega (arith, few_slots t.flows line s.slots s.served, table.few_units)

  slots_are_clear : All (IsClear t.flows) s.slots
  slots_are_clear = (served_valid t.flows line s.slots s.served).clear

  -- ---- the report

  pub served_is_report : IsWeighed t weights → IsReport r
  served_is_report is =
      let stated = map (λ (x : Place). slice_index weights x.coflow) s.order in
      let places : length r.places ≡ length s.order = ap length s.places ∙ length-map s.order (line_of t.ids t.flows s.slots) in
      let each : length stated ≡ length r.places = length-map s.order (λ (x : Place). slice_index weights x.coflow) ∙ sym places in
      record {
        weight_each = subst (λ (o : Option (List ℕ)). ForEach (λ (ws : List ℕ). length ws ≡ length r.places) o) (sym s.weights) each;
        weight_range = subst (λ (o : Option (List ℕ)). ForEach (All (λ w. (1 ≤ w) × (w ≤ 4294967296))) o) (sym s.weights)
            (weights_in_range t weights s.order is.count is.least is.most (each_place_within t weights s.order s.ordering));
        lengths = run_lengths s.slots r.runs s.runs;
        few_slots = omega (arith, slots_count r.runs, ap length s.runs.same, slots_are_short is.table);
        ascending = each_run (λ (slot : List ℕ). IsStrictlyIncreasing slot) s.slots r.runs s.runs (λ k d lt. (slots_are_clear k d lt).ascending);
        maximal = runs_differ s.slots r.runs s.runs;
      }

  -- ---- the numbers

  pub few_places : length r.places ≤ length t.ids
  few_places =
      let coflows = coflows_of s.order in
      omega (
        arith,
        ap length s.places,
        length-map s.order (line_of t.ids t.flows s.slots),
        length-map s.order (λ (x : Place). x.coflow),
        at_most coflows (length t.ids) (apart_from_pairs coflows (places_distinct t weights s.order s.ordering)) (λ c has. places_within t weights s.order s.ordering c has),
      )

  line_is_small : IsTable t → All (λ w. w ≤ 4294967296) weights → (x : Place) → x.port.number < t.ports → x.y ≤ budget (λ c. slice_index weights c) x.coflow →
      slice_index t.ids x.coflow < 4294967296 → IsSmallPlace (line_of t.ids t.flows s.slots x)
  line_is_small table most x port y id = record {
    id = id;
    port = omega (arith, port, table.few_ports);
    y = omega (arith, y, weight_small weights x.coflow most);
    done = omega (arith, last_within (λ (slot : List ℕ). holds_coflow t.flows slot x.coflow) s.slots, slots_are_short table);
  }

  lines_are_small : IsTable t → All (λ w. w ≤ 4294967296) weights → All (λ (l : PlaceLine). l.id < 4294967296) r.places → All IsSmallPlace r.places
  lines_are_small table most ids =
      let told = line_of t.ids t.flows s.slots in
      let entries = entries_of s.order in
      let ports = each_place (λ (e : Entry). e.port.number < t.ports) s.order s.ordering.ordering.certificate.port in
      let ys = each_place (λ (e : Entry). e.y ≤ budget (λ c. slice_index weights c) e.coflow) s.order
      (all_within t.flows (λ c. slice_index weights c) t.ports [] entries s.ordering.ordering.ordered) in
      let named = subst (All (λ (l : PlaceLine). l.id < 4294967296)) s.places ids in
      subst (All IsSmallPlace) (sym s.places)
      (All-map IsSmallPlace told s.order (λ k d lt.
      let id = subst (λ (l : PlaceLine). l.id < 4294967296) (get_or-map told s.order k d (told d) lt) (named k (told d) (omega (arith, lt, length-map s.order told))) in
      line_is_small table most (get_or s.order k d) (ports k d lt) (ys k d lt) id))

  -- each coflow costs less than 2^73, so all together cost less than 2^128
  cost_is_small : IsTable t → All (λ w. w ≤ 4294967296) weights → r.cost < 340282366920938463463374607431768211456
  cost_is_small table most = omega (arith, s.cost_is, parts_small t.flows weights s.slots 0 (length t.ids) most (slots_are_short table), table.few_coflows)

  pub served_is_small : IsWeighed t weights → All (λ (l : PlaceLine). l.id < 4294967296) r.places → HasSmallNumbers r
  served_is_small is ids =
      let table = is.table in
      let entries = entries_of s.order in
      let fits : 4 * r.bound + r.slack < 340282366920938463463374607431768211456 =
      values_fit t weights entries r.bound r.slack table s.ordering.ordering.certificate is.most (ordering_feasible (instance_of t weights) entries s.ordering.ordering)
      (omega (arith, s.bound_is)) s.slack_is in
      record {
        count = omega (arith, few_places, table.few_coflows);
        places = lines_are_small table is.most ids;
        bound = omega (arith, fits);
        slack = omega (arith, fits);
        cost = cost_is_small table is.most;
        flows = each_run (λ (slot : List ℕ). All (λ f. f < 4294967296) slot) s.slots r.runs s.runs
            (λ k d lt. λ j e in'. omega (arith, (slots_are_clear k d lt).flow j e in', table.few_flows));
      }

  -- where the ids of the table are small, those of the places are
  pub ids_are_small : All (λ id. id < 4294967296) t.ids → All (λ (l : PlaceLine). l.id < 4294967296) r.places
  ids_are_small ids =
      subst (All (λ (l : PlaceLine). l.id < 4294967296)) (sym s.places)
      (All-map (λ (l : PlaceLine). l.id < 4294967296) (line_of t.ids t.flows s.slots) s.order
      (λ k d lt. ids (get_or s.order k d).coflow 0 (each_place_within t weights s.order s.ordering k d lt)))
