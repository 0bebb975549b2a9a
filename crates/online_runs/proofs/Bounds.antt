-- The certificate of what is left, over a table of loads that was filled for it.
use Rattle.std.proofs.Common.{◌≡◌, ℕ, ◌-◌, ◌≤◌, ◌<◌, Bool, true, false, List, [], ◌∷◌, get_or, length, map, reverse, refl, sym, ap, subst, ◌∙◌, arith, Contains}
use Rattle.std.specs.Prelude.{All, if◌then◌else◌, ◌&&◌, ◌==◌, not, slice_index, sum, sum_by}
use Rattle.std.specs.List.{filter, range_with_len}
use Rattle.std.proofs.lemmas.Bool.{and_parts, eqb-true}
use Rattle.std.proofs.lemmas.List.{get_or-map, get_or-reverse, length-map, length-reverse, reverse-reverse}
use Rattle.std.proofs.lemmas.List.Elements.{All-contains, Contains-get_or}
use Rattle.coflow_units.specs.declared.fabric.Flow.{Flow}
use Rattle.coflow_units.specs.declared.fabric.Port.{Port}
use Rattle.coflow_units.specs.declared.fabric.Side.{Side}
use Rattle.coflow_units.specs.declared.fabric.Side.TheVariants.{Egress, Ingress}
use Rattle.coflow_units.specs.declared.plan.Place.{Place}
use Rattle.coflow_units.specs.Certificate.{Entry, entry_of, front}
use Rattle.coflow_units.specs.declared.limits.TheConstants.{MAX_UNITS}
use Rattle.coflow_units.specs.Flows.{coflow_of, end_at, flow_at, Instance, IsInstance, units_of, uses, with_units}
use Rattle.coflow_units.specs.Load.{load, loads as loads_of}
use Rattle.coflow_units.proofs.Lists.{by_number, filter_in, filter_same, number_below}
use Rattle.coflow_units.proofs.Sums.{any_in, sum_mono, sum_same}
use Rattle.coflow_units.proofs.WhatIsLeft.{left_flow, same_length}
use Rattle.coflow_units.proofs.OrderingLaws.{ordering_feasible}
use Rattle.port_load.specs.LoadTable.{is_present, load_at, LoadTable}
use Rattle.bssi_order.specs.Order.{entries_of, IsOrder}
use Rattle.dual_cert.specs.TableCertificate.{HasLoadsOf, IsCertificateOf, StaysInBudget}
use Rattle.dual_cert.proofs.FirstPlaces.{map_reverse}
use Rattle.epochs.specs.Course.{Course, is_marked}
use Rattle.journal.specs.declared.command.Entry.{Entry as JournalEntry}
use Rattle.journal.specs.declared.opening.Opening.{Opening}
use Rattle.journal.specs.Chosen.{the_ordering}
use Rattle.journal.specs.Fold.{state_of}
use Rattle.journal.specs.Journal.{left_at}
use Rattle.journal.specs.State.{has, IsOpening, is_present as is_here, owed, present}
use Rattle.journal.proofs.Instances.{only_ordering}
use Rattle.master_core.specs.Published.{IsLeft}
use Rattle.online_runs.specs.Value.{place_line}
use Rattle.online_runs.proofs.Standing.{Stands}
use Rattle.online_runs.specs.declared.progress.Progress.{Progress}
use Rattle.online_runs.specs.Tells.{TellsRun}

-- ---- the lines of an order

lines_again : (ids : List ℕ) (places : List Place) → map (place_line ids) (map entry_of places) ≡ map (λ (x : Place). place_line ids (entry_of x)) places
lines_again ids [] = refl
lines_again ids (x ∷ xs) = ap (λ l. place_line ids (entry_of x) ∷ l) (lines_again ids xs)

module _ (i : Instance) (flows : List Flow) (left weights : List ℕ) (present : List Bool) (ports : ℕ) (places : List Place) (inst : IsInstance i) (order : IsOrder i places)
    (is : IsLeft i flows left weights present ports) where
  abbrev entries : List Entry
  entries = entries_of places

  pub is_ordering : entries ≡ the_ordering i
  is_ordering = only_ordering i entries inst order.ordering

  pub order_lines : (ids : List ℕ) → map (λ (x : Place). place_line ids (entry_of x)) places ≡ map (place_line ids) (reverse (the_ordering i))
  order_lines ids =
      sym (lines_again ids places) ∙ ap (map (place_line ids)) (sym (ap reverse (map_reverse entry_of places) ∙ reverse-reverse (map entry_of places))) ∙
      ap (λ l. map (place_line ids) (reverse l)) is_ordering

  -- ---- who is in it

  in_front : (c : ℕ) → Contains (front entries) c → (c < length present) × (is_present present c ≡ true)
  in_front c has' =
      let named = All-contains (Contains i.coflows) (front entries) c order.ordering.certificate.coflow has' in
      let (in', here) = filter_in (is_present present) (range_with_len 0 (length present)) c (subst (λ l. Contains l c) is.coflows_are named) in
      (omega (arith, number_below 0 (length present) c in'), here)

  front_below : All (λ c. c < length present) (front entries)
  front_below k d lt = (in_front (get_or (front entries) k d) (Contains-get_or (front entries) k d lt)).0

  each_below : All (λ (e : Entry). e.coflow < length present) entries
  each_below k d lt =
      let f = λ (e : Entry). e.coflow in
      subst (λ c. c < length present) (get_or-map f entries k d (f d) lt) (front_below k (f d) (omega (arith, lt, length-map entries f)))

  pub places_below : All (λ (x : Place). x.coflow < length present) places
  places_below k d lt =
      let f = λ (x : Place). x.coflow in
      let n = length places - 1 - k in
      let at : get_or entries n (entry_of d) ≡ entry_of (get_or (reverse places) n d) = get_or-map entry_of (reverse places) n d (entry_of d)
      (omega (arith, lt, length-reverse places)) in
      let turned : get_or (reverse places) n d ≡ get_or places k d =
      get_or-reverse places n d (omega (arith, lt)) ∙ ap (λ m. get_or places m d) (back (length places) k lt) in
      subst (λ (x : Place). x.coflow < length present) turned
      (subst (λ (e : Entry). e.coflow < length present) at (each_below n (entry_of d) (omega (arith, lt, length-map (reverse places) entry_of, length-reverse places))))
    where
      back : (n k : ℕ) → k < n → n - 1 - (n - 1 - k) ≡ k
      back n k lt = omega (arith, lt)

  -- ---- over a table of loads

  module _ (t : LoadTable) (coflows : t.coflows ≡ length present) (ports_are : t.ports ≡ ports)
      (filled : (c : ℕ) (port : Port) → c < t.coflows → port.number < t.ports → is_present present c ≡ true → load_at t c port ≡ load
      (with_units (λ f. slice_index left f) flows) c port)
    where
      pub certificate : IsCertificateOf t entries
      certificate = record {
        once = order.ordering.certificate.once;
        coflow = λ k d lt. omega (arith, coflows, each_below k d lt);
        port = λ k d lt. omega (arith, ports_are, is.ports_are, order.ordering.certificate.port k d lt);
      }

      pub loads : HasLoadsOf i.flows t entries
      loads c port has' lt =
          let (low, here) = in_front c has' in
          filled c port (omega (arith, low, coflows)) lt here ∙ is.load c port (All-contains (Contains i.coflows) (front entries) c order.ordering.certificate.coflow has')

      pub in_budget : StaysInBudget t weights entries
      in_budget = record {
        flows = i.flows;
        weight = i.weight;
        has_loads = loads;
        has_weights = λ c has'. is.weight c (All-contains (Contains i.coflows) (front entries) c order.ordering.certificate.coflow has');
        feasible = ordering_feasible i entries order.ordering;
      }

-- ---- loads by the numbers of the flows

same_end : (side : Side) (x : Flow) (n : ℕ) → end_at side (record { coflow = x.coflow; ingress = x.ingress; egress = x.egress; units = n }) ≡ end_at side x
same_end Ingress x n = refl
same_end Egress x n = refl

abbrev counted : List Flow → (ℕ → ℕ) → ℕ → Port → ℕ → ℕ
counted flows units c port f = if loads_of c port (flow_at flows f) then units f else 0

pub load_by_number : (flows : List Flow) (units : ℕ → ℕ) (c : ℕ) (port : Port) →
    load (with_units units flows) c port ≡ sum_by (counted flows units c port) (range_with_len 0 (length flows))
load_by_number flows units c port =
    let zero' : Flow = record { coflow = 0; ingress = 0; egress = 0; units = 0 } in
    let add = λ (x : Flow). if loads_of c port x then x.units else 0 in
    by_number add zero' (with_units units flows) ∙
    ap (λ n. sum_by (λ f. add (get_or (with_units units flows) f zero')) (range_with_len 0 n)) (same_length units flows) ∙
    sum_same (λ f. add (get_or (with_units units flows) f zero')) (counted flows units c port) (range_with_len 0 (length flows))
    (λ f in'.
    let low : f < length flows = omega (arith, number_below 0 (length flows) f in') in
    let x = flow_at flows f in
    ap add (left_flow units flows f zero' low) ∙
    ap (λ (e : ℕ). if (x.coflow == c) && (e == port.number) then units f else 0) (same_end port.side x (units f)))

-- ---- what is left of an online run

same_count : (b : Bool) (m n : ℕ) → (b ≡ true → m ≡ n) → ◌≡◌ {A = ℕ} (if b then m else 0) (if b then n else 0)
same_count true m n h = h refl
same_count false m n h = refl

module _ (o : Opening) (s : Course) (j : List JournalEntry) (p : Progress) (st : Stands o s j) (h : TellsRun o s j p) where
  here_too : (c : ℕ) → is_here (state_of o j) c ≡ is_present p.present.items c
  here_too c =
      ap (λ b. b && not (has (state_of o j).left c)) (st.joined c) ∙ ap (λ b. is_marked s.registered c && not b) (st.left c) ∙ sym (h.present_is c)

  left_loads : (c : ℕ) (port : Port) → Contains (left_at o j).coflows c →
      load (with_units (λ f. slice_index p.left.items f) o.table.flows) c port ≡ load (left_at o j).flows c port
  left_loads c port in' =
      let flows = o.table.flows in
      let left = λ (f : ℕ). slice_index p.left.items f in
      let owes = λ (f : ℕ). if has (present o (state_of o j)) (coflow_of flows f) then owed o (state_of o j) f else 0 in
      load_by_number flows left c port ∙
      sum_same (counted flows left c port) (counted flows owes c port) (range_with_len 0 (length flows))
      (λ f inside.
      let low : f < length flows = omega (arith, number_below 0 (length flows) f inside) in
      same_count (loads_of c port (flow_at flows f)) (left f) (owes f)
      (λ loads'.
      let of : coflow_of flows f ≡ c = eqb-true (coflow_of flows f) c (and_parts (coflow_of flows f == c) (uses port (flow_at flows f)) loads').0 in
      let there : has (present o (state_of o j)) (coflow_of flows f) ≡ true = ap (has (present o (state_of o j))) of ∙ any_in (present o (state_of o j)) c in' in
      h.left_is f low ∙ sym (ap {B = ℕ} (λ b. if b then owed o (state_of o j) f else 0) there)))
      ∙ sym (load_by_number flows owes c port)

  pub is_left_here : IsLeft (left_at o j) o.table.flows p.left.items o.weights p.present.items o.table.ports
  is_left_here = record {
    coflows_are = filter_same (is_here (state_of o j)) (is_present p.present.items) (range_with_len 0 (length o.table.ids)) (λ c in'. here_too c) ∙
        ap (λ n. filter (is_present p.present.items) (range_with_len 0 n)) (sym h.each_present);
    ports_are = refl;
    weight = λ c in'. st.journal.weights c;
    load = left_loads;
  }

-- what the flows have left is at most what they had
pub left_within : (o : Opening) (s : Course) (j : List JournalEntry) (p : Progress) → IsOpening o → TellsRun o s j p → sum p.left.items ≤ MAX_UNITS
left_within o s j p ok h =
    let zero' : Flow = record { coflow = 0; ingress = 0; egress = 0; units = 0 } in
    let all = range_with_len 0 (length o.table.flows) in
    omega (
      arith,
      by_number (λ (n : ℕ). n) 0 p.left.items,
      ap (λ n. sum_by (λ f. slice_index p.left.items f) (range_with_len 0 n)) h.each_left,
      sum_mono (λ f. slice_index p.left.items f) (λ f. units_of o.table.flows f) all
          (λ f in'. let low : f < length o.table.flows = omega (arith, number_below 0 (length o.table.flows) f in') in omega (arith, h.left_is f low)),
      by_number (λ (x : Flow). x.units) zero' o.table.flows,
      ok.table.few_units,
    )
