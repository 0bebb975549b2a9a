-- What is left at a moment is an instance, and what is kept tells it.
use Rattle.std.proofs.Common.{◌≡◌, ℕ, ◌+◌, ◌<◌, Bool, true, false, List, Option, None, Some, length, get_or, Contains, refl, sym, ap, subst, ◌∙◌, arith}
use Rattle.std.specs.Prelude.{All, IfSome, ◌==◌, if◌then◌else◌, filter, slice_index}
use Rattle.std.specs.List.{range_with_len}
use Rattle.std.proofs.lemmas.Bool.{and_parts, eqb-true}
use Rattle.std.proofs.lemmas.List.{get_or_default}
use Rattle.coflow_units.specs.declared.fabric.Flow.{Flow}
use Rattle.coflow_units.specs.declared.fabric.Port.{Port}
use Rattle.coflow_units.specs.Flows.{coflow_of, flow_at, IsInstance, uses, with_units}
use Rattle.coflow_units.specs.Load.{load, loads as loads_of}
use Rattle.coflow_units.specs.Served.{left_after}
use Rattle.coflow_units.proofs.Lists.{filter_in, filter_same, keeps, number_in}
use Rattle.coflow_units.proofs.Ranges.{range_rises}
use Rattle.coflow_units.proofs.Sums.{sum_same}
use Rattle.coflow_units.proofs.WhatIsLeft.{length_from}
use Rattle.epochs.specs.Course.{is_marked}
use Rattle.flow_table.specs.Table.{TableFacts}
use Rattle.journal.proofs.Instances.{units_at}
use Rattle.master_core.specs.Published.{IsLeft}
use Rattle.online_runs.proofs.Bounds.{load_by_number}
use Rattle.port_load.specs.LoadTable.{is_present}
use Rattle.replays.specs.declared.progress.Progress.{Progress}
use Rattle.replays.specs.declared.recording.Recording.{Recording}
use Rattle.replays.specs.Kept.{TellsProgress}
use Rattle.replays.specs.Moments.{Input, is_here, left_at, left_here, Moment}
use Rattle.replays.specs.Recording.{IsWhatIsLeft, MayRecord, TellsRecording}
use Rattle.replays.specs.Replayed.{IsInput}
use Rattle.replays.proofs.Running.{units_kept}

some_if : (b : Bool) (n : ℕ) → 0 < (if b then n else 0) → b ≡ true
some_if true n some = refl
some_if false n some = absurd (omega arith)

no_flow : Flow
no_flow = record { coflow = 0; ingress = 0; egress = 0; units = 0 }

pub instance_at : (x : Input) (m : Moment) → IsInput x → IsInstance (left_at x m)
instance_at x m input =
    let flows = x.table.flows in
    let units = left_here x m in
    let inside = λ (i : ℕ) (lt : i < length (with_units units flows)). let low : i < length flows = omega (arith, lt, length_from 0 units flows) in low in
    let at = λ (i : ℕ) (d : Flow) (lt : i < length (with_units units flows)). units_at 0 units flows i d (inside i lt) in
    record {
      ascending = range_rises (is_here m) (length x.table.ids);
      has_ports = omega (arith, input.table.has_ports);
      coflow = λ i d lt. subst (λ (f : Flow). 0 < f.units → Contains (left_at x m).coflows f.coflow) (sym (at i d lt)) (λ some.
          let k : 0 + i ≡ i = omega arith in
          let c = (get_or flows i d).coflow in
          let low : c < length x.table.ids = input.table.coflow i d (inside i lt) in
          let none : Flow = record { coflow = 0; ingress = 0; egress = 0; units = 0 } in
          let own : coflow_of flows (0 + i) ≡ c = ap (coflow_of flows) k ∙ ap (λ (f : Flow). f.coflow) (get_or_default flows i none d (inside i lt)) in
          let here : is_here m c ≡ true = ap (is_here m) (sym own) ∙ some_if (is_here m (coflow_of flows (0 + i))) (left_after flows m.slots (0 + i)) some in
          keeps (is_here m) (range_with_len 0 (length x.table.ids)) c (number_in 0 (length x.table.ids) c (omega arith) (omega (arith, low))) here);
      ingress = λ i d lt. subst (λ (f : Flow). f.ingress < x.table.ports) (sym (at i d lt)) (input.table.ingress i d (inside i lt));
      egress = λ i d lt. subst (λ (f : Flow). f.egress < x.table.ports) (sym (at i d lt)) (input.table.egress i d (inside i lt));
    }

-- ---- what is kept of it

same_count : (b : Bool) (m n : ℕ) → (b ≡ true → m ≡ n) → ◌≡◌ {A = ℕ} (if b then m else 0) (if b then n else 0)
same_count true m n h = h refl
same_count false m n h = refl

abbrev share : List Flow → (ℕ → ℕ) → ℕ → Port → ℕ → ℕ
share flows units c port f = if loads_of c port (flow_at flows f) then units f else 0

module _ (x : Input) (m : Moment) (left : List ℕ) (present : List Bool) (left_is : (f : ℕ) → slice_index left f ≡ left_after x.table.flows m.slots f)
    (present_is : (c : ℕ) → is_marked present c ≡ is_here m c) (each : length present ≡ length x.table.ids) where
  left_loads : (c : ℕ) (port : Port) → Contains (left_at x m).coflows c → load (with_units (λ f. slice_index left f) x.table.flows) c port ≡ load (left_at x m).flows c port
  left_loads c port has =
      let flows = x.table.flows in
      let own = λ (f : ℕ). slice_index left f in
      let here = (filter_in (is_here m) (range_with_len 0 (length x.table.ids)) c has).1 in
      load_by_number flows own c port ∙
      sum_same (share flows own c port) (share flows (left_here x m) c port) (range_with_len 0 (length flows))
      (λ f inside.
      same_count (loads_of c port (flow_at flows f)) (own f) (left_here x m f)
      (λ loads'.
      let of : coflow_of flows f ≡ c = eqb-true (coflow_of flows f) c (and_parts (coflow_of flows f == c) (uses port (flow_at flows f)) loads').0 in
      let there : is_here m (coflow_of flows f) ≡ true = ap (is_here m) of ∙ here in
      left_is f ∙ sym (ap {B = ℕ} (λ b. if b then left_after flows m.slots f else 0) there)))
      ∙ sym (load_by_number flows (left_here x m) c port)

  pub is_left_at : IsLeft (left_at x m) x.table.flows left x.weights present x.table.ports
  is_left_at = record {
    coflows_are = filter_same (is_here m) (is_present present) (range_with_len 0 (length x.table.ids)) (λ c has. sym (present_is c)) ∙
        ap (λ n. filter (is_present present) (range_with_len 0 n)) (sym each);
    ports_are = refl;
    weight = λ c has. refl;
    load = left_loads;
  }

pub what_is_left : (x : Input) (m : Moment) (p : Progress) (present : List Bool) → IsInput x → TellsProgress x m p → ((c : ℕ) → is_marked present c ≡ is_here m c) →
    length present ≡ length x.table.ids → IsWhatIsLeft x.table x.weights p.left.items present
what_is_left x m p present input t present_is each = record {
  each_weight = input.each_weight;
  weight = input.weight;
  each_left = t.tallied.each_flow;
  each_present = each;
  units = units_kept x m p input t;
  instance = left_at x m;
  is_instance = instance_at x m input;
  is_left = is_left_at x m p.left.items present t.left_is present_is each;
}

pub may_record : (x : Input) (m : Moment) (table : TableFacts) (p : Progress) (present : List Bool) (line : List ℕ) (r : Option Recording) → IsInput x → x.table ≡ table →
    TellsProgress x m p → ((c : ℕ) → is_marked present c ≡ is_here m c) → length present ≡ length x.table.ids → All (λ c. c < length x.table.ids) line →
    TellsRecording x m r → IfSome r (MayRecord table p.left.items present line)
may_record x m table p present line None input same t present_is each known told = tt
may_record x m table p present line (Some r) input same t present_is each known told =
    subst (λ (u : TableFacts). MayRecord u p.left.items present line r) same (record {
      room = record {
        weights_are = refl;
        coflows = told.room.coflows;
        ports = told.room.ports;
        room = told.room.room;
        each_charge = told.room.each_charge;
      };
      left_is = subst (λ w. IsWhatIsLeft x.table w p.left.items present) (sym told.room.weights_are) (what_is_left x m p present input t present_is each);
      known = known;
    })
