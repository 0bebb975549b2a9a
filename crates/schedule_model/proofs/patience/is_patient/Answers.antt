use Rattle.std.proofs.Common.{◌≡◌, ◌+◌, ◌<◌, ◌≤◌, ◌∙◌, ℕ, List, cond, length, get_or, take, arith, ap, refl, sym, subst}
use Rattle.std.specs.Prelude.{All, IsTrue}
use Rattle.std.proofs.lemmas.Bool.{false≢true}
use Rattle.coflow_units.specs.Patient.{IsPatient}
use Rattle.coflow_units.specs.Schedule.{holds, times}
use Rattle.run_list.specs.Runs.{Walked, run_of}
use Rattle.schedule_model.specs.RunList.{IsKept, NamesFlows, slots_in}
use Rattle.schedule_model.proofs.RunSlots.{after_first, all_runs, entered_run, run_at, run_holds, run_more}
use Rattle.schedule_model.proofs.TimeCounts.{refill, times_fit, times_more}
use Rattle.schedule_model.proofs.WaitSteps.{patient_here, patient_more}
use Rattle.schedule_model.proofs.patience.is_patient.Goals as goal

pub waits_well-requires-clause-names : goal.waits_well-requires-clause-names
waits_well-requires-clause-names c =
    let runs = c.in_ok-walk.walk.runs in
    let flows = c.args.flows.now in
    let k = c.loop-place.place in
    let r = run_of c.enter-slots.result c.flows-slot.result.now in
    let same : runs ≡ c.kept-runs.result.now = ap (λ (w : Walked). w.runs) c.in_ok-walk.ensures in
    let there : k < length runs = omega (arith, ap length same) in
    let kept : IsKept runs = subst IsKept (sym same) c.kept-runs.ensures.kept in
    let slots : slots_in runs ≡ c.args.schedule.now = ap slots_in same ∙ c.kept-runs.ensures.slots in
    let is = entered_run runs k c.enter-slots.result c.flows-slot.result.now c.loop-place.walk c.enter-slots.new.self c.loop-place.invariant.walk_runs
    c.loop-place.invariant.walk_place
    c.enter-slots.ensures.runs c.enter-slots.ensures.entered c.enter-slots.ensures.slots c.flows-slot.ensures.flows in
    let names : NamesFlows (length flows) (slots_in runs) = subst (NamesFlows (length flows)) (sym slots) c.requires in
    run_holds (All (λ f. f < length flows)) runs k r kept there is names

pub returns-then-not-waits_well : goal.returns-then-not-waits_well
returns-then-not-waits_well c =
    let runs = c.in_ok-walk.walk.runs in
    let flows = c.args.flows.now in
    let k = c.loop-place.place in
    let r = run_of c.enter-slots.result c.flows-slot.result.now in
    let order = c.args.order.now in
    let same : runs ≡ c.kept-runs.result.now = ap (λ (w : Walked). w.runs) c.in_ok-walk.ensures in
    let there : k < length runs = omega (arith, ap length same) in
    let kept : IsKept runs = subst IsKept (sym same) c.kept-runs.ensures.kept in
    let slots : slots_in runs ≡ c.args.schedule.now = ap slots_in same ∙ c.kept-runs.ensures.slots in
    let is = entered_run runs k c.enter-slots.result c.flows-slot.result.now c.loop-place.walk c.enter-slots.new.self c.loop-place.invariant.walk_runs
    c.loop-place.invariant.walk_place
    c.enter-slots.ensures.runs c.enter-slots.ensures.entered c.enter-slots.ensures.slots c.flows-slot.ensures.flows in
    let split = sym slots ∙ run_at runs k r kept there is in
    let counted = λ (f : ℕ). ap (λ (xs : List ℕ). get_or xs f 0) c.deref-in-loop-place.ensures.value ∙ c.loop-place.invariant.times_are f in (
      (λ t. absurd (false≢true t)),
      (λ patient.
          subst IsTrue c.if-not-waits_well.true
          (c.waits_well.ensures.1 (λ f lt left.
          patient_here flows order (slots_in (take k runs)) (after_first runs k r) r.flows f (subst (IsPatient flows order) split patient) lt (omega (arith, left, counted f))))),
    )

pub add_run-requires-clause-names : goal.add_run-requires-clause-names
add_run-requires-clause-names c =
    let runs = c.in_ok-walk.walk.runs in
    let flows = c.args.flows.now in
    let k = c.loop-place.place in
    let r = run_of c.enter-slots.result c.flows-slot.result.now in
    let same : runs ≡ c.kept-runs.result.now = ap (λ (w : Walked). w.runs) c.in_ok-walk.ensures in
    let there : k < length runs = omega (arith, ap length same) in
    let kept : IsKept runs = subst IsKept (sym same) c.kept-runs.ensures.kept in
    let slots : slots_in runs ≡ c.args.schedule.now = ap slots_in same ∙ c.kept-runs.ensures.slots in
    let is = entered_run runs k c.enter-slots.result c.flows-slot.result.now c.loop-place.walk c.enter-slots.new.self c.loop-place.invariant.walk_runs
    c.loop-place.invariant.walk_place
    c.enter-slots.ensures.runs c.enter-slots.ensures.entered c.enter-slots.ensures.slots c.flows-slot.ensures.flows in
    let all : NamesFlows (length flows) (slots_in runs) = subst (NamesFlows (length flows)) (sym slots) c.requires in
    let names : All (λ f. f < length flows) r.flows = run_holds (All (λ f. f < length flows)) runs k r kept there is all in
    let count : length c.deref_mut-in-loop-place-2.result.now ≡ length flows = ap (λ (xs : List ℕ). length xs) c.deref_mut-in-loop-place-2.ensures.value ∙
    c.loop-place.invariant.count in
    λ j d lt. omega (arith, names j d lt, count)

pub add_run-requires-clause-fits : goal.add_run-requires-clause-fits
add_run-requires-clause-fits c f =
    let runs = c.in_ok-walk.walk.runs in
    let flows = c.args.flows.now in
    let k = c.loop-place.place in
    let r = run_of c.enter-slots.result c.flows-slot.result.now in
    let same : runs ≡ c.kept-runs.result.now = ap (λ (w : Walked). w.runs) c.in_ok-walk.ensures in
    let there : k < length runs = omega (arith, ap length same) in
    let kept : IsKept runs = subst IsKept (sym same) c.kept-runs.ensures.kept in
    let slots : slots_in runs ≡ c.args.schedule.now = ap slots_in same ∙ c.kept-runs.ensures.slots in
    let is = entered_run runs k c.enter-slots.result c.flows-slot.result.now c.loop-place.walk c.enter-slots.new.self c.loop-place.invariant.walk_runs
    c.loop-place.invariant.walk_place
    c.enter-slots.ensures.runs c.enter-slots.ensures.entered c.enter-slots.ensures.slots c.flows-slot.ensures.flows in
    let at : get_or c.deref_mut-in-loop-place-2.result.now f 0 ≡ times (slots_in (take k runs)) f =
    ap (λ (xs : List ℕ). get_or xs f 0) c.deref_mut-in-loop-place-2.ensures.value ∙ c.loop-place.invariant.times_are f in
    omega (arith, times_fit runs k r f (get_or c.deref_mut-in-loop-place-2.result.now f 0) kept there is at)

pub loop-place-preserved : goal.loop-place-preserved
loop-place-preserved c =
    let runs = c.in_ok-walk.walk.runs in
    let flows = c.args.flows.now in
    let k = c.loop-place.place in
    let r = run_of c.enter-slots.result c.flows-slot.result.now in
    let order = c.args.order.now in
    let same : runs ≡ c.kept-runs.result.now = ap (λ (w : Walked). w.runs) c.in_ok-walk.ensures in
    let there : k < length runs = omega (arith, ap length same) in
    let kept : IsKept runs = subst IsKept (sym same) c.kept-runs.ensures.kept in
    let slots : slots_in runs ≡ c.args.schedule.now = ap slots_in same ∙ c.kept-runs.ensures.slots in
    let is = entered_run runs k c.enter-slots.result c.flows-slot.result.now c.loop-place.walk c.enter-slots.new.self c.loop-place.invariant.walk_runs
    c.loop-place.invariant.walk_place
    c.enter-slots.ensures.runs c.enter-slots.ensures.entered c.enter-slots.ensures.slots c.flows-slot.ensures.flows in
    let ingress = refill c.waits_well.new.ingress c.loop-place.ingress.items c.loop-place.ingress.len (c.waits_well.auto.ingress ∙ c.deref_mut.ensures.len) in
    let egress = refill c.waits_well.new.egress c.loop-place.egress.items c.loop-place.egress.len (c.waits_well.auto.egress ∙ c.deref_mut-in-loop-place.ensures.len) in
    let counts = refill c.add_run.new.counts c.loop-place.counts.items c.loop-place.counts.len (c.add_run.auto.counts ∙ c.deref_mut-in-loop-place-2.ensures.len) in
    let counted = λ (f : ℕ). ap (λ (xs : List ℕ). get_or xs f 0) c.deref-in-loop-place.ensures.value ∙ c.loop-place.invariant.times_are f in
    record {
      walk_runs = c.enter-slots.ensures.runs ∙ c.loop-place.invariant.walk_runs;
      walk_place = omega arith;
      ingress_count = ap (λ (xs : List ℕ). length xs) ingress ∙ c.waits_well.auto.ingress ∙ ap (λ (xs : List ℕ). length xs) c.deref_mut.ensures.value ∙
          c.loop-place.invariant.ingress_count;
      egress_count = ap (λ (xs : List ℕ). length xs) egress ∙ c.waits_well.auto.egress ∙ ap (λ (xs : List ℕ). length xs) c.deref_mut-in-loop-place.ensures.value ∙
          c.loop-place.invariant.egress_count;
      count = ap (λ (xs : List ℕ). length xs) counts ∙ c.add_run.auto.counts ∙ ap (λ (xs : List ℕ). length xs) c.deref_mut-in-loop-place-2.ensures.value ∙
          c.loop-place.invariant.count;
      times_are = λ f. ap (λ (xs : List ℕ). get_or xs f 0) counts ∙ c.add_run.ensures f
          ∙ ap (λ (n : ℕ). n + cond (holds r.flows f) r.length 0) (ap (λ (xs : List ℕ). get_or xs f 0) c.deref_mut-in-loop-place-2.ensures.value ∙
          c.loop-place.invariant.times_are f)
          ∙ sym (times_more runs k r f there is);
      patient = subst (IsPatient flows order) (sym (run_more runs k r there is))
          (patient_more flows order (slots_in (take k runs)) r.flows r.length c.loop-place.invariant.patient
          (λ f in' left. c.waits_well.ensures.0 c.if-not-waits_well.false f in' (omega (arith, left, counted f))));
    }

pub returns : goal.returns
returns c =
    let runs = c.in_ok-walk.walk.runs in
    let same : runs ≡ c.kept-runs.result.now = ap (λ (w : Walked). w.runs) c.in_ok-walk.ensures in
    let past : length runs ≤ c.loop-place.place = omega (arith, ap length same) in
    let all = all_runs runs c.loop-place.place past ∙ ap slots_in same ∙ c.kept-runs.ensures.slots in
    ((λ t. subst (IsPatient c.args.flows.now c.args.order.now) all c.loop-place.invariant.patient), (λ patient. refl))
