use Rattle.std.proofs.Common.{◌+◌, ◌<◌, ◌∙◌, Bool, List, [], length, take, arith, ap, sym, subst}
use Rattle.std.specs.Prelude.{All}
use Rattle.std.proofs.lemmas.List.Elements.{All-nil}
use Rattle.coflow_units.specs.declared.fabric.Side.TheVariants.{Ingress, Egress}
use Rattle.coflow_units.specs.Schedule.{IsClear}
use Rattle.run_list.specs.Runs.{flows_before, run_of}
use Rattle.schedule_model.specs.Repeat.{Marks}
use Rattle.schedule_model.specs.RunList.{NamesFlows, slots_in}
use Rattle.schedule_model.specs.Fault.{IsFirstClash}
use Rattle.schedule_model.proofs.Changes.{All-without, before_holds, come_at, flows_before_next, gone_at, is_at_place, run_at_place}
use Rattle.schedule_model.proofs.ClashSteps.{clear_slot, first_egress_clash, first_ingress_clash}
use Rattle.schedule_model.proofs.PortMarks.{follows_at}
use Rattle.schedule_model.proofs.RunSlots.{after_first, all_runs, count_within, entered_fits, entered_slots, run_at, run_count, run_each, run_holds}
use Rattle.schedule_model.proofs.TimeCounts.{refill}
use Rattle.schedule_model.proofs.clashes.find_clash.Goals as goal

pub least_repeat-requires-clause-left : goal.least_repeat-requires-clause-left
least_repeat-requires-clause-left c =
    let flows = c.args.flows.now in
    let runs = c.args.runs.now in
    let k = c.loop-place.place in
    let r = run_at_place runs k in
    let lt : k < length runs = omega arith in
    let left = gone_at runs k c.gone-left.result.now c.loop-place.walk c.enter-slots.new.self c.loop-place.invariant.walk_runs c.loop-place.invariant.walk_place
    c.enter-slots.ensures.runs c.enter-slots.ensures.entered c.gone-left.ensures.flows in
    let all : All (λ f. f < length flows) (flows_before runs k) = before_holds (All (λ f. f < length flows)) runs k c.requires.kept (omega arith) (All-nil (λ f. f < length flows))
    c.requires.names in
    subst (All (λ f. f < length flows)) (sym left) (All-without (λ f. f < length flows) (flows_before runs k) r.flows all)

pub least_repeat-requires-clause-new : goal.least_repeat-requires-clause-new
least_repeat-requires-clause-new c =
    let flows = c.args.flows.now in
    let runs = c.args.runs.now in
    let k = c.loop-place.place in
    let r = run_at_place runs k in
    let lt : k < length runs = omega arith in
    let new = come_at runs k c.come-new.result.now c.loop-place.walk c.enter-slots.new.self c.loop-place.invariant.walk_runs c.loop-place.invariant.walk_place
    c.enter-slots.ensures.runs c.enter-slots.ensures.entered c.come-new.ensures.flows in
    let all = run_holds (All (λ f. f < length flows)) runs k r c.requires.kept lt (is_at_place runs k lt) c.requires.names in
    subst (All (λ f. f < length flows)) (sym new) (All-without (λ f. f < length flows) r.flows (flows_before runs k) all)

pub overflow_add-result : goal.overflow_add-result
overflow_add-result c =
    omega (arith, c.loop-place.invariant.slot_is, count_within c.args.runs.now c.loop-place.place, c.requires.kept.short)

pub returns-in-Some : goal.returns-in-Some
returns-in-Some c =
    let flows = c.args.flows.now in
    let runs = c.args.runs.now in
    let k = c.loop-place.place in
    let r = run_at_place runs k in
    let lt : k < length runs = omega arith in
    let left = gone_at runs k c.gone-left.result.now c.loop-place.walk c.enter-slots.new.self c.loop-place.invariant.walk_runs c.loop-place.invariant.walk_place
    c.enter-slots.ensures.runs c.enter-slots.ensures.entered c.gone-left.ensures.flows in
    let new = come_at runs k c.come-new.result.now c.loop-place.walk c.enter-slots.new.self c.loop-place.invariant.walk_runs c.loop-place.invariant.walk_place
    c.enter-slots.ensures.runs c.enter-slots.ensures.entered c.come-new.ensures.flows in
    let ingress = follows_at flows Ingress runs k c.gone-left.result.now c.come-new.result.now c.deref_mut.result.now c.loop-place.ingress.items c.requires.kept (omega arith)
    c.loop-place.invariant.clear left new c.deref_mut.ensures.value c.loop-place.invariant.ingress_marks in
    let number = c.in-Some.number in
    let before = slots_in (take k runs) in
    let split = run_at runs k r c.requires.kept lt (is_at_place runs k lt) in
    let (twice, least) = c.in-Some.ensures.least (flows_before runs k) r.flows ingress in
    let first = first_ingress_clash flows before (after_first runs k r) r.flows number (subst (NamesFlows (length flows)) split c.requires.names) c.loop-place.invariant.clear twice
    least in
    subst (λ n. IsFirstClash flows (slots_in runs) (n + 1) (record { side = Ingress; number = number })) (sym c.loop-place.invariant.slot_is)
    (subst (λ s. IsFirstClash flows s (length before + 1) (record { side = Ingress; number = number })) (sym split) first)

pub least_repeat-requires-in-loop-place-clause-left : goal.least_repeat-requires-in-loop-place-clause-left
least_repeat-requires-in-loop-place-clause-left c =
    let flows = c.args.flows.now in
    let runs = c.args.runs.now in
    let k = c.loop-place.place in
    let r = run_at_place runs k in
    let lt : k < length runs = omega arith in
    let left = gone_at runs k c.gone-left.result.now c.loop-place.walk c.enter-slots.new.self c.loop-place.invariant.walk_runs c.loop-place.invariant.walk_place
    c.enter-slots.ensures.runs c.enter-slots.ensures.entered c.gone-left.ensures.flows in
    let all : All (λ f. f < length flows) (flows_before runs k) = before_holds (All (λ f. f < length flows)) runs k c.requires.kept (omega arith) (All-nil (λ f. f < length flows))
    c.requires.names in
    subst (All (λ f. f < length flows)) (sym left) (All-without (λ f. f < length flows) (flows_before runs k) r.flows all)

pub least_repeat-requires-in-loop-place-clause-new : goal.least_repeat-requires-in-loop-place-clause-new
least_repeat-requires-in-loop-place-clause-new c =
    let flows = c.args.flows.now in
    let runs = c.args.runs.now in
    let k = c.loop-place.place in
    let r = run_at_place runs k in
    let lt : k < length runs = omega arith in
    let new = come_at runs k c.come-new.result.now c.loop-place.walk c.enter-slots.new.self c.loop-place.invariant.walk_runs c.loop-place.invariant.walk_place
    c.enter-slots.ensures.runs c.enter-slots.ensures.entered c.come-new.ensures.flows in
    let all = run_holds (All (λ f. f < length flows)) runs k r c.requires.kept lt (is_at_place runs k lt) c.requires.names in
    subst (All (λ f. f < length flows)) (sym new) (All-without (λ f. f < length flows) r.flows (flows_before runs k) all)

pub overflow_add-result-in-Some-least_repeat : goal.overflow_add-result-in-Some-least_repeat
overflow_add-result-in-Some-least_repeat c =
    omega (arith, c.loop-place.invariant.slot_is, count_within c.args.runs.now c.loop-place.place, c.requires.kept.short)

pub returns-in-Some-least_repeat : goal.returns-in-Some-least_repeat
returns-in-Some-least_repeat c =
    let flows = c.args.flows.now in
    let runs = c.args.runs.now in
    let k = c.loop-place.place in
    let r = run_at_place runs k in
    let lt : k < length runs = omega arith in
    let left = gone_at runs k c.gone-left.result.now c.loop-place.walk c.enter-slots.new.self c.loop-place.invariant.walk_runs c.loop-place.invariant.walk_place
    c.enter-slots.ensures.runs c.enter-slots.ensures.entered c.gone-left.ensures.flows in
    let new = come_at runs k c.come-new.result.now c.loop-place.walk c.enter-slots.new.self c.loop-place.invariant.walk_runs c.loop-place.invariant.walk_place
    c.enter-slots.ensures.runs c.enter-slots.ensures.entered c.come-new.ensures.flows in
    let ingress = follows_at flows Ingress runs k c.gone-left.result.now c.come-new.result.now c.deref_mut.result.now c.loop-place.ingress.items c.requires.kept (omega arith)
    c.loop-place.invariant.clear left new c.deref_mut.ensures.value c.loop-place.invariant.ingress_marks in
    let egress = follows_at flows Egress runs k c.gone-left.result.now c.come-new.result.now c.deref_mut-in-loop-place.result.now c.loop-place.egress.items c.requires.kept
    (omega arith) c.loop-place.invariant.clear left new c.deref_mut-in-loop-place.ensures.value c.loop-place.invariant.egress_marks in
    let number = c.in-Some-least_repeat.number in
    let before = slots_in (take k runs) in
    let split = run_at runs k r c.requires.kept lt (is_at_place runs k lt) in
    let (twice, least) = c.in-Some-least_repeat.ensures.least (flows_before runs k) r.flows egress in
    let first = first_egress_clash flows before (after_first runs k r) r.flows number (subst (NamesFlows (length flows)) split c.requires.names) c.loop-place.invariant.clear
    (c.in_default.ensures.least (flows_before runs k) r.flows ingress) twice least in
    subst (λ n. IsFirstClash flows (slots_in runs) (n + 1) (record { side = Egress; number = number })) (sym c.loop-place.invariant.slot_is)
    (subst (λ s. IsFirstClash flows s (length before + 1) (record { side = Egress; number = number })) (sym split) first)

pub overflow_add-slot : goal.overflow_add-slot
overflow_add-slot c =
    omega (
      arith,
      c.loop-place.invariant.slot_is,
      entered_fits c.args.runs.now c.loop-place.place c.enter-slots.result c.loop-place.walk c.requires.kept (omega arith) c.loop-place.invariant.walk_runs
          c.loop-place.invariant.walk_place c.enter-slots.ensures.slots,
    )

pub loop-place-preserved : goal.loop-place-preserved
loop-place-preserved c =
    let flows = c.args.flows.now in
    let runs = c.args.runs.now in
    let k = c.loop-place.place in
    let r = run_at_place runs k in
    let lt : k < length runs = omega arith in
    let before = flows_before runs k in
    let slots = entered_slots runs k c.enter-slots.result c.loop-place.walk (run_of 0 []) c.loop-place.invariant.walk_runs c.loop-place.invariant.walk_place
    c.enter-slots.ensures.slots in
    let left = gone_at runs k c.gone-left.result.now c.loop-place.walk c.enter-slots.new.self c.loop-place.invariant.walk_runs c.loop-place.invariant.walk_place
    c.enter-slots.ensures.runs c.enter-slots.ensures.entered c.gone-left.ensures.flows in
    let new = come_at runs k c.come-new.result.now c.loop-place.walk c.enter-slots.new.self c.loop-place.invariant.walk_runs c.loop-place.invariant.walk_place
    c.enter-slots.ensures.runs c.enter-slots.ensures.entered c.come-new.ensures.flows in
    let ingress = follows_at flows Ingress runs k c.gone-left.result.now c.come-new.result.now c.deref_mut.result.now c.loop-place.ingress.items c.requires.kept (omega arith)
    c.loop-place.invariant.clear left new c.deref_mut.ensures.value c.loop-place.invariant.ingress_marks in
    let egress = follows_at flows Egress runs k c.gone-left.result.now c.come-new.result.now c.deref_mut-in-loop-place.result.now c.loop-place.egress.items c.requires.kept
    (omega arith) c.loop-place.invariant.clear left new c.deref_mut-in-loop-place.ensures.value c.loop-place.invariant.egress_marks in
    let in_table = refill c.least_repeat.new.used c.loop-place.ingress.items c.loop-place.ingress.len (c.least_repeat.auto.used ∙ c.deref_mut.ensures.len) in
    let out_table = refill c.least_repeat-in-loop-place.new.used c.loop-place.egress.items c.loop-place.egress.len
    (c.least_repeat-in-loop-place.auto.used ∙ c.deref_mut-in-loop-place.ensures.len) in
    let next = sym (flows_before_next runs k) in
    let in_marks = subst (λ s. Marks flows Ingress s c.least_repeat.new.used) next (c.least_repeat.ensures.used before r.flows ingress) in
    let out_marks = subst (λ s. Marks flows Egress s c.least_repeat-in-loop-place.new.used) next (c.least_repeat-in-loop-place.ensures.used before r.flows egress) in
    let names = run_holds (All (λ f. f < length flows)) runs k r c.requires.kept lt (is_at_place runs k lt) c.requires.names in
    let clear = clear_slot flows r.flows (c.requires.kept.ascending k (run_of 0 []) lt) names (c.in_default.ensures.least before r.flows ingress)
    (c.in_default-least_repeat.ensures.least before r.flows egress) in
    record {
      walk_runs = c.enter-slots.ensures.runs ∙ c.loop-place.invariant.walk_runs;
      walk_place = omega arith;
      slot_is = omega (arith, c.loop-place.invariant.slot_is, run_count runs k r lt (is_at_place runs k lt), slots);
      ingress_count = ap (λ (xs : List Bool). length xs) in_table ∙ c.least_repeat.auto.used ∙ ap (λ (xs : List Bool). length xs) c.deref_mut.ensures.value ∙
          c.loop-place.invariant.ingress_count;
      egress_count = ap (λ (xs : List Bool). length xs) out_table ∙ c.least_repeat-in-loop-place.auto.used ∙
          ap (λ (xs : List Bool). length xs) c.deref_mut-in-loop-place.ensures.value ∙ c.loop-place.invariant.egress_count;
      ingress_marks = subst (Marks flows Ingress (flows_before runs (k + 1))) (sym in_table) in_marks;
      egress_marks = subst (Marks flows Egress (flows_before runs (k + 1))) (sym out_table) out_marks;
      clear = run_each (IsClear flows) runs k r lt (is_at_place runs k lt) c.loop-place.invariant.clear clear;
    }

pub returns : goal.returns
returns c =
    subst (All (IsClear c.args.flows.now)) (all_runs c.args.runs.now c.loop-place.place (omega arith)) c.loop-place.invariant.clear
