use Rattle.std.proofs.Common.{◌+◌, ◌<◌, ◌∙◌, [], length, take, arith, sym, subst}
use Rattle.std.specs.Prelude.{All}
use Rattle.std.proofs.lemmas.List.Elements.{All-nil}
use Rattle.run_list.specs.Runs.{flows_before, run_of}
use Rattle.schedule_model.specs.RunList.{slots_in}
use Rattle.schedule_model.specs.Fault.{IsFirstNoFlow}
use Rattle.schedule_model.proofs.Changes.{all_of_next, before_holds_so_far, come_at, first_of_next, is_at_place, run_at_place}
use Rattle.schedule_model.proofs.RunPushes.{each_slot}
use Rattle.schedule_model.proofs.RunSlots.{after_first, count_within, entered_fits, entered_slots, run_at, run_count, run_each}
use Rattle.schedule_model.proofs.Standing.{first_no_flow}
use Rattle.schedule_model.proofs.strangers.find_stranger.Goals as goal

pub returns-then-bound-flows : goal.returns-then-bound-flows
returns-then-bound-flows c =
    let n = length c.args.flows.now in
    each_slot (All (λ f. f < n)) c.args.runs.now (λ k d lt j e in'. omega (arith, c.bound.ensures k d lt j e in', c.if-bound-flows.true))

pub overflow_add-result : goal.overflow_add-result
overflow_add-result c = omega (arith, c.loop-place.invariant.slot_is, count_within c.args.runs.now c.loop-place.place, c.requires.short)

pub returns-in-Some : goal.returns-in-Some
returns-in-Some c =
    let runs = c.args.runs.now in
    let flows = c.args.flows.now in
    let k = c.loop-place.place in
    let r = run_at_place runs k in
    let lt : k < length runs = omega arith in
    let f = c.in-Some.flow in
    let before = flows_before runs k in
    let new = come_at runs k c.come.result.now c.loop-place.walk c.enter-slots.new.self c.loop-place.invariant.walk_runs c.loop-place.invariant.walk_place
    c.enter-slots.ensures.runs c.enter-slots.ensures.entered c.come.ensures.flows in
    let names : All (λ g. g < length flows) before = before_holds_so_far (All (λ g. g < length flows)) runs k c.requires (omega arith) (All-nil (λ g. g < length flows))
    c.loop-place.invariant.names in
    let (has, out, least) = first_of_next (length flows) f before r.flows names (rw new at c.in-Some.ensures) in
    let first = first_no_flow flows (slots_in (take k runs)) (after_first runs k r) r.flows f c.loop-place.invariant.names has out least in
    subst (λ n. IsFirstNoFlow flows (slots_in runs) (n + 1) f) (sym c.loop-place.invariant.slot_is)
    (subst (λ s. IsFirstNoFlow flows s (length (slots_in (take k runs)) + 1) f) (sym (run_at runs k r c.requires lt (is_at_place runs k lt))) first)

pub overflow_add-slot : goal.overflow_add-slot
overflow_add-slot c =
    omega (
      arith,
      c.loop-place.invariant.slot_is,
      entered_fits c.args.runs.now c.loop-place.place c.enter-slots.result c.loop-place.walk c.requires (omega arith) c.loop-place.invariant.walk_runs
          c.loop-place.invariant.walk_place c.enter-slots.ensures.slots,
    )

pub loop-place-preserved : goal.loop-place-preserved
loop-place-preserved c =
    let runs = c.args.runs.now in
    let n = length c.args.flows.now in
    let k = c.loop-place.place in
    let r = run_at_place runs k in
    let lt : k < length runs = omega arith in
    let is = is_at_place runs k lt in
    let slots = entered_slots runs k c.enter-slots.result c.loop-place.walk (run_of 0 []) c.loop-place.invariant.walk_runs c.loop-place.invariant.walk_place
    c.enter-slots.ensures.slots in
    let new = come_at runs k c.come.result.now c.loop-place.walk c.enter-slots.new.self c.loop-place.invariant.walk_runs c.loop-place.invariant.walk_place
    c.enter-slots.ensures.runs c.enter-slots.ensures.entered c.come.ensures.flows in
    let names : All (λ g. g < n) (flows_before runs k) = before_holds_so_far (All (λ g. g < n)) runs k c.requires (omega arith) (All-nil (λ g. g < n))
    c.loop-place.invariant.names in
    record {
      walk_runs = c.enter-slots.ensures.runs ∙ c.loop-place.invariant.walk_runs;
      walk_place = omega arith;
      slot_is = omega (arith, c.loop-place.invariant.slot_is, run_count runs k r lt is, slots);
      names = run_each (All (λ f. f < n)) runs k r lt is c.loop-place.invariant.names
          (all_of_next (λ f. f < n) (flows_before runs k) r.flows names (subst (All (λ f. f < n)) new c.in_default.ensures));
    }
