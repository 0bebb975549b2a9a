use Rattle.std.proofs.Common.{◌<◌, ◌∙◌, ℕ, List, [], cond, length, get_or, arith, ap, sym, subst}
use Rattle.std.specs.Prelude.{All}
use Rattle.std.proofs.lemmas.List.Elements.{All-nil}
use Rattle.coflow_units.specs.Completion.{completion, holds_coflow}
use Rattle.run_list.specs.Runs.{flows_before, run_of}
use Rattle.schedule_model.proofs.Changes.{All-without, before_holds, flows_at, gone_at, is_at_place, run_at_place}
use Rattle.schedule_model.proofs.RunSlots.{all_runs, entered_fits, entered_slots, run_count}
use Rattle.schedule_model.proofs.LastSlots.{ends_more}
use Rattle.schedule_model.proofs.ends.fill_ends.Goals as goal

pub mark_ends-requires : goal.mark_ends-requires
mark_ends-requires c =
    let runs = c.args.runs.now in
    let k = c.loop-place.place in
    let n = length c.args.flows.now in
    let left = gone_at runs k c.gone.result.now c.loop-place.walk c.enter-slots.new.self c.loop-place.invariant.walk_runs c.loop-place.invariant.walk_place
    c.enter-slots.ensures.runs c.enter-slots.ensures.entered c.gone.ensures.flows in
    let names = before_holds (All (λ f. f < n)) runs k c.requires.kept (omega arith) (All-nil (λ f. f < n)) c.requires.names in
    subst (All (λ f. f < n)) (sym left) (All-without (λ f. f < n) (flows_before runs k) (run_at_place runs k).flows names)

pub overflow_add-slot : goal.overflow_add-slot
overflow_add-slot c =
    omega (
      arith,
      c.loop-place.invariant.slot_is,
      entered_fits c.args.runs.now c.loop-place.place c.enter-slots.result c.loop-place.walk c.requires.kept (omega arith) c.loop-place.invariant.walk_runs
          c.loop-place.invariant.walk_place c.enter-slots.ensures.slots,
    )

pub loop-place-preserved : goal.loop-place-preserved
loop-place-preserved c =
    let flows = c.args.flows.now in
    let runs = c.args.runs.now in
    let k = c.loop-place.place in
    let lt : k < length runs = omega arith in
    let slots = entered_slots runs k c.enter-slots.result c.loop-place.walk (run_of 0 []) c.loop-place.invariant.walk_runs c.loop-place.invariant.walk_place
    c.enter-slots.ensures.slots in
    let left = gone_at runs k c.gone.result.now c.loop-place.walk c.enter-slots.new.self c.loop-place.invariant.walk_runs c.loop-place.invariant.walk_place
    c.enter-slots.ensures.runs c.enter-slots.ensures.entered c.gone.ensures.flows in
    record {
      walk_runs = c.enter-slots.ensures.runs ∙ c.loop-place.invariant.walk_runs;
      walk_place = omega arith;
      slot_is = omega (arith, c.loop-place.invariant.slot_is, run_count runs k (run_at_place runs k) lt (is_at_place runs k lt), slots);
      ends_are = λ j in'.
          let here : j < length c.loop-place.ends = omega (arith, in', c.mark_ends.auto.ends) in
          ends_more flows runs k j c.loop-place.slot c.enter-slots.result (get_or c.loop-place.ends j 0) (get_or c.mark_ends.new.ends j 0) c.requires.kept lt
          c.loop-place.invariant.slot_is slots (c.loop-place.invariant.ends_are j here)
          (c.mark_ends.ensures j here ∙ ap (λ (numbers : List ℕ). cond (holds_coflow flows numbers j) c.loop-place.slot (get_or c.loop-place.ends j 0)) left);
    }

pub mark_ends-requires-2 : goal.mark_ends-requires-2
mark_ends-requires-2 c =
    let runs = c.args.runs.now in
    let k = c.loop-place.place in
    let n = length c.args.flows.now in
    let last = flows_at runs k c.flows.result.now c.loop-place.walk c.loop-place.invariant.walk_runs c.loop-place.invariant.walk_place c.flows.ensures.before
    c.flows.ensures.flows in
    subst (All (λ f. f < n)) (sym last) (before_holds (All (λ f. f < n)) runs k c.requires.kept (omega arith) (All-nil (λ f. f < n)) c.requires.names)

pub returns : goal.returns
returns c = λ j in'.
    let flows = c.args.flows.now in
    let runs = c.args.runs.now in
    let k = c.loop-place.place in
    let here : j < length c.loop-place.ends = omega (arith, in', c.loop-place.auto.ends) in
    let last = flows_at runs k c.flows.result.now c.loop-place.walk c.loop-place.invariant.walk_runs c.loop-place.invariant.walk_place c.flows.ensures.before
    c.flows.ensures.flows in
    c.mark_ends-2.ensures j here ∙ ap (λ (numbers : List ℕ). cond (holds_coflow flows numbers j) c.loop-place.slot (get_or c.loop-place.ends j 0)) last
    ∙ c.loop-place.invariant.ends_are j here ∙ ap (λ s. completion flows s j) (all_runs runs k (omega arith))
