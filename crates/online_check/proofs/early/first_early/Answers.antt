use Rattle.std.proofs.Common.{◌+◌, ◌<◌, ◌∙◌, length, slice_index, take, arith, ap, sym, subst}
use Rattle.std.specs.Prelude.{All, None, Some}
use Rattle.run_list.specs.Runs.{run_of}
use Rattle.schedule_model.specs.RunList.{slots_in}
use Rattle.schedule_model.proofs.RunSlots.{after_first, count_within, entered_fits, entered_run, run_at, run_count, run_holds, run_more}
use Rattle.online_check.specs.Early.{IsFirstEarly}
use Rattle.online_check.proofs.WaitingSteps.{LeastWaiting, NoneEarly, first_early_at, none_more}
use Rattle.online_check.proofs.early.first_early.Goals as goal

pub least_waiting-requires-clause-names : goal.least_waiting-requires-clause-names
least_waiting-requires-clause-names c =
    let runs = c.args.runs.now in
    let k = c.loop-place.place in
    let r = run_of c.enter-slots.result c.flows.result.now in
    let is = entered_run runs k c.enter-slots.result c.flows.result.now c.loop-place.walk c.enter-slots.new.self c.loop-place.invariant.walk_runs c.loop-place.invariant.walk_place
    c.enter-slots.ensures.runs c.enter-slots.ensures.entered c.enter-slots.ensures.slots c.flows.ensures.flows in
    run_holds (All (λ f. f < length c.args.flows.now)) runs k r c.requires.kept (omega arith) is c.requires.names

pub overflow_add-result : goal.overflow_add-result
overflow_add-result c = omega (arith, c.loop-place.invariant.gone_are, count_within c.args.runs.now c.loop-place.place, c.requires.kept.short)

pub returns-in-Some : goal.returns-in-Some
returns-in-Some c =
    let flows = c.args.flows.now in
    let arrival = slice_index c.args.arrivals.now in
    let runs = c.args.runs.now in
    let k = c.loop-place.place in
    let r = run_of c.enter-slots.result c.flows.result.now in
    let coflow = c.in-Some.coflow in
    let count = length c.args.arrivals.now in
    let before = slots_in (take k runs) in
    let is = entered_run runs k c.enter-slots.result c.flows.result.now c.loop-place.walk c.enter-slots.new.self c.loop-place.invariant.walk_runs c.loop-place.invariant.walk_place
    c.enter-slots.ensures.runs c.enter-slots.ensures.entered c.enter-slots.ensures.slots c.flows.ensures.flows in
    let waits = subst (λ n. LeastWaiting flows arrival n r.flows count (Some coflow)) c.loop-place.invariant.gone_are c.in-Some.ensures in
    let first = first_early_at flows arrival before (after_first runs k r) r.flows coflow count c.loop-place.invariant.none waits in (
      subst (λ n. IsFirstEarly flows arrival (slots_in runs) (n + 1) coflow) (sym c.loop-place.invariant.gone_are)
          (subst (λ s. IsFirstEarly flows arrival s (length before + 1) coflow) (sym (run_at runs k r c.requires.kept (omega arith) is)) first),
      waits.1,
    )

pub overflow_add-gone : goal.overflow_add-gone
overflow_add-gone c =
    omega (
      arith,
      c.loop-place.invariant.gone_are,
      entered_fits c.args.runs.now c.loop-place.place c.enter-slots.result c.loop-place.walk c.requires.kept (omega arith) c.loop-place.invariant.walk_runs
          c.loop-place.invariant.walk_place c.enter-slots.ensures.slots,
    )

pub loop-place-preserved : goal.loop-place-preserved
loop-place-preserved c =
    let flows = c.args.flows.now in
    let arrival = slice_index c.args.arrivals.now in
    let runs = c.args.runs.now in
    let k = c.loop-place.place in
    let r = run_of c.enter-slots.result c.flows.result.now in
    let count = length c.args.arrivals.now in
    let before = slots_in (take k runs) in
    let lt : k < length runs = omega arith in
    let is = entered_run runs k c.enter-slots.result c.flows.result.now c.loop-place.walk c.enter-slots.new.self c.loop-place.invariant.walk_runs c.loop-place.invariant.walk_place
    c.enter-slots.ensures.runs c.enter-slots.ensures.entered c.enter-slots.ensures.slots c.flows.ensures.flows in
    let free = subst (λ n. LeastWaiting flows arrival n r.flows count None) c.loop-place.invariant.gone_are c.in_default.ensures in
    record {
      walk_runs = c.enter-slots.ensures.runs ∙ c.loop-place.invariant.walk_runs;
      walk_place = omega arith;
      gone_are = ap (λ n. n + r.length) c.loop-place.invariant.gone_are ∙ sym (run_count runs k r lt is);
      none = subst (NoneEarly flows arrival) (sym (run_more runs k r lt is)) (none_more flows arrival before r.flows r.length count c.loop-place.invariant.none free);
    }
