use Rattle.std.proofs.Common.{◌≡◌, ◌≢◌, ◌+◌, ◌-◌, ◌∙◌, ℕ, length, min, arith, subst, sym, take}
use Rattle.run_list.specs.Runs.{run_of}
use Rattle.schedule_model.specs.RunList.{slots_in}
use Rattle.schedule_model.proofs.RunSlots.{entered_fits, entered_run, run_count}
use Rattle.journal_audit.specs.Parted.{IsPartedAt}
use Rattle.journal_audit.proofs.RunPartings.{common_few, one_ended, runs_part, same_more}
use Rattle.journal_audit.proofs.parts.first_parted_slot.Goals as goal

pub overflow_add-result : goal.overflow_add-result
overflow_add-result c =
    let runs = c.args.stated.now in
    let k = c.loop-index._index in
    let inv = c.loop-index.invariant in
    let few = common_few (run_of c.enter-slots.result c.flows.result.now) (run_of c.enter-others.result c.flows-in-loop-index.result.now) c.in-Some.common c.in-Some.ensures in
    let fits = entered_fits runs k c.enter-slots.result c.loop-index.stated_walk c.requires.stated (omega arith) inv.stated_runs inv.stated_place c.enter-slots.ensures.slots in
    omega (arith, inv.passed_is, few, fits)

pub overflow_add-result-in-Some : goal.overflow_add-result-in-Some
overflow_add-result-in-Some c =
    let runs = c.args.stated.now in
    let k = c.loop-index._index in
    let inv = c.loop-index.invariant in
    let few = common_few (run_of c.enter-slots.result c.flows.result.now) (run_of c.enter-others.result c.flows-in-loop-index.result.now) c.in-Some.common c.in-Some.ensures in
    let fits = entered_fits runs k c.enter-slots.result c.loop-index.stated_walk c.requires.stated (omega arith) inv.stated_runs inv.stated_place c.enter-slots.ensures.slots in
    omega (arith, inv.passed_is, few, fits)

pub returns-in-Some : goal.returns-in-Some
returns-in-Some c =
    let stated = c.args.stated.now in
    let real = c.args.real.now in
    let k = c.loop-index._index in
    let inv = c.loop-index.invariant in
    let one = run_of c.enter-slots.result c.flows.result.now in
    let other = run_of c.enter-others.result c.flows-in-loop-index.result.now in
    let is_one = entered_run stated k c.enter-slots.result c.flows.result.now c.loop-index.stated_walk c.enter-slots.new.self inv.stated_runs inv.stated_place
    c.enter-slots.ensures.runs c.enter-slots.ensures.entered c.enter-slots.ensures.slots c.flows.ensures.flows in
    let is_other = entered_run real k c.enter-others.result c.flows-in-loop-index.result.now c.loop-index.real_walk c.enter-others.new.self inv.real_runs inv.real_place
    c.enter-others.ensures.runs c.enter-others.ensures.entered c.enter-others.ensures.slots c.flows-in-loop-index.ensures.flows in
    let at : length (slots_in (take k stated)) + c.in-Some.common ≡ c.loop-index.passed + c.in-Some.common + 1 - 1 = omega (arith, inv.passed_is) in (
      omega arith,
      subst (λ (n : ℕ). IsPartedAt (slots_in stated) (slots_in real) n) at
          (runs_part stated real k one other c.in-Some.common c.requires.stated c.requires.real (omega arith) (omega arith) is_one is_other inv.same c.in-Some.ensures),
    )

pub overflow_add-passed : goal.overflow_add-passed
overflow_add-passed c =
    let runs = c.args.stated.now in
    let k = c.loop-index._index in
    let inv = c.loop-index.invariant in
    let fits = entered_fits runs k c.enter-slots.result c.loop-index.stated_walk c.requires.stated (omega arith) inv.stated_runs inv.stated_place c.enter-slots.ensures.slots in
    omega (arith, inv.passed_is, fits)

pub loop-index-preserved : goal.loop-index-preserved
loop-index-preserved c =
    let stated = c.args.stated.now in
    let real = c.args.real.now in
    let k = c.loop-index._index in
    let inv = c.loop-index.invariant in
    let one = run_of c.enter-slots.result c.flows.result.now in
    let other = run_of c.enter-others.result c.flows-in-loop-index.result.now in
    let is_one = entered_run stated k c.enter-slots.result c.flows.result.now c.loop-index.stated_walk c.enter-slots.new.self inv.stated_runs inv.stated_place
    c.enter-slots.ensures.runs c.enter-slots.ensures.entered c.enter-slots.ensures.slots c.flows.ensures.flows in
    let is_other = entered_run real k c.enter-others.result c.flows-in-loop-index.result.now c.loop-index.real_walk c.enter-others.new.self inv.real_runs inv.real_place
    c.enter-others.ensures.runs c.enter-others.ensures.entered c.enter-others.ensures.slots c.flows-in-loop-index.ensures.flows in
    record {
      stated_runs = c.enter-slots.ensures.runs ∙ inv.stated_runs;
      stated_place = omega arith;
      real_runs = c.enter-others.ensures.runs ∙ inv.real_runs;
      real_place = omega arith;
      passed_is = omega (arith, inv.passed_is, run_count stated k one (omega arith) is_one);
      same = same_more stated real k one other (omega arith) (omega arith) is_one is_other inv.same c.in_default.ensures.0 c.in_default.ensures.1;
    }

pub returns : goal.returns
returns c =
    let stated = c.args.stated.now in
    let real = c.args.real.now in
    let inv = c.loop-index.invariant in
    let few : c.loop-index._index ≡ min (length stated) (length real) = omega (arith, c.loop-index-test.false, c.loop-index.auto._index-end, c.min-few.ensures) in
    let differ : length stated ≢ length real = λ e. c.if-count.false (c.count-3.ensures ∙ e ∙ sym c.count-4.ensures) in
    let at : length (slots_in (take c.loop-index._index stated)) ≡ c.loop-index.passed + 1 - 1 = omega (arith, inv.passed_is) in (
      omega arith,
      subst (λ (n : ℕ). IsPartedAt (slots_in stated) (slots_in real) n) at
          (one_ended stated real c.loop-index._index c.requires.stated c.requires.real few differ inv.same),
    )
