use Rattle.std.proofs.Common.{◌≡◌, ◌<◌, ◌+◌, ◌-◌, ◌∙◌, ◌++◌, ℕ, List, [], cond, drop, length, get_or, take, arith, ap, refl, sym, subst}
use Rattle.std.specs.Prelude.{All}
use Rattle.std.proofs.lemmas.List.{get_or_default}
use Rattle.std.proofs.lemmas.List.Elements.{All-nil, All-weaker}
use Rattle.coflow_units.specs.Schedule.{IsClear, holds}
use Rattle.run_list.specs.Runs.{flows_before, run_of, without}
use Rattle.schedule_model.specs.RunList.{slots_in}
use Rattle.schedule_model.proofs.Changes.{All-without, before_holds, come_at, flows_at, gone_at, is_at_place, run_at_place}
use Rattle.schedule_model.proofs.RunSlots.{count_within, entered_fits, entered_slots, run_count, run_holds}
use Rattle.schedule_model.proofs.TimeCounts.{noted_within, refill, stood_all, stood_more, times_within}
use Rattle.schedule_model.proofs.counts.find_miscount.Goals as goal

pub add_since-requires-clause-names : goal.add_since-requires-clause-names
add_since-requires-clause-names c =
    let runs = c.args.runs.now in
    let n = length c.args.flows.now in
    let k = c.loop-place.place in
    let before = flows_before runs k in
    let left = gone_at runs k c.gone.result.now c.loop-place.walk c.enter-slots.new.self c.loop-place.invariant.walk_runs c.loop-place.invariant.walk_place
    c.enter-slots.ensures.runs c.enter-slots.ensures.entered c.gone.ensures.flows in
    let clear = All-weaker (IsClear c.args.flows.now) (All (λ f. f < n)) (λ slot is. is.flow) (slots_in runs) c.requires.clear in
    let names = before_holds (All (λ f. f < n)) runs k c.requires.kept (omega arith) (All-nil (λ f. f < n)) clear in
    let all : All (λ f. f < n) c.gone.result.now = subst (All (λ f. f < n)) (sym left) (All-without (λ f. f < n) before (run_at_place runs k).flows names) in
    λ j d lt. omega (arith, all j d lt, c.deref_mut.ensures.len, ap (λ (xs : List ℕ). length xs) c.deref_mut.ensures.value, c.loop-place.invariant.count)

pub add_since-requires-clause-fits : goal.add_since-requires-clause-fits
add_since-requires-clause-fits c f =
    omega (
      arith,
      ap (λ (xs : List ℕ). get_or xs f 0) c.deref_mut.ensures.value,
      c.loop-place.invariant.times_are f,
      times_within c.args.runs.now c.loop-place.place f,
      c.loop-place.invariant.slot_is,
      count_within c.args.runs.now c.loop-place.place,
      c.requires.kept.short,
    )

pub note_since-requires : goal.note_since-requires
note_since-requires c =
    let runs = c.args.runs.now in
    let n = length c.args.flows.now in
    let k = c.loop-place.place in
    let r = run_at_place runs k in
    let lt' : k < length runs = omega arith in
    let new = come_at runs k c.come.result.now c.loop-place.walk c.enter-slots.new.self c.loop-place.invariant.walk_runs c.loop-place.invariant.walk_place
    c.enter-slots.ensures.runs c.enter-slots.ensures.entered c.come.ensures.flows in
    let clear = run_holds (IsClear c.args.flows.now) runs k r c.requires.kept lt' (is_at_place runs k lt') c.requires.clear in
    let all : All (λ f. f < n) c.come.result.now = subst (All (λ f. f < n)) (sym new) (All-without (λ f. f < n) r.flows (flows_before runs k) clear.flow) in
    λ j d lt. omega (arith, all j d lt, ap (λ (xs : List ℕ). length xs) c.deref_mut-in-loop-place.ensures.value, c.loop-place.invariant.since_count)

pub overflow_add-slot : goal.overflow_add-slot
overflow_add-slot c =
    omega (
      arith,
      c.loop-place.invariant.slot_is,
      entered_fits c.args.runs.now c.loop-place.place c.enter-slots.result c.loop-place.walk c.requires.kept (omega arith) c.loop-place.invariant.walk_runs
          c.loop-place.invariant.walk_place c.enter-slots.ensures.slots,
    )

pub loop-place-preserved : goal.loop-place-preserved
loop-place-preserved c =
    let runs = c.args.runs.now in
    let k = c.loop-place.place in
    let r = run_at_place runs k in
    let before = flows_before runs k in
    let slot = c.loop-place.slot in
    let counts = c.loop-place.counts.items in
    let since = c.loop-place.since.items in
    let lt : k < length runs = omega arith in
    let slots = entered_slots runs k c.enter-slots.result c.loop-place.walk (run_of 0 []) c.loop-place.invariant.walk_runs c.loop-place.invariant.walk_place
    c.enter-slots.ensures.slots in
    let left = gone_at runs k c.gone.result.now c.loop-place.walk c.enter-slots.new.self c.loop-place.invariant.walk_runs c.loop-place.invariant.walk_place
    c.enter-slots.ensures.runs c.enter-slots.ensures.entered c.gone.ensures.flows in
    let new = come_at runs k c.come.result.now c.loop-place.walk c.enter-slots.new.self c.loop-place.invariant.walk_runs c.loop-place.invariant.walk_place
    c.enter-slots.ensures.runs c.enter-slots.ensures.entered c.come.ensures.flows in
    let counted = refill c.add_since.new.counts counts c.loop-place.counts.len (c.add_since.auto.counts ∙ c.deref_mut.ensures.len) in
    let noted = refill c.note_since.new.since since c.loop-place.since.len (c.note_since.auto.since ∙ c.deref_mut-in-loop-place.ensures.len) in
    let more = λ (f : ℕ). ap (λ (xs : List ℕ). get_or xs f 0) counted ∙ c.add_since.ensures f
    ∙ ap (λ (xs : List ℕ). get_or xs f 0 + cond (holds c.gone.result.now f) (slot - get_or c.deref.result.now f 0) 0) c.deref_mut.ensures.value
    ∙ ap (λ (xs : List ℕ). get_or counts f 0 + cond (holds c.gone.result.now f) (slot - get_or xs f 0) 0) c.deref.ensures.value
    ∙ ap (λ (xs : List ℕ). get_or counts f 0 + cond (holds xs f) (slot - get_or since f 0) 0) left in
    let later = λ (f : ℕ). ap (λ (xs : List ℕ). get_or xs f 0) noted ∙ c.note_since.ensures f
    ∙ ap (λ (xs : List ℕ). cond (holds c.come.result.now f) slot (get_or xs f 0)) c.deref_mut-in-loop-place.ensures.value
    ∙ ap (λ (xs : List ℕ). cond (holds xs f) slot (get_or since f 0)) new in
    record {
      walk_runs = c.enter-slots.ensures.runs ∙ c.loop-place.invariant.walk_runs;
      walk_place = omega arith;
      slot_is = omega (arith, c.loop-place.invariant.slot_is, run_count runs k r lt (is_at_place runs k lt), slots);
      count = ap (λ (xs : List ℕ). length xs) counted ∙ c.add_since.auto.counts ∙ ap (λ (xs : List ℕ). length xs) c.deref_mut.ensures.value ∙ c.loop-place.invariant.count;
      since_count = ap (λ (xs : List ℕ). length xs) noted ∙ c.note_since.auto.since ∙ ap (λ (xs : List ℕ). length xs) c.deref_mut-in-loop-place.ensures.value ∙
          c.loop-place.invariant.since_count;
      past = λ f. noted_within (holds (without r.flows before) f) slot c.enter-slots.result (get_or since f 0) _ (c.loop-place.invariant.past f) (later f);
      times_are = λ f. stood_more runs k f slot c.enter-slots.result (get_or counts f 0) (get_or since f 0) _ _ lt slots (c.loop-place.invariant.past f)
          (c.loop-place.invariant.times_are f) (more f) (later f);
    }

pub add_since-requires-2-clause-names : goal.add_since-requires-2-clause-names
add_since-requires-2-clause-names c =
    let runs = c.args.runs.now in
    let n = length c.args.flows.now in
    let k = c.loop-place.place in
    let last = flows_at runs k c.flows.result.now c.loop-place.walk c.loop-place.invariant.walk_runs c.loop-place.invariant.walk_place c.flows.ensures.before
    c.flows.ensures.flows in
    let clear = All-weaker (IsClear c.args.flows.now) (All (λ f. f < n)) (λ slot is. is.flow) (slots_in runs) c.requires.clear in
    let all : All (λ f. f < n) c.flows.result.now =
    subst (All (λ f. f < n)) (sym last) (before_holds (All (λ f. f < n)) runs k c.requires.kept (omega arith) (All-nil (λ f. f < n)) clear) in
    λ j d lt. omega (arith, all j d lt, ap (λ (xs : List ℕ). length xs) c.deref_mut-2.ensures.value, c.loop-place.invariant.count)

pub add_since-requires-2-clause-fits : goal.add_since-requires-2-clause-fits
add_since-requires-2-clause-fits c f =
    omega (
      arith,
      ap (λ (xs : List ℕ). get_or xs f 0) c.deref_mut-2.ensures.value,
      c.loop-place.invariant.times_are f,
      times_within c.args.runs.now c.loop-place.place f,
      c.loop-place.invariant.slot_is,
      count_within c.args.runs.now c.loop-place.place,
      c.requires.kept.short,
    )

pub returns-in_default : goal.returns-in_default
returns-in_default c =
    let runs = c.args.runs.now in
    let k = c.loop-place.place in
    let counts = c.loop-place.counts.items in
    let last = flows_at runs k c.flows.result.now c.loop-place.walk c.loop-place.invariant.walk_runs c.loop-place.invariant.walk_place c.flows.ensures.before
    c.flows.ensures.flows in
    let written = refill c.add_since-2.new.counts counts c.loop-place.counts.len (c.add_since-2.auto.counts ∙ c.deref_mut-2.ensures.len) in
    let counted = λ (f : ℕ). ap (λ (xs : List ℕ). get_or xs f 0) (c.deref-3.ensures.value ∙ written)
    ∙ stood_all runs k f c.loop-place.slot (get_or c.add_since-2.new.counts f 0) c.flows.result.now counts c.deref_mut-2.result.now c.loop-place.since.items c.deref-2.result.now
    (omega arith) last c.deref_mut-2.ensures.value c.deref-2.ensures.value (c.add_since-2.ensures f) (c.loop-place.invariant.times_are f) in
    record { clear = c.requires.clear; served = λ f lt. sym (counted f) ∙ c.in_default.ensures f lt }

pub returns : goal.returns
returns c =
    let runs = c.args.runs.now in
    let k = c.loop-place.place in
    let counts = c.loop-place.counts.items in
    let number = c.in-Some.number in
    let last = flows_at runs k c.flows.result.now c.loop-place.walk c.loop-place.invariant.walk_runs c.loop-place.invariant.walk_place c.flows.ensures.before
    c.flows.ensures.flows in
    let written = refill c.add_since-2.new.counts counts c.loop-place.counts.len (c.add_since-2.auto.counts ∙ c.deref_mut-2.ensures.len) in
    let items : List ℕ = take c.loop-place.counts.len (c.add_since-2.new.counts ++ drop (length c.add_since-2.new.counts) counts) in
    let counted = λ (f : ℕ). ap (λ (xs : List ℕ). get_or xs f 0) (c.deref-3.ensures.value ∙ written)
    ∙ stood_all runs k f c.loop-place.slot (get_or c.add_since-2.new.counts f 0) c.flows.result.now counts c.deref_mut-2.result.now c.loop-place.since.items c.deref-2.result.now
    (omega arith) last c.deref_mut-2.ensures.value c.deref-2.ensures.value (c.add_since-2.ensures f) (c.loop-place.invariant.times_are f) in
    let count : length items ≡ length c.args.flows.now = ap (λ (xs : List ℕ). length xs) written ∙ c.add_since-2.auto.counts ∙
    ap (λ (xs : List ℕ). length xs) c.deref_mut-2.ensures.value ∙ c.loop-place.invariant.count in
    let here : get_or c.deref-3.result.now number 0 ≡ c.index.result.now =
    ap (λ (xs : List ℕ). get_or xs number 0) c.deref-3.ensures.value ∙
    get_or_default items number 0 c.index.result.now (omega (arith, c.in-Some.ensures.0, count)) ∙ sym c.index.ensures in
    record {
      clear = c.requires.clear;
      flow = c.in-Some.ensures.0;
      stands_in = sym (counted number) ∙ here;
      wants = refl;
      differ = λ e. c.in-Some.ensures.1 (here ∙ e);
      first = λ g lt. sym (counted g) ∙ c.in-Some.ensures.2 g lt;
    }
