use Rattle.std.proofs.Common.{◌≡◌, ◌+◌, ◌≤◌, ◌∙◌, ap, arith, length, min, refl, subst, sym, take}
use Rattle.coflow_units.specs.Schedule.{IsClear}
use Rattle.run_list.specs.Runs.{Walked, run_of}
use Rattle.schedule_model.specs.RunList.{slots_in}
use Rattle.schedule_model.proofs.RunSlots.{count_within, entered_run}
use Rattle.picture.specs.Bars.{IsBars, IsRow, Serves, bar_count}
use Rattle.picture.specs.Drawing.{row_at}
use Rattle.picture.proofs.Keeping.{few_bars, keeps_nothing, many_bars}
use Rattle.picture.proofs.RunServes.{IsPart, IsRunAt, all_drawn, count_rows, empty_rows, entered_count, is_run, part_of, row_drawn, row_passed, run_clear}
use Rattle.picture.proofs.bars.bars_of.Goals.{After-enter-slots, After-flows}
use Rattle.picture.proofs.bars.bars_of.Goals as goal

pub overflow_add-slots : goal.overflow_add-slots
overflow_add-slots c = omega (arith, c.loop-place.invariant.slots_are, count_within c.args.runs.now c.loop-place.place, c.requires.short)

counted : (c : After-enter-slots) → c.loop-place.slots + c.enter-slots.result ≡ length (slots_in (take (c.loop-place.place + 1) c.args.runs.now))
counted c = entered_count c.args.runs.now c.loop-place.place c.loop-place.slots c.enter-slots.result c.loop-place.walk (omega arith) c.loop-place.invariant.slots_are
    c.loop-place.invariant.walk_runs c.loop-place.invariant.walk_place c.enter-slots.ensures.slots

pub overflow_add-slots-in-loop-place : goal.overflow_add-slots-in-loop-place
overflow_add-slots-in-loop-place c =
    let count = counted (goal.at.overflow_add-slots-in-loop-place c).After-enter-slots in
    omega (arith, count, count_within c.args.runs.now (c.loop-place.place + 1), c.requires.short)

-- the run that the walk is in
here : (c : After-flows) → IsRunAt c.args.runs.now c.loop-place.slots (run_of c.enter-slots.result c.flows.result.now)
here c =
    let runs = c.args.runs.now in
    let k = c.loop-place.place in
    let r = run_of c.enter-slots.result c.flows.result.now in
    let is = entered_run runs k c.enter-slots.result c.flows.result.now c.loop-place.walk c.enter-slots.new.self c.loop-place.invariant.walk_runs c.loop-place.invariant.walk_place
    c.enter-slots.ensures.runs c.enter-slots.ensures.entered c.enter-slots.ensures.slots c.flows.ensures.flows in
    is_run runs k c.loop-place.slots r (omega arith) is c.loop-place.invariant.slots_are

clear_here : (c : After-flows) → IsClear c.args.flows.now c.flows.result.now
clear_here c =
    let before = c.loop-place.slots in
    let slots = c.enter-slots.result in
    let part : IsPart c.args.window before (before + slots) c.max-first.result c.min-last.result (min c.args.window.last before) =
    part_of c.args.window before (before + slots) c.max-first.result c.min-last.result c.max-first.ensures c.min-last.ensures in
    run_clear c.args.flows.now c.args.runs.now before (run_of slots c.flows.result.now) c.requires.clear (here c) (omega (arith, part.after, part.upto, c.if-first-last.false))

pub draw-requires-clause-clear : goal.draw-requires-clause-clear
draw-requires-clause-clear c = clear_here (goal.at.draw-requires-clause-clear c).After-flows

pub loop-place-init : goal.loop-place-init
loop-place-init c = record {
  all = c.in_ok-canvas.canvas.rows.items;
  keeps = keeps_nothing c.args.ports c.in_ok-canvas.canvas.rows.items c.in_ok-canvas.canvas.count c.in_ok-canvas.ensures.empty c.in_ok-canvas.ensures.zero;
  row_each = count_rows c.args.ports c.in_ok-canvas.canvas.rows.items c.in_ok-canvas.ensures.empty;
  walk_runs = ap (λ (w : Walked). w.runs) c.in_ok-walk.ensures;
  walk_place = ap (λ (w : Walked). w.entered) c.in_ok-walk.ensures;
  slots_are = refl;
  row = λ port lt. empty_rows c.args.flows.now (slots_in c.args.runs.now) c.args.window.side c.args.window.first c.args.window.last c.args.ports port
      c.in_ok-canvas.canvas.rows.items
      c.in_ok-canvas.ensures.empty lt;
}

pub loop-place-preserved-then-first-last : goal.loop-place-preserved-then-first-last
loop-place-preserved-then-first-last c =
    let flows = c.args.flows.now in
    let runs = c.args.runs.now in
    let window = c.args.window in
    let before = c.loop-place.slots in
    let slots = c.enter-slots.result in
    let first = c.max-first.result in
    let last = c.min-last.result in
    let part : IsPart window before (before + slots) first last (min window.last before) = part_of window before (before + slots) first last c.max-first.ensures
    c.min-last.ensures in
    record {
      all = c.loop-place.invariant.all;
      keeps = c.loop-place.invariant.keeps;
      row_each = c.loop-place.invariant.row_each;
      walk_runs = c.enter-slots.ensures.runs ∙ c.loop-place.invariant.walk_runs;
      walk_place = omega arith;
      slots_are = counted (goal.at.loop-place-preserved-then-first-last c).After-enter-slots;
      row = λ port lt.
          subst (λ l. IsRow (Serves flows (slots_in runs) window.side port) window.first l (row_at c.loop-place.invariant.all port)) c.min-last.ensures
          (row_passed flows runs window before slots first last (min window.last before) port (row_at c.loop-place.invariant.all port) part c.if-first-last.true
          (c.loop-place.invariant.row port lt));
    }

pub loop-place-preserved : goal.loop-place-preserved
loop-place-preserved c =
    let flows = c.args.flows.now in
    let runs = c.args.runs.now in
    let window = c.args.window in
    let before = c.loop-place.slots in
    let r = run_of c.enter-slots.result c.flows.result.now in
    let first = c.max-first.result in
    let last = c.min-last.result in
    let some : first ≤ last = omega (arith, c.if-first-last.false) in
    let part : IsPart window before (before + r.length) first last (min window.last before) = part_of window before (before + r.length) first last
    c.max-first.ensures c.min-last.ensures in
    let at = goal.at.loop-place-preserved c in
    let old = c.loop-place.invariant.all in
    let (more, kept, drawn) = c.in_ok-draw.ensures.drawn old c.loop-place.invariant.keeps in
    record {
      all = more;
      keeps = kept;
      row_each = drawn.row_each ∙ c.loop-place.invariant.row_each;
      walk_runs = c.enter-slots.ensures.runs ∙ c.loop-place.invariant.walk_runs;
      walk_place = omega arith;
      slots_are = counted at.After-enter-slots;
      row = λ port lt.
          subst (λ l. IsRow (Serves flows (slots_in runs) window.side port) window.first l (row_at more port)) c.min-last.ensures
          (row_drawn flows runs window before r first last (min window.last before) port old more (clear_here at.After-flows) (here at.After-flows) part some drawn
          (c.loop-place.invariant.row port lt));
    }

pub returns-clause-bars : goal.returns-clause-bars
returns-clause-bars c =
    let i = c.loop-place.invariant in
    let few : bar_count i.all ≤ 262144 = few_bars (bar_count i.all) c.loop-place.canvas.count i.keeps.counted (omega (arith, c.if-count-gt-MAX_BARS.false)) in
    subst (IsBars c.args.flows.now (slots_in c.args.runs.now) c.args.ports c.args.window) (sym (i.keeps.whole few))
    (all_drawn c.args.flows.now c.args.runs.now c.args.ports c.loop-place.place c.loop-place.slots c.args.window i.all (omega (
      arith,
      c.loop-place-test.false,
      c.count-place-end.ensures,
    )) i.slots_are i.row_each i.row)

pub returns-clause-few : goal.returns-clause-few
returns-clause-few c =
    let i = c.loop-place.invariant in
    let few : bar_count i.all ≤ 262144 = few_bars (bar_count i.all) c.loop-place.canvas.count i.keeps.counted (omega (arith, c.if-count-gt-MAX_BARS.false)) in
    subst (λ rows. bar_count rows ≤ 262144) (sym (i.keeps.whole few)) few

pub returns-then-count-gt-MAX_BARS-clause-fault : goal.returns-then-count-gt-MAX_BARS-clause-fault
returns-then-count-gt-MAX_BARS-clause-fault c =
    let i = c.loop-place.invariant in (
      i.all,
      all_drawn c.args.flows.now c.args.runs.now c.args.ports c.loop-place.place c.loop-place.slots c.args.window i.all (omega (
        arith,
        c.loop-place-test.false,
        c.count-place-end.ensures,
      )) i.slots_are i.row_each i.row,
      many_bars (bar_count i.all) c.loop-place.canvas.count i.keeps.counted c.if-count-gt-MAX_BARS.true,
      i.keeps.counted,
    )
