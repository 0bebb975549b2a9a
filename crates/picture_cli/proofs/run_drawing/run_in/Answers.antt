use Rattle.std.proofs.Common.{◌≡◌, ◌∙◌, ◌≤◌, List, ap, length, map, min, arith}
use Rattle.std.specs.Prelude.{slice_index}
use Rattle.online_check.specs.Done.{slots_done}
use Rattle.online_text.specs.declared.value.Epoch.{Epoch}
use Rattle.picture.specs.declared.run_value.RunCosts.{RunCosts}
use Rattle.picture.specs.declared.value.Span.{Span}
use Rattle.schedule_model.specs.RunList.{slots_in}
use Rattle.picture_cli.specs.Picture.{arrival_in, completed_in}
use Rattle.picture_cli.proofs.RunFacts.{completed_as, cost_as, few_of, numbers_as, run_as, run_cost_small, run_short}
use Rattle.picture_cli.proofs.run_drawing.run_in.Goals as goal

pub span_in-span-requires : goal.span_in-span-requires
span_in-span-requires c = run_short c.args.online.now c.requires.online

pub run_picture_of-requires-clause-span : goal.run_picture_of-requires-clause-span
run_picture_of-requires-clause-span c =
    let last : c.span_in-span.result.last ≡ min c.args.words.to (length (slots_in c.args.online.now.runs)) = c.span_in-span.ensures.last in
    record {
      counted = omega (arith, c.span_in-span.ensures.first, c.args.words.some_first);
      some = c.if-span.false;
      short = omega (arith, last, run_short c.args.online.now c.requires.online);
    }

pub run_picture_of-requires-clause-few : goal.run_picture_of-requires-clause-few
run_picture_of-requires-clause-few c =
    let table = c.args.input.now.table in
    let online = c.args.online.now in
    let slots : c.in_ok-slots.slots.items ≡ slots_done online.done = c.in_ok-slots.ensures ∙ ap slots_done c.as_slice.ensures in
    let completed : c.in_ok-completed.completed.items ≡ completed_in table online =
    completed_as table online c.deref.result.now c.in_ok-completed.completed.items c.coflows-coflows.result c.in_ok-completed.ensures
    (c.deref.ensures.value ∙ slots) c.coflows-coflows.ensures.coflows in
    few_of table online (arrival_in table c.args.words.slot_ms) c.deref-7.result.now c.coflows-coflows.ensures.table
    (c.deref-7.ensures.value ∙ numbers_as c.deref-2.result.now _ c.deref-3.result.now _ c.in_ok-arrivals.arrivals.items c.in_ok-arrivals.ensures
    (c.deref-2.ensures.value ∙ c.in_ok-times.ensures.arrivals) (c.deref-3.ensures.value ∙ completed))

pub run_picture_of-requires-clause-small : goal.run_picture_of-requires-clause-small
run_picture_of-requires-clause-small c =
    run_cost_small c.args.input.now.table c.args.input.now.weights (arrival_in c.args.input.now.table c.args.words.slot_ms) c.args.online.now
    c.coflows-coflows.ensures.table c.requires.online c.requires.weights c.requires.right

pub returns-clause-shows : goal.returns-clause-shows
returns-clause-shows c =
    let table = c.args.input.now.table in
    let online = c.args.online.now in
    let picture = c.in_ok-picture.picture in
    let slots : c.in_ok-slots.slots.items ≡ slots_done online.done = c.in_ok-slots.ensures ∙ ap slots_done c.as_slice.ensures in
    let completed : c.in_ok-completed.completed.items ≡ completed_in table online =
    completed_as table online c.deref.result.now c.in_ok-completed.completed.items c.coflows-coflows.result c.in_ok-completed.ensures
    (c.deref.ensures.value ∙ slots) c.coflows-coflows.ensures.coflows in
    let arrived : c.deref-7.result.now ≡ map (arrival_in table c.args.words.slot_ms) (completed_in table online) =
    c.deref-7.ensures.value ∙ numbers_as c.deref-2.result.now _ c.deref-3.result.now _ c.in_ok-arrivals.arrivals.items c.in_ok-arrivals.ensures
    (c.deref-2.ensures.value ∙ c.in_ok-times.ensures.arrivals) (c.deref-3.ensures.value ∙ completed) in
    let ended : c.deref-8.result.now ≡ map (slice_index (slots_done online.done)) (completed_in table online) =
    c.deref-8.ensures.value ∙ numbers_as c.deref-4.result.now _ c.deref-5.result.now _ c.in_ok-ends.ends.items c.in_ok-ends.ensures
    (c.deref-4.ensures.value ∙ slots) (c.deref-5.ensures.value ∙ completed) in
    let told : c.deref-9.result.now ≡ map (λ (e : Epoch). e.time) online.epochs =
    c.deref-9.ensures.value ∙ c.in_ok-published.ensures ∙ ap (λ (xs : List Epoch). map (λ (e : Epoch). e.time) xs) c.as_slice-2.ensures in
    let first : picture.span.first ≡ c.args.words.from = ap (λ (s : Span). s.first) c.in_ok-picture.ensures.span ∙ c.span_in-span.ensures.first in
    let span_last : picture.span.last ≡ c.span_in-span.result.last = ap (λ (s : Span). s.last) c.in_ok-picture.ensures.span in
    let some : c.span_in-span.result.first ≤ c.span_in-span.result.last = c.if-span.false in
    record {
      first_is = first;
      last_is = span_last ∙ c.span_in-span.ensures.last;
      some = omega (arith, ap (λ (s : Span). s.first) c.in_ok-picture.ensures.span, span_last, some);
      run = run_as c.deref-7.result.now _ c.deref-8.result.now _ c.deref-9.result.now _ picture arrived ended told c.in_ok-picture.ensures.shows;
      cost_is = ap (λ (x : RunCosts). x.cost) c.in_ok-picture.ensures.costs;
      total_is = ap (λ (x : RunCosts). x.total) c.in_ok-picture.ensures.costs;
      arrivals_are = ap (λ (x : RunCosts). x.arrivals) c.in_ok-picture.ensures.costs ∙
          cost_as table c.as_slice-3.result.now _ c.deref-6.result.now _ c.arrivals_cost.result c.arrivals_cost.ensures c.as_slice-3.ensures
          (c.deref-6.ensures.value ∙ c.in_ok-times.ensures.arrivals);
    }
