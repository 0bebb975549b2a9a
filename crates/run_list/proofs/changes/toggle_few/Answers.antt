use Rattle.std.proofs.Common.{◌≡◌, ◌+◌, ◌≤◌, ◌<◌, ◌∙◌, ◌∷◌, [], get_or, length, take, drop, ap, sym, subst, refl, List, ℕ, arith}
use Rattle.std.proofs.lemmas.List.{append-nil, drop_all, length-drop, length-set, take_more_set, take_rest}
use Rattle.run_list.proofs.Merging.{IsMerging, IsMerging-beyond, IsMerging-copied, IsMerging-end, IsMerging-same, copied_fits, copied_rest, length-merged}
use Rattle.run_list.specs.Kept.{toggled}
use Rattle.run_list.proofs.Turning.{IsChanging, IsChanging-beyond, IsChanging-copied, IsChanging-same, IsChanging-start}
use Rattle.run_list.proofs.Turning.{changed_come, changed_gone, left_ascends, more_come, more_gone}
use Rattle.run_list.proofs.changes.toggle_few.Goals as goal
use Rattle.run_list.proofs.changes.toggle_few.Goals.{then-place-flows+then-flows-place, else-place-flows}
use Rattle.run_list.proofs.changes.toggle_few.Goals.{else-place-flows-via-then-place-flows+else-flows-place, else-place-flows-via-else-place-flows}

pub loop-change-init : goal.loop-change-init
loop-change-init c = record {
  fits = omega arith;
  merging = record { within = omega arith; inside = omega arith; written = refl };
  changing = rw (c.requires.none_gone, c.requires.none_come) (IsChanging-start c.args.flows.now c.args.changes.now c.requires.ascending c.requires.changes);
  gone_room = refl;
  come_room = refl;
}

pub count_below-requires : goal.count_below-requires
count_below-requires c =
    let l = c.loop-change in
    record { ascending = left_ascends c.args.flows.now c.args.changes.now l.turnover.gone.items l.turnover.come.items l.place l.change-index l.invariant.changing }

pub append-count-requires : goal.append-count-requires
append-count-requires c =
    let flows = c.args.flows.now in
    let changes = c.args.changes.now in
    let l = c.loop-change in
    let below = c.count_below.ensures in
    let copied = IsMerging-copied flows changes (take l.count l.into) l.place l.change-index c.count_below.result (omega arith) below.within below.below l.invariant.merging in
    let fits = copied_fits flows changes l.into _ _ _ l.count l.invariant.fits copied in
    record { room = omega arith }

pub push_reserved-requires : goal.push_reserved-requires
push_reserved-requires c =
    let flows = c.args.flows.now in
    let changes = c.args.changes.now in
    let l = c.loop-change in
    let gone = l.turnover.gone.items in
    let come = l.turnover.come.items in
    let below = c.count_below.ensures in
    let at = l.place + c.count_below.result in
    let changing = IsChanging-copied flows changes gone come l.place l.change-index c.count_below.result (omega arith) below.within below.below l.invariant.changing in
    let next = IsChanging-same flows changes gone come at l.change-index (omega arith) (omega arith) (omega arith) changing in
    let more = more_gone flows (toggled flows changes) gone come _ _ (get_or changes l.change-index 0) next.turning in
    omega (arith, more, l.turnover.gone.ok.0, l.invariant.gone_room, c.requires.turnover.for_gone)

pub push_reserved-requires-else-place-flows : goal.push_reserved-requires-else-place-flows
push_reserved-requires-else-place-flows c =
    let flows = c.args.flows.now in
    let changes = c.args.changes.now in
    let l = c.loop-change in
    let gone = l.turnover.gone.items in
    let come = l.turnover.come.items in
    let below = c.count_below.ensures in
    let at = l.place + c.count_below.result in
    let changing = IsChanging-copied flows changes gone come l.place l.change-index c.count_below.result (omega arith) below.within below.below l.invariant.changing in
    let rest = copied_rest flows l.place c.count_below.result (get_or changes l.change-index 0) below.rest in
    let above : at < length flows → get_or changes l.change-index 0 < get_or flows at 0 = elim c.else-place-flows.branch [
      | else-place-flows-via-then-place-flows+else-flows-place w ↦ (λ lt. omega (arith, rest lt))
      | else-place-flows-via-else-place-flows w ↦ (λ lt. omega arith)
    ] in
    let next = IsChanging-beyond flows changes gone come at l.change-index (omega arith) above changing in
    let more = more_come flows (toggled flows changes) gone come _ _ (get_or changes l.change-index 0) next.turning in
    omega (arith, more, l.turnover.come.ok.0, l.invariant.come_room, c.requires.turnover.for_come)

pub bounds-into-count : goal.bounds-into-count
bounds-into-count c =
    let flows = c.args.flows.now in
    let changes = c.args.changes.now in
    let l = c.loop-change in
    let below = c.count_below.ensures in
    let copied = IsMerging-copied flows changes (take l.count l.into) l.place l.change-index c.count_below.result (omega arith) below.within below.below l.invariant.merging in
    let fits = copied_fits flows changes l.into _ _ _ l.count l.invariant.fits copied in
    let at = l.place + c.count_below.result in
    let merging : IsMerging flows changes (take c.append-count.result c.append-count.new.into) at l.change-index = rw c.append-count.ensures.written copied in
    let rest = copied_rest flows l.place c.count_below.result (get_or changes l.change-index 0) below.rest in
    let above : at < length flows → get_or changes l.change-index 0 < get_or flows at 0 = elim c.else-place-flows.branch [
      | else-place-flows-via-then-place-flows+else-flows-place w ↦ (λ lt. omega (arith, rest lt))
      | else-place-flows-via-else-place-flows w ↦ (λ lt. omega arith)
    ] in
    let written = IsMerging-beyond flows changes (take c.append-count.result c.append-count.new.into) at l.change-index (omega arith) above merging in
    let all = copied_fits flows changes c.append-count.new.into (get_or changes l.change-index 0 ∷ []) _ _ c.append-count.result (omega arith) written in
    omega arith

pub loop-change-preserved : goal.loop-change-preserved
loop-change-preserved c =
    let flows = c.args.flows.now in
    let changes = c.args.changes.now in
    let l = c.loop-change in
    let below = c.count_below.ensures in
    let copied = IsMerging-copied flows changes (take l.count l.into) l.place l.change-index c.count_below.result (omega arith) below.within below.below l.invariant.merging in
    let room = copied_fits flows changes l.into _ _ _ l.count l.invariant.fits copied in
    let at = l.place + c.count_below.result in
    let into = c.append-count.new.into in
    let count = c.append-count.result in
    let held : count ≤ length into = omega arith in
    let merging : IsMerging flows changes (take count into) at l.change-index = rw c.append-count.ensures.written copied in
    let rest = copied_rest flows l.place c.count_below.result (get_or changes l.change-index 0) below.rest in
    let gone = l.turnover.gone.items in
    let come = l.turnover.come.items in
    let changing = IsChanging-copied flows changes gone come l.place l.change-index c.count_below.result (omega arith) below.within below.below l.invariant.changing in
    elim c.if-place-flows.branch [
      | then-place-flows+then-flows-place w ↦
          let next = IsMerging-same flows changes (take count into) at l.change-index (omega arith) (omega arith) (omega arith) merging in
          let turned = IsChanging-same flows changes gone come at l.change-index (omega arith) (omega arith) (omega arith) changing in
          rw (w.into-is, w.turnover-is, w.place-is, w.count-is) (record {
            fits = held;
            merging = next;
            changing = subst (λ (zs : List ℕ). IsChanging flows changes zs come (at + 1) (l.change-index + 1)) (sym w.push_reserved.ensures.items) turned;
            gone_room = w.push_reserved.ensures.capacity ∙ l.invariant.gone_room;
            come_room = l.invariant.come_room;
          })
      | else-place-flows w ↦
          let above : at < length flows → get_or changes l.change-index 0 < get_or flows at 0 = elim w.else-place-flows.branch [
            | else-place-flows-via-then-place-flows+else-flows-place also ↦ (λ lt. omega (arith, rest lt))
            | else-place-flows-via-else-place-flows also ↦ (λ lt. omega arith)
          ] in
          let written = IsMerging-beyond flows changes (take count into) at l.change-index (omega arith) above merging in
          let all = copied_fits flows changes into (get_or changes l.change-index 0 ∷ []) _ _ count held written in
          let more : count < length into = omega arith in
          let next = subst (λ (zs : List ℕ). IsMerging flows changes zs at (l.change-index + 1)) (sym (take_more_set into count (get_or changes l.change-index 0) more)) written in
          let turned = IsChanging-beyond flows changes gone come at l.change-index (omega arith) above changing in
          rw (w.into-is, w.turnover-is, w.place-is, w.count-is) (record {
            fits = simp length-set (omega arith);
            merging = next;
            changing = subst (λ (zs : List ℕ). IsChanging flows changes gone zs at (l.change-index + 1)) (sym w.push_reserved-else-place-flows.ensures.items) turned;
            gone_room = l.invariant.gone_room;
            come_room = w.push_reserved-else-place-flows.ensures.capacity ∙ l.invariant.come_room;
          })
    ]

pub append-requires : goal.append-requires
append-requires c =
    let flows = c.args.flows.now in
    let changes = c.args.changes.now in
    let l = c.loop-change in
    let all = length-merged flows changes l.into l.place l.change-index l.count (λ lt. omega arith) l.invariant.fits l.invariant.merging in
    record { room = rw take_rest (omega arith) }

pub returns-clause-count : goal.returns-clause-count
returns-clause-count c =
    let flows = c.args.flows.now in
    let changes = c.args.changes.now in
    let l = c.loop-change in
    let all = length-merged flows changes l.into l.place l.change-index l.count (λ lt. omega arith) l.invariant.fits l.invariant.merging in
    omega (arith, all, c.append.ensures.count, ap length (take_rest flows l.place), length-drop l.change-index changes)

pub returns-clause-written : goal.returns-clause-written
returns-clause-written c =
    let flows = c.args.flows.now in
    let changes = c.args.changes.now in
    let l = c.loop-change in
    let none : drop l.change-index changes ≡ [] = drop_all l.change-index changes (omega arith) in
    let all = IsMerging-end flows changes (take l.count l.into) l.place l.change-index (λ lt. omega arith) l.invariant.merging in
    let whole = rw (none, append-nil) at all in
    rw (c.append.ensures.written, take_rest flows l.place) whole

pub returns-clause-turn : goal.returns-clause-turn
returns-clause-turn c =
    let flows = c.args.flows.now in
    let changes = c.args.changes.now in
    let l = c.loop-change in
    let none : drop l.change-index changes ≡ [] = drop_all l.change-index changes (omega arith) in
    let all = changed_come flows changes l.turnover.gone.items l.turnover.come.items l.place l.change-index (λ lt. omega arith) l.invariant.changing in
    record {
      gone = changed_gone flows changes l.turnover.gone.items l.turnover.come.items l.place l.change-index (λ lt. omega arith) l.invariant.changing;
      come = rw (none, append-nil) at all;
    }
