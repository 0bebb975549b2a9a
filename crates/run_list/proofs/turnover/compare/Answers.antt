use Rattle.std.proofs.Common.{◌+◌, ◌≤◌, ◌<◌, ◌∙◌, ◌++◌, List, ℕ, get_or, length, drop, ap, sym, subst, arith}
use Rattle.std.proofs.lemmas.List.{take_rest}
use Rattle.run_list.proofs.Turning.{IsComparing, IsComparing-both, IsComparing-come, IsComparing-gone, IsComparing-start}
use Rattle.run_list.proofs.Turning.{compared_come, compared_gone, more_come, more_gone, rest_fits}
use Rattle.run_list.proofs.turnover.compare.Goals as goal
use Rattle.run_list.proofs.turnover.compare.Goals.{then-loop-place-test+else-next-flows, else-loop-place-test}

pub loop-place-init : goal.loop-place-init
loop-place-init c = record {
  within = omega arith;
  inside = omega arith;
  comparing = rw (c.clear.ensures.gone, c.clear.ensures.come) (IsComparing-start c.args.before.now c.args.flows.now c.requires.before c.requires.flows);
  gone_room = c.clear.ensures.gone_room;
  come_room = c.clear.ensures.come_room;
}

pub loop-place-preserved-then-old-new : goal.loop-place-preserved-then-old-new
loop-place-preserved-then-old-new c =
    let l = c.loop-place in
    record {
      within = omega arith;
      inside = omega arith;
      comparing = IsComparing-both c.args.before.now c.args.flows.now l.turnover.gone.items l.turnover.come.items l.place l.next (omega arith) (omega arith) (omega arith) l.invariant.comparing;
      gone_room = l.invariant.gone_room;
      come_room = l.invariant.come_room;
    }

pub push_reserved-requires : goal.push_reserved-requires
push_reserved-requires c =
    let before = c.args.before.now in
    let flows = c.args.flows.now in
    let l = c.loop-place in
    let next = IsComparing-gone before flows l.turnover.gone.items l.turnover.come.items l.place l.next (omega arith) (λ lt. omega arith) l.invariant.comparing in
    let more = more_gone before flows l.turnover.gone.items l.turnover.come.items _ _ (get_or before l.place 0) next in
    omega (arith, more, l.turnover.gone.ok.0, l.invariant.gone_room, c.requires.room.for_gone)

pub loop-place-preserved-then-old-new-2 : goal.loop-place-preserved-then-old-new-2
loop-place-preserved-then-old-new-2 c =
    let before = c.args.before.now in
    let flows = c.args.flows.now in
    let l = c.loop-place in
    let next = IsComparing-gone before flows l.turnover.gone.items l.turnover.come.items l.place l.next (omega arith) (λ lt. omega arith) l.invariant.comparing in
    record {
      within = omega arith;
      inside = omega arith;
      comparing = subst (λ (gone : List ℕ). IsComparing before flows gone l.turnover.come.items (l.place + 1) l.next) (sym c.push_reserved.ensures.items) next;
      gone_room = c.push_reserved.ensures.capacity ∙ l.invariant.gone_room;
      come_room = l.invariant.come_room;
    }

pub push_reserved-requires-else-old-new-2 : goal.push_reserved-requires-else-old-new-2
push_reserved-requires-else-old-new-2 c =
    let before = c.args.before.now in
    let flows = c.args.flows.now in
    let l = c.loop-place in
    let next = IsComparing-come before flows l.turnover.gone.items l.turnover.come.items l.place l.next (omega arith) (λ lt. omega arith) l.invariant.comparing in
    let more = more_come before flows l.turnover.gone.items l.turnover.come.items _ _ (get_or flows l.next 0) next in
    omega (arith, more, l.turnover.come.ok.0, l.invariant.come_room, c.requires.room.for_come)

pub loop-place-preserved : goal.loop-place-preserved
loop-place-preserved c =
    let before = c.args.before.now in
    let flows = c.args.flows.now in
    let l = c.loop-place in
    let next = IsComparing-come before flows l.turnover.gone.items l.turnover.come.items l.place l.next (omega arith) (λ lt. omega arith) l.invariant.comparing in
    record {
      within = omega arith;
      inside = omega arith;
      comparing = subst (λ (come : List ℕ). IsComparing before flows l.turnover.gone.items come l.place (l.next + 1)) (sym c.push_reserved-else-old-new-2.ensures.items) next;
      gone_room = l.invariant.gone_room;
      come_room = c.push_reserved-else-old-new-2.ensures.capacity ∙ l.invariant.come_room;
    }

pub push_all-requires : goal.push_all-requires
push_all-requires c =
    let before = c.args.before.now in
    let flows = c.args.flows.now in
    let l = c.loop-place in
    let over : l.place < length before → length flows ≤ l.next =
    elim c.loop-place-test.branch [ then-loop-place-test+else-next-flows w ↦ (λ lt. omega arith) | else-loop-place-test w ↦ (λ lt. omega arith) ] in
    let all = compared_gone before flows l.turnover.gone.items l.turnover.come.items l.place l.next over l.invariant.comparing in
    let fits = rest_fits before flows l.turnover.gone.items (drop l.place before) all in
    record { room = rw take_rest (omega (arith, fits, l.invariant.gone_room, c.requires.room.for_gone)) }

pub push_all-requires-2 : goal.push_all-requires-2
push_all-requires-2 c =
    let before = c.args.before.now in
    let flows = c.args.flows.now in
    let l = c.loop-place in
    let over : l.place < length before → length flows ≤ l.next =
    elim c.loop-place-test.branch [ then-loop-place-test+else-next-flows w ↦ (λ lt. omega arith) | else-loop-place-test w ↦ (λ lt. omega arith) ] in
    let all = compared_come before flows l.turnover.gone.items l.turnover.come.items l.place l.next over l.invariant.comparing in
    let fits = rest_fits flows before l.turnover.come.items (drop l.next flows) all in
    record { room = rw take_rest (omega (arith, fits, l.invariant.come_room, c.requires.room.for_come)) }

pub returns-clause-turn : goal.returns-clause-turn
returns-clause-turn c =
    let before = c.args.before.now in
    let flows = c.args.flows.now in
    let l = c.loop-place in
    let over : l.place < length before → length flows ≤ l.next =
    elim c.loop-place-test.branch [ then-loop-place-test+else-next-flows w ↦ (λ lt. omega arith) | else-loop-place-test w ↦ (λ lt. omega arith) ] in
    record {
      gone = c.push_all.ensures.items ∙ ap (λ (zs : List ℕ). l.turnover.gone.items ++ zs) (take_rest before l.place)
          ∙ compared_gone before flows l.turnover.gone.items l.turnover.come.items l.place l.next over l.invariant.comparing;
      come = c.push_all-2.ensures.items ∙ ap (λ (zs : List ℕ). l.turnover.come.items ++ zs) (take_rest flows l.next)
          ∙ compared_come before flows l.turnover.gone.items l.turnover.come.items l.place l.next over l.invariant.comparing;
    }
