use Rattle.std.proofs.Common.{◌+◌, ◌≤◌, ◌<◌, ◌∙◌, ◌∷◌, ◌++◌, [], List, ℕ, get_or, length, take, drop, ap, sym, subst, refl, arith}
use Rattle.std.proofs.lemmas.List.{length-set, take_more_set, take_rest}
use Rattle.run_list.specs.Kept.{toggled}
use Rattle.run_list.proofs.Merging.{IsMerging, IsMerging-above, IsMerging-below, IsMerging-end, IsMerging-same, copied_fits, length-merged}
use Rattle.run_list.proofs.Turning.{IsChanging, IsChanging-below, IsChanging-beyond, IsChanging-same, IsChanging-start}
use Rattle.run_list.proofs.Turning.{changed_come, changed_gone, more_come, more_gone, rest_fits}
use Rattle.run_list.proofs.changes.merge.Goals as goal
use Rattle.run_list.proofs.changes.merge.Goals.{then-loop-place-test+else-next-changes, else-loop-place-test}

pub loop-place-init : goal.loop-place-init
loop-place-init c = record {
  fits = omega arith;
  merging = record { within = omega arith; inside = omega arith; written = refl };
  changing = rw (c.requires.none_gone, c.requires.none_come) (IsChanging-start c.args.flows.now c.args.changes.now c.requires.ascending c.requires.changes);
  gone_room = refl;
  come_room = refl;
}

pub push_reserved-requires : goal.push_reserved-requires
push_reserved-requires c =
    let flows = c.args.flows.now in
    let changes = c.args.changes.now in
    let l = c.loop-place in
    let next = IsChanging-same flows changes l.turnover.gone.items l.turnover.come.items l.place l.next (omega arith) (omega arith) (omega arith) l.invariant.changing in
    let more = more_gone flows (toggled flows changes) l.turnover.gone.items l.turnover.come.items _ _ (get_or changes l.next 0) next.turning in
    omega (arith, more, l.turnover.gone.ok.0, l.invariant.gone_room, c.requires.turnover.for_gone)

pub loop-place-preserved-then-flow-change : goal.loop-place-preserved-then-flow-change
loop-place-preserved-then-flow-change c =
    let flows = c.args.flows.now in
    let changes = c.args.changes.now in
    let l = c.loop-place in
    let next = IsChanging-same flows changes l.turnover.gone.items l.turnover.come.items l.place l.next (omega arith) (omega arith) (omega arith) l.invariant.changing in
    record {
      fits = l.invariant.fits;
      merging = IsMerging-same flows changes (take l.count l.into) l.place l.next (omega arith) (omega arith) (omega arith) l.invariant.merging;
      changing = subst (λ (gone : List ℕ). IsChanging flows changes gone l.turnover.come.items (l.place + 1) (l.next + 1)) (sym c.push_reserved.ensures.items) next;
      gone_room = c.push_reserved.ensures.capacity ∙ l.invariant.gone_room;
      come_room = l.invariant.come_room;
    }

pub loop-place-preserved-then-flow-change-2 : goal.loop-place-preserved-then-flow-change-2
loop-place-preserved-then-flow-change-2 c =
    let flows = c.args.flows.now in
    let changes = c.args.changes.now in
    let l = c.loop-place in
    let written = IsMerging-below flows changes (take l.count l.into) l.place l.next (omega arith) (omega arith) (omega arith) l.invariant.merging in
    let all = copied_fits flows changes l.into (get_or flows l.place 0 ∷ []) _ _ l.count l.invariant.fits written in
    let more : l.count < length l.into = omega arith in
    record {
      fits = simp length-set (omega arith);
      merging = subst (λ (zs : List ℕ). IsMerging flows changes zs (l.place + 1) l.next) (sym (take_more_set l.into l.count (get_or flows l.place 0) more)) written;
      changing = IsChanging-below flows changes l.turnover.gone.items l.turnover.come.items l.place l.next (omega arith) (omega arith) (omega arith) l.invariant.changing;
      gone_room = l.invariant.gone_room;
      come_room = l.invariant.come_room;
    }

pub push_reserved-requires-else-flow-change-2 : goal.push_reserved-requires-else-flow-change-2
push_reserved-requires-else-flow-change-2 c =
    let flows = c.args.flows.now in
    let changes = c.args.changes.now in
    let l = c.loop-place in
    let next = IsChanging-beyond flows changes l.turnover.gone.items l.turnover.come.items l.place l.next (omega arith) (λ lt. omega arith) l.invariant.changing in
    let more = more_come flows (toggled flows changes) l.turnover.gone.items l.turnover.come.items _ _ (get_or changes l.next 0) next.turning in
    omega (arith, more, l.turnover.come.ok.0, l.invariant.come_room, c.requires.turnover.for_come)

pub loop-place-preserved : goal.loop-place-preserved
loop-place-preserved c =
    let flows = c.args.flows.now in
    let changes = c.args.changes.now in
    let l = c.loop-place in
    let written = IsMerging-above flows changes (take l.count l.into) l.place l.next (omega arith) (omega arith) (omega arith) l.invariant.merging in
    let all = copied_fits flows changes l.into (get_or changes l.next 0 ∷ []) _ _ l.count l.invariant.fits written in
    let more : l.count < length l.into = omega arith in
    let next = IsChanging-beyond flows changes l.turnover.gone.items l.turnover.come.items l.place l.next (omega arith) (λ lt. omega arith) l.invariant.changing in
    record {
      fits = simp length-set (omega arith);
      merging = subst (λ (zs : List ℕ). IsMerging flows changes zs l.place (l.next + 1)) (sym (take_more_set l.into l.count (get_or changes l.next 0) more)) written;
      changing = subst (λ (come : List ℕ). IsChanging flows changes l.turnover.gone.items come l.place (l.next + 1)) (sym c.push_reserved-else-flow-change-2.ensures.items) next;
      gone_room = l.invariant.gone_room;
      come_room = c.push_reserved-else-flow-change-2.ensures.capacity ∙ l.invariant.come_room;
    }

pub push_all-requires : goal.push_all-requires
push_all-requires c =
    let flows = c.args.flows.now in
    let changes = c.args.changes.now in
    let l = c.loop-place in
    let over : l.place < length flows → length changes ≤ l.next =
    elim c.loop-place-test.branch [ then-loop-place-test+else-next-changes w ↦ (λ lt. omega arith) | else-loop-place-test w ↦ (λ lt. omega arith) ] in
    let all = changed_come flows changes l.turnover.gone.items l.turnover.come.items l.place l.next over l.invariant.changing in
    let fits = rest_fits (toggled flows changes) flows l.turnover.come.items (drop l.next changes) all in
    record { room = rw take_rest (omega (arith, fits, l.invariant.come_room, c.requires.turnover.for_come)) }

pub append-count-requires : goal.append-count-requires
append-count-requires c =
    let flows = c.args.flows.now in
    let changes = c.args.changes.now in
    let l = c.loop-place in
    let over : l.place < length flows → length changes ≤ l.next =
    elim c.loop-place-test.branch [ then-loop-place-test+else-next-changes w ↦ (λ lt. omega arith) | else-loop-place-test w ↦ (λ lt. omega arith) ] in
    let all = length-merged flows changes l.into l.place l.next l.count over l.invariant.fits l.invariant.merging in
    record { room = rw take_rest (omega arith) }

pub returns-clause-count : goal.returns-clause-count
returns-clause-count c =
    let flows = c.args.flows.now in
    let changes = c.args.changes.now in
    let l = c.loop-place in
    let over : l.place < length flows → length changes ≤ l.next =
    elim c.loop-place-test.branch [ then-loop-place-test+else-next-changes w ↦ (λ lt. omega arith) | else-loop-place-test w ↦ (λ lt. omega arith) ] in
    let all = length-merged flows changes l.into l.place l.next l.count over l.invariant.fits l.invariant.merging in
    omega (arith, c.append.ensures.count, c.append-count.ensures.count, ap length (take_rest flows l.place), ap length (take_rest changes l.next))

pub returns-clause-written : goal.returns-clause-written
returns-clause-written c =
    let flows = c.args.flows.now in
    let changes = c.args.changes.now in
    let l = c.loop-place in
    let over : l.place < length flows → length changes ≤ l.next =
    elim c.loop-place-test.branch [ then-loop-place-test+else-next-changes w ↦ (λ lt. omega arith) | else-loop-place-test w ↦ (λ lt. omega arith) ] in
    let all = IsMerging-end flows changes (take l.count l.into) l.place l.next over l.invariant.merging in
    rw (c.append.ensures.written, c.append-count.ensures.written, take_rest changes l.next, take_rest flows l.place) all

pub returns-clause-turn : goal.returns-clause-turn
returns-clause-turn c =
    let flows = c.args.flows.now in
    let changes = c.args.changes.now in
    let l = c.loop-place in
    let over : l.place < length flows → length changes ≤ l.next =
    elim c.loop-place-test.branch [ then-loop-place-test+else-next-changes w ↦ (λ lt. omega arith) | else-loop-place-test w ↦ (λ lt. omega arith) ] in
    record {
      gone = changed_gone flows changes l.turnover.gone.items l.turnover.come.items l.place l.next over l.invariant.changing;
      come = c.push_all.ensures.items ∙ ap (λ (zs : List ℕ). l.turnover.come.items ++ zs) (take_rest changes l.next)
          ∙ changed_come flows changes l.turnover.gone.items l.turnover.come.items l.place l.next over l.invariant.changing;
    }
