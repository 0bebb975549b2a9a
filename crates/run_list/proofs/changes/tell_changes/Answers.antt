use Rattle.std.proofs.Common.{◌≤◌, ◌<◌, length, arith}
use Rattle.std.proofs.lemmas.List.{take_rest}
use Rattle.run_list.proofs.Merging.{length-merged_behind, merged_behind}
use Rattle.run_list.proofs.changes.tell_changes.Goals as goal
use Rattle.run_list.proofs.changes.tell_changes.Goals.{then-loop-place-test+else-next-flows, else-loop-place-test}

pub returns-then-len-left-clause-many : goal.returns-then-len-left-clause-many
returns-then-len-left-clause-many c = λ no.
    let before = c.args.before.now in
    let flows = c.args.flows.now in
    let l = c.loop-place in
    let over : l.place < length before → length flows ≤ l.next =
    elim c.loop-place-test.branch [ then-loop-place-test+else-next-flows w ↦ (λ lt. omega arith) | else-loop-place-test w ↦ (λ lt. omega arith) ] in
    omega (arith, length-merged_behind before flows c.args.numbers.now.items l.numbers.items l.place l.next over l.invariant.front l.invariant.merging)

pub returns-clause-few : goal.returns-clause-few
returns-clause-few c = λ ok.
    let before = c.args.before.now in
    let flows = c.args.flows.now in
    let l = c.loop-place in
    let over : l.place < length before → length flows ≤ l.next =
    elim c.loop-place-test.branch [ then-loop-place-test+else-next-flows w ↦ (λ lt. omega arith) | else-loop-place-test w ↦ (λ lt. omega arith) ] in
    omega (arith, length-merged_behind before flows c.args.numbers.now.items l.numbers.items l.place l.next over l.invariant.front l.invariant.merging)

pub returns-clause-told : goal.returns-clause-told
returns-clause-told c = λ ok.
    let before = c.args.before.now in
    let flows = c.args.flows.now in
    let l = c.loop-place in
    let over : l.place < length before → length flows ≤ l.next =
    elim c.loop-place-test.branch [ then-loop-place-test+else-next-flows w ↦ (λ lt. omega arith) | else-loop-place-test w ↦ (λ lt. omega arith) ] in
    let all = merged_behind before flows c.args.numbers.now.items l.numbers.items l.place l.next over l.invariant.front l.invariant.merging in
    rw (c.in_ok-extend_from_slice-2.ensures.items, c.in_ok-extend_from_slice.ensures.items, take_rest flows l.next, take_rest before l.place) all
