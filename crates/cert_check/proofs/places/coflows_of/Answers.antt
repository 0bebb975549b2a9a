use Rattle.std.proofs.Common.{◌≡◌, ◌<◌, ◌+◌, ℕ, length, nat_eq, arith, subst, sym}
use Rattle.indexmap.specs.IndexMap.{get}
use Rattle.cert_check.specs.Places.{ids_in}
use Rattle.cert_check.proofs.NameSteps.{count_ids, id_at, named_all, named_few, named_more, named_short, named_wrong, NamedSoFar}
use Rattle.cert_check.proofs.places.coflows_of.Goals as goal

pub overflow_cast-result : goal.overflow_cast-result
overflow_cast-result c = omega (
  arith,
  c.len.ensures,
  named_few c.args.table.now.ids (ids_in c.args.places.now) c.loop-place.place-index (λ (id : ℕ). get nat_eq c.loop-place.unplaced id)
      c.loop-place.coflows.items c.loop-place.invariant,
)

pub overflow_add-result : goal.overflow_add-result
overflow_add-result c = omega (
  arith,
  c.len.ensures,
  named_few c.args.table.now.ids (ids_in c.args.places.now) c.loop-place.place-index (λ (id : ℕ). get nat_eq c.loop-place.unplaced id) c.loop-place.coflows.items
      c.loop-place.invariant,
)

pub returns-in_default : goal.returns-in_default
returns-in_default c =
    let within : c.loop-place.place-index < length (ids_in c.args.places.now) = omega (arith, count_ids c.args.places.now, c.loop-place-test.true) in
    let count : c.len.result + 1 ≡ length c.loop-place.coflows.items + 1 = omega (arith, c.len.ensures) in
    named_wrong c.args.table.now.ids (ids_in c.args.places.now) c.loop-place.place-index (λ (id : ℕ). get nat_eq c.loop-place.unplaced id) c.loop-place.coflows.items _
    (c.len.result + 1)
    c.loop-place.invariant within (id_at c.args.places.now c.loop-place.place-index c.loop-place-test.true) (sym c.in_default.ensures.value) count

pub loop-place-preserved : goal.loop-place-preserved
loop-place-preserved c =
    let within : c.loop-place.place-index < length (ids_in c.args.places.now) = omega (arith, count_ids c.args.places.now, c.loop-place-test.true) in
    subst (λ l. NamedSoFar c.args.table.now.ids (ids_in c.args.places.now) (c.loop-place.place-index + 1) (λ (id : ℕ). get nat_eq c.swap_remove.new.self id) l)
    (sym c.in_ok-push.ensures.items)
    (named_more c.args.table.now.ids (ids_in c.args.places.now) c.loop-place.place-index (λ (id : ℕ). get nat_eq c.loop-place.unplaced id)
    (λ (id : ℕ). get nat_eq c.swap_remove.new.self id) c.loop-place.coflows.items _ c.in-Some.coflow
    c.loop-place.invariant within (id_at c.args.places.now c.loop-place.place-index c.loop-place-test.true) (sym c.in-Some.ensures.value) c.in-Some.ensures.updates.0)

pub returns-then-len-count : goal.returns-then-len-count
returns-then-len-count c =
    let count : c.len-then-len-count.result + 1 ≡ length c.loop-place.coflows.items + 1 = omega (arith, c.len-then-len-count.ensures) in
    named_short c.args.table.now.ids (ids_in c.args.places.now) c.loop-place.place-index (λ (id : ℕ). get nat_eq c.loop-place.unplaced id) c.loop-place.coflows.items
    (c.len-then-len-count.result + 1) c.loop-place.invariant
    (omega (arith, count_ids c.args.places.now, c.loop-place-test.false)) (omega (arith, c.len-2.ensures, c.if-len-count.true, c.coflows-count.ensures.coflows)) count

pub returns : goal.returns
returns c =
    named_all c.args.table.now.ids (ids_in c.args.places.now) c.loop-place.place-index (λ (id : ℕ). get nat_eq c.loop-place.unplaced id) c.loop-place.coflows.items
    c.loop-place.invariant
    (omega (arith, count_ids c.args.places.now, c.loop-place-test.false)) (omega (arith, c.len-2.ensures, c.if-len-count.false, c.coflows-count.ensures.coflows))
