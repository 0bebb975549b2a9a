use Rattle.std.proofs.Common.{◌≡◌, ◌+◌, ◌≤◌, ℕ, subst, sym, ◌∙◌, arith}
use Rattle.flow_table.proofs.RowSteps.{RowSoFar, row_end, row_full, row_push, row_skip, units_are}
use Rattle.flow_table.proofs.flows.push_source.Goals as goal

some : (units : ℕ) → (units ≡ 0 → ⊥) → 1 ≤ units
some units not = grind arith

pub loop-target-preserved-then-units-eq0 : goal.loop-target-preserved-then-units-eq0
loop-target-preserved-then-units-eq0 c = record {
  few = c.loop-target.invariant.few;
  so_far = λ sends to before.
      let a = c.args in
      let k = c.loop-target.target-index in
      let none = units_are sends a.coflow a.ingress a.places.now a.rests.now a.targets.now c.requires.targets to k c.units_to-units.result c.loop-target-test.true
      c.units_to-units.ensures ∙ c.if-units-eq0.true in
      row_skip sends a.coflow a.ingress a.places.now a.rests.now a.targets.now c.requires.targets to k c.loop-target.flows.items (c.loop-target.invariant.so_far sends to before)
      c.loop-target-test.true none;
}

pub returns-then-len-clause-full : goal.returns-then-len-clause-full
returns-then-len-clause-full c = λ sends to before.
    let a = c.args in
    let k = c.loop-target.target-index in
    let units = units_are sends a.coflow a.ingress a.places.now a.rests.now a.targets.now c.requires.targets to k c.units_to-units.result c.loop-target-test.true
    c.units_to-units.ensures in
    row_full sends a.coflow a.ingress a.places.now a.rests.now a.targets.now c.requires.targets to k c.loop-target.flows.items (c.loop-target.invariant.so_far sends to before)
    c.loop-target-test.true c.units_to-units.result
    (some c.units_to-units.result c.if-units-eq0.false) units (omega (arith, c.loop-target.flows.ok.0))

pub loop-target-preserved : goal.loop-target-preserved
loop-target-preserved c = record {
  few = omega (arith, c.in_ok-push.ensures.len);
  so_far = λ sends to before.
      let a = c.args in
      let k = c.loop-target.target-index in
      let units = units_are sends a.coflow a.ingress a.places.now a.rests.now a.targets.now c.requires.targets to k c.units_to-units.result c.loop-target-test.true
      c.units_to-units.ensures in
      subst (RowSoFar sends a.coflow a.ingress a.targets.now (k + 1)) (sym c.in_ok-push.ensures.items)
      (row_push sends a.coflow a.ingress a.places.now a.rests.now a.targets.now c.requires.targets to k c.loop-target.flows.items (c.loop-target.invariant.so_far sends to before)
      c.loop-target-test.true c.units_to-units.result
      (some c.units_to-units.result c.if-units-eq0.false) units);
}

pub returns-clause-pushed : goal.returns-clause-pushed
returns-clause-pushed c = λ sends to before.
    let a = c.args in
    row_end sends a.coflow a.ingress a.places.now a.rests.now a.targets.now c.requires.targets to c.loop-target.target-index c.loop-target.flows.items
    (c.loop-target.invariant.so_far sends to before) (omega arith)
