use Rattle.std.proofs.Common.{◌≡◌, ◌<◌, length, subst, arith}
use Rattle.coflow_units.specs.declared.fabric.Flow.{Flow}
use Rattle.epochs.proofs.Tallying.{add_fits, tallied_all, tallied_on, TalliedTo}
use Rattle.epochs.proofs.tallies.units_of_coflows.Goals as goal

pub index_mut-requires : goal.index_mut-requires
index_mut-requires c =
    let none : Flow = record { coflow = 0; ingress = 0; egress = 0; units = 0 } in
    let h = c.flows.invariant in
    omega (arith, h.so_far.each, c.requires.within c.flows.number none c.flows-test.true)

pub overflow_add-index_mut : goal.overflow_add-index_mut
overflow_add-index_mut c =
    let none : Flow = record { coflow = 0; ingress = 0; egress = 0; units = 0 } in
    let n = c.flows.number in
    let lt : n < length c.args.flows.now = c.flows-test.true in
    let fits = add_fits c.args.flows.now c.args.left.now c.flows.owed.items c.args.coflows n c.index_mut.result.now (omega (arith, lt, c.requires.len))
    (c.requires.within n none lt) c.flows.invariant.so_far
    c.index_mut.ensures.value in
    omega (arith, fits, c.requires.units)

pub flows-preserved : goal.flows-preserved
flows-preserved c =
    let none : Flow = record { coflow = 0; ingress = 0; egress = 0; units = 0 } in
    let n = c.flows.number in
    record {
      so_far = tallied_on c.args.flows.now c.args.left.now c.flows.owed.items c.args.coflows n c.index_mut.result.now (c.requires.within n none c.flows-test.true)
          c.flows.invariant.so_far
          c.index_mut.ensures.value;
      within = omega (arith, c.flows-test.true);
    }

pub returns-clause-tallied : goal.returns-clause-tallied
returns-clause-tallied c =
    let end : c.flows.number ≡ length c.args.flows.now = omega (arith, c.flows-test.false, c.flows.invariant.within) in
    tallied_all c.args.flows.now c.args.left.now c.flows.owed.items c.args.coflows c.requires.len
    (subst (TalliedTo c.args.flows.now c.args.left.now c.flows.owed.items c.args.coflows) end c.flows.invariant.so_far)

pub returns-clause-each : goal.returns-clause-each
returns-clause-each c = c.flows.invariant.so_far.each
