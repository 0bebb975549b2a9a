use Rattle.std.proofs.Common.{◌≡◌, ◌<◌, get_or, length, ap, ◌∙◌, arith}
use Rattle.std.specs.List.{slice_index_or}
use Rattle.std.proofs.lemmas.Grind.{get_or_default_zero}
use Rattle.coflow_units.specs.declared.trace.Reducer.{Reducer}
use Rattle.flow_table.proofs.TargetSteps.{whole_fits}
use Rattle.flow_table.proofs.targets.wholes_of.Goals as goal

pub overflow_add-index_mut : goal.overflow_add-index_mut
overflow_add-index_mut c =
    let none : Reducer = record { location = 0; millionths = 0 } in
    let k = c.loop-reducer.reducer-index in
    let r : Reducer = slice_index_or c.as_slice-reducer-items.result.now k none in
    let lt : k < length c.args.line.now.reducers = omega (arith, ap length c.as_slice-reducer-items.ensures) in
    let is : r ≡ get_or c.args.line.now.reducers k none = ap (λ l. get_or l k none) c.as_slice-reducer-items.ensures in
    let (number, ports, line) = c.requires.line in
    let in' : r.location < c.args.ports = omega (arith, ap (λ (y : Reducer). y.location) is, line.reducers k none lt, ports) in
    let at = get_or_default_zero c.loop-reducer.wholes.items r.location c.index_mut.result.now (omega (arith, c.loop-reducer.invariant.count)) in
    omega (
      arith,
      c.requires.units,
      whole_fits c.args.unit.megabytes c.args.line.now k none r c.args.ports c.index_mut.result.now c.units_of_reducer.result (length c.as_slice.result.now)
          c.loop-reducer.wholes.items lt is in' (c.index_mut.ensures.value ∙ at) c.units_of_reducer.ensures (ap length c.as_slice.ensures)
          c.loop-reducer.invariant.so_far,
    )
