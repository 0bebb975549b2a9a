use Rattle.std.proofs.Common.{◌≡◌, ℕ, arith, refl, subst, ap}
use Rattle.std.specs.Prelude.{List, length, slice_index}
use Rattle.coflow_units.specs.Ordering.{port_place}
use Rattle.port_load.specs.CellTable.{cells_in}
use Rattle.port_load.proofs.KeptSteps.{cell_is, cell_within, coflow_inside, place_in_rows, port_inside}
use Rattle.port_load.proofs.loads.Loads.is_empty.Goals as goal

pub returns : goal.returns
returns c = λ zero coflow port lc lp.
    let s = c.self.inside in
    let kept = c.self.invariant.kept in
    let cells = cells_in s.cells in
    let row = port_place s.ports port in
    let in_rows = place_in_rows s.ports port (port_inside c.args.self.now s.coflows s.ports cells port.number c.self.view_is lp) in
    let inside = coflow_inside c.args.self.now s.coflows s.ports cells coflow c.self.view_is lc in
    let none = subst (λ (l : List ℕ). slice_index l row ≡ 0) c.deref.ensures.value (c.are_zeros.ensures zero row 0 (omega (arith, kept.totals_len, in_rows, ap length c.deref.ensures.value))) in
    omega (
      arith,
      cell_is c.args.self.now s.coflows s.ports cells coflow row port c.self.view_is refl,
      cell_within s.coflows s.ports cells s.totals.items s.by_port s.by_coflow row coflow kept in_rows inside,
      none,
    )
