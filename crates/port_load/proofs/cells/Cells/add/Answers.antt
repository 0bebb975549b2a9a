use Rattle.std.proofs.Common.{◌+◌, ◌*◌, ◌/◌, ◌<◌, length, sym, ap, ◌∙◌, arith}
use Rattle.std.specs.Prelude.{slice_index, slice_set}
use Rattle.port_load.specs.CellTable.{CellTable, cells_in}
use Rattle.port_load.proofs.CellSteps.{place_in}
use Rattle.port_load.proofs.cells.Cells.add.Goals as goal

pub open-requires : goal.open-requires
open-requires c =
    let s = c.self.inside in
    let lr : c.args.row < s.rows = omega (arith, c.requires.row_in, ap (λ (x : CellTable). x.rows) c.self.view_is) in
    let lc : c.args.column < s.columns = omega (arith, c.requires.column_in, ap (λ (x : CellTable). x.columns) c.self.view_is) in
    record {
      place_in = omega (
        arith,
        place_in s.rows s.columns s.blocks.items c.args.row c.args.column c.self.invariant.blocks_len lr lc,
        ap (λ (x : CellTable). length x.blocks) c.self.view_is,
      );
    }

pub add_in-requires-clause-place_is : goal.add_in-requires-clause-place_is
add_in-requires-clause-place_is c = ap (λ n. c.args.row * (n / 64 + 1) + c.args.column / 64) (ap (λ (x : CellTable). x.columns) c.self.view_is ∙ sym c.open.ensures.size.columns)

pub add_in-requires-clause-fits : goal.add_in-requires-clause-fits
add_in-requires-clause-fits c =
    let row = c.args.row in
    let column = c.args.column in
    let same = ap (λ xs. slice_index xs (row * c.open.new.self.columns + column)) c.open.ensures.cells
    ∙ ap (λ n. slice_index (cells_in c.args.self.now) (row * n + column)) c.open.ensures.size.columns in
    omega (arith, same, c.requires.fits)

pub returns-clause-cells : goal.returns-clause-cells
returns-clause-cells c =
    let row = c.args.row in
    let column = c.args.column in
    c.add_in.ensures.cells
    ∙ ap (λ xs. slice_set xs (row * c.open.new.self.columns + column) (slice_index xs (row * c.open.new.self.columns + column) + c.args.units)) c.open.ensures.cells
    ∙ ap (λ n. slice_set (cells_in c.args.self.now) (row * n + column) (slice_index (cells_in c.args.self.now) (row * n + column) + c.args.units)) c.open.ensures.size.columns
