use Rattle.std.proofs.Common.{◌≡◌, ◌≢◌, ◌+◌, ◌*◌, ◌/◌, ◌%◌, ◌<◌, length, sym, ap, ◌∙◌, arith}
use Rattle.std.specs.Prelude.{slice_index, slice_set}
use Rattle.std.proofs.lemmas.Grind.{get_or_default_zero}
use Rattle.port_load.specs.CellTable.{CellTable, cells_in, no_block}
use Rattle.port_load.specs.MarkTable.{width}
use Rattle.port_load.proofs.CellSteps.{cell_read, cells_set, place_in}
use Rattle.port_load.proofs.cells.Cells.add_in.Goals as goal

pub overflow_add-index_mut : goal.overflow_add-index_mut
overflow_add-index_mut c =
    let s = c.self.inside in
    let t : CellTable = record { rows = s.rows; columns = s.columns; blocks = s.blocks.items; numbers = s.numbers.items } in
    let row = c.args.row in
    let column = c.args.column in
    let lr : row < s.rows = omega (arith, c.requires.row_in, ap (λ (x : CellTable). x.rows) c.self.view_is) in
    let lc : column < s.columns = omega (arith, c.requires.column_in, ap (λ (x : CellTable). x.columns) c.self.view_is) in
    let p = row * width s.columns + column / 64 in
    let place : c.args.place ≡ p = c.requires.place_is ∙ sym (ap (λ (x : CellTable). row * width x.columns + column / 64) c.self.view_is) in
    let there : slice_index s.blocks.items p ≢ no_block =
    λ e. c.requires.there (sym (ap (λ (x : CellTable). slice_index x.blocks c.args.place) c.self.view_is) ∙ ap (slice_index s.blocks.items) place ∙ e) in
    let inside = place_in s.rows s.columns s.blocks.items row column c.self.invariant.blocks_len lr lc in
    let lp : c.args.place < length s.blocks.items = omega (arith, inside, place) in
    let block : c.index.result.now ≡ slice_index s.blocks.items p = c.index.ensures ∙ get_or_default_zero s.blocks.items c.args.place c.index.result.now lp ∙
    ap (slice_index s.blocks.items) place in
    let q : 64 * c.index.result.now + column % 64 ≡ slice_index s.blocks.items p * 64 + column % 64 = omega (arith, block) in
    let was = cell_read t _ row column (64 * c.index.result.now + column % 64) c.index_mut.result.now c.self.invariant lr lc there q c.index_mut.ensures.value
    ∙ ap (λ (x : CellTable). slice_index (cells_in x) (row * x.columns + column)) c.self.view_is in
    omega (arith, was, c.requires.fits)

pub returns-clause-cells : goal.returns-clause-cells
returns-clause-cells c =
    let s = c.self.inside in
    let t : CellTable = record { rows = s.rows; columns = s.columns; blocks = s.blocks.items; numbers = s.numbers.items } in
    let row = c.args.row in
    let column = c.args.column in
    let lr : row < s.rows = omega (arith, c.requires.row_in, ap (λ (x : CellTable). x.rows) c.self.view_is) in
    let lc : column < s.columns = omega (arith, c.requires.column_in, ap (λ (x : CellTable). x.columns) c.self.view_is) in
    let p = row * width s.columns + column / 64 in
    let place : c.args.place ≡ p = c.requires.place_is ∙ sym (ap (λ (x : CellTable). row * width x.columns + column / 64) c.self.view_is) in
    let there : slice_index s.blocks.items p ≢ no_block =
    λ e. c.requires.there (sym (ap (λ (x : CellTable). slice_index x.blocks c.args.place) c.self.view_is) ∙ ap (slice_index s.blocks.items) place ∙ e) in
    let inside = place_in s.rows s.columns s.blocks.items row column c.self.invariant.blocks_len lr lc in
    let lp : c.args.place < length s.blocks.items = omega (arith, inside, place) in
    let block : c.index.result.now ≡ slice_index s.blocks.items p = c.index.ensures ∙ get_or_default_zero s.blocks.items c.args.place c.index.result.now lp ∙
    ap (slice_index s.blocks.items) place in
    let at = 64 * c.index.result.now + column % 64 in
    let q : at ≡ slice_index s.blocks.items p * 64 + column % 64 = omega (arith, block) in
    let was = cell_read t _ row column at c.index_mut.result.now c.self.invariant lr lc there q c.index_mut.ensures.value in
    cells_set t _ row column at (c.index_mut.result.now + c.args.units) c.self.invariant lr lc there q
    ∙ ap (λ n. slice_set (cells_in t) (row * s.columns + column) (n + c.args.units)) was
    ∙ ap (λ (x : CellTable). slice_set (cells_in x) (row * x.columns + column) (slice_index (cells_in x) (row * x.columns + column) + c.args.units)) c.self.view_is
