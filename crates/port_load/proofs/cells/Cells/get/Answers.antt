use Rattle.std.proofs.Common.{◌≡◌, ◌≢◌, ◌+◌, ◌*◌, ◌/◌, ◌%◌, ◌<◌, length, sym, ap, ◌∙◌, arith}
use Rattle.std.specs.Prelude.{slice_index}
use Rattle.std.proofs.lemmas.Grind.{get_or_default_zero}
use Rattle.port_load.specs.CellTable.{CellTable, cells_in, no_block}
use Rattle.port_load.specs.MarkTable.{width}
use Rattle.port_load.proofs.CellSteps.{cell_in_list, none_reads, place_in}
use Rattle.port_load.proofs.cells.Cells.get.Goals as goal

pub returns-then-block : goal.returns-then-block
returns-then-block c =
    let s = c.self.inside in
    let t : CellTable = record { rows = s.rows; columns = s.columns; blocks = s.blocks.items; numbers = s.numbers.items } in
    let lr : c.args.row < s.rows = omega (arith, c.requires.row_in, ap (λ (x : CellTable). x.rows) c.self.view_is) in
    let lc : c.args.column < s.columns = omega (arith, c.requires.column_in, ap (λ (x : CellTable). x.columns) c.self.view_is) in
    let p = c.args.row * width s.columns + c.args.column / 64 in
    let inside = place_in s.rows s.columns s.blocks.items c.args.row c.args.column c.self.invariant.blocks_len lr lc in
    let none : slice_index s.blocks.items p ≡ no_block =
    omega (arith, c.index-block.ensures, get_or_default_zero s.blocks.items p c.index-block.result.now inside, c.if-block.true) in
    sym (none_reads s.rows s.columns s.blocks.items s.numbers.items _ (slice_index s.blocks.items p) (c.args.column % 64) c.self.invariant none) ∙
    sym (cell_in_list t c.args.row c.args.column lr lc)
    ∙ ap (λ (x : CellTable). slice_index (cells_in x) (c.args.row * x.columns + c.args.column)) c.self.view_is

pub index-requires : goal.index-requires
index-requires c =
    let s = c.self.inside in
    let lr : c.args.row < s.rows = omega (arith, c.requires.row_in, ap (λ (x : CellTable). x.rows) c.self.view_is) in
    let lc : c.args.column < s.columns = omega (arith, c.requires.column_in, ap (λ (x : CellTable). x.columns) c.self.view_is) in
    let p = c.args.row * width s.columns + c.args.column / 64 in
    let inside = place_in s.rows s.columns s.blocks.items c.args.row c.args.column c.self.invariant.blocks_len lr lc in
    let block : slice_index s.blocks.items p ≡ c.index-block.result.now = sym (c.index-block.ensures ∙ get_or_default_zero s.blocks.items p c.index-block.result.now inside) in
    let there : slice_index s.blocks.items p ≢ no_block = λ e. omega (arith, e, block, c.if-block.false) in
    omega (arith, block, c.self.invariant.inside p inside there)

pub returns : goal.returns
returns c =
    let s = c.self.inside in
    let t : CellTable = record { rows = s.rows; columns = s.columns; blocks = s.blocks.items; numbers = s.numbers.items } in
    let lr : c.args.row < s.rows = omega (arith, c.requires.row_in, ap (λ (x : CellTable). x.rows) c.self.view_is) in
    let lc : c.args.column < s.columns = omega (arith, c.requires.column_in, ap (λ (x : CellTable). x.columns) c.self.view_is) in
    let p = c.args.row * width s.columns + c.args.column / 64 in
    let inside = place_in s.rows s.columns s.blocks.items c.args.row c.args.column c.self.invariant.blocks_len lr lc in
    let block : slice_index s.blocks.items p ≡ c.index-block.result.now = sym (c.index-block.ensures ∙ get_or_default_zero s.blocks.items p c.index-block.result.now inside) in
    let there : slice_index s.blocks.items p ≢ no_block = λ e. omega (arith, e, block, c.if-block.false) in
    let q = 64 * c.index-block.result.now + c.args.column % 64 in
    let at : q ≡ slice_index s.blocks.items p * 64 + c.args.column % 64 = omega (arith, block) in
    let fits : q < length s.numbers.items = omega (arith, block, c.self.invariant.inside p inside there) in
    c.index.ensures ∙ get_or_default_zero s.numbers.items q c.index.result.now fits ∙ ap (slice_index s.numbers.items) at ∙ sym (cell_in_list t c.args.row c.args.column lr lc)
    ∙ ap (λ (x : CellTable). slice_index (cells_in x) (c.args.row * x.columns + c.args.column)) c.self.view_is
