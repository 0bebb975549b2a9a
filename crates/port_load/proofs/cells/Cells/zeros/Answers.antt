use Rattle.std.proofs.Common.{◌+◌, ◌*◌, ◌/◌, refl, sym, subst, arith}
use Rattle.std.specs.Prelude.{vec_capacity}
use Rattle.port_load.specs.CellTable.{IsBlocks}
use Rattle.port_load.proofs.CellSteps.{blocks_none, cells_none}
use Rattle.port_load.proofs.cells.Cells.zeros.Goals as goal

pub invariant_of-result : goal.invariant_of-result
invariant_of-result c =
    let n = c.in_ok-numbers.numbers in
    subst (λ xs. IsBlocks c.args.rows c.args.columns c.in_ok-blocks.blocks.items xs (vec_capacity n)) (sym c.in_ok-numbers.ensures.items)
    (blocks_none c.args.rows c.args.columns (c.args.rows * (c.args.columns / 64 + 1)) (vec_capacity n) c.in_ok-blocks.blocks.items c.requires.rows_limit c.requires.columns_limit
    refl (c.in_ok-blocks.ensures.items_if_clones_equal (λ y e. e))
    (omega (arith, c.in_ok-numbers.ensures.capacity)))

pub returns-clause-cells : goal.returns-clause-cells
returns-clause-cells c =
    cells_none (record { rows = c.args.rows; columns = c.args.columns; blocks = c.in_ok-blocks.blocks.items; numbers = c.in_ok-numbers.numbers.items }) c.args.rows c.args.columns
    refl refl c.in_ok-numbers.ensures.items
