use Rattle.std.proofs.Common.{◌≡◌, ◌+◌, ◌-◌, ◌*◌, ◌<◌, length, refl, sym, ap, subst, ◌∙◌, arith}
use Rattle.std.specs.Prelude.{slice_index, slice_set}
use Rattle.std.proofs.lemmas.List.FromFn.{length-map-range_with_len}
use Rattle.port_load.specs.CellTable.{cells_in}
use Rattle.port_load.proofs.CellSteps.{read}
use Rattle.port_load.proofs.ColumnSteps.{ClearedSoFar, cleared_more, cleared_none, cleared_past}
use Rattle.port_load.proofs.loads.clear_column.Goals as goal

pub rows-init : goal.rows-init
rows-init c =
    let before = cells_in c.args.cells.now in
    let n = c.args.cells.now.columns in
    let e = c.next-row.ensures in
    let none = cleared_none before c.args.totals.now n c.args.column in
    record {
      size = record { rows = refl; columns = refl };
      within = omega (arith, e.within, c.requires.marked_columns);
      cleared = cleared_past before c.args.totals.now before c.args.totals.now n c.args.column 0 c.next-row.result none (omega arith)
          (omega (arith, e.within, c.requires.marked_columns))
          (λ row le lt. c.requires.marked row (omega (arith, lt, e.within, c.requires.marked_columns)) (e.none row le lt));
    }

pub overflow_sub-totals : goal.overflow_sub-totals
overflow_sub-totals c =
    let n = c.args.cells.now.columns in
    let row = c.rows.row in
    let so_far = c.rows.invariant.cleared in
    let lt : row < length c.args.totals.now = omega (arith, so_far.totals_len, c.rows-test.true) in
    let got : c.get.result ≡ slice_index (cells_in c.rows.cells) (row * n + c.args.column) =
    c.get.ensures ∙ ap (λ k. slice_index (cells_in c.rows.cells) (row * k + c.args.column)) c.rows.invariant.size.columns in
    omega (arith, got, so_far.later row (omega arith) lt, so_far.whole row (omega arith), c.requires.within row lt)

pub rows-preserved : goal.rows-preserved
rows-preserved c =
    let before = cells_in c.args.cells.now in
    let n = c.args.cells.now.columns in
    let row = c.rows.row in
    let so_far = c.rows.invariant.cleared in
    let lt : row < length c.args.totals.now = omega (arith, so_far.totals_len, c.rows-test.true) in
    let len : length before ≡ length c.args.totals.now * n = length-map-range_with_len (read n c.args.cells.now.blocks c.args.cells.now.numbers) 0 (c.args.cells.now.rows * n) ∙
    ap (λ k. k * n) c.requires.rows in
    let more = cleared_more before c.args.totals.now (cells_in c.rows.cells) c.rows.totals n c.args.column row so_far len c.requires.column_in lt (c.requires.within row lt) in
    let cols = c.rows.invariant.size.columns in
    let got : c.get.result ≡ slice_index (cells_in c.rows.cells) (row * n + c.args.column) =
    c.get.ensures ∙ ap (λ k. slice_index (cells_in c.rows.cells) (row * k + c.args.column)) cols in
    let set : cells_in c.set.new.self ≡ slice_set (cells_in c.rows.cells) (row * n + c.args.column) 0 =
    c.set.ensures.cells ∙ ap (λ k. slice_set (cells_in c.rows.cells) (row * k + c.args.column) 0) cols in
    let next = c.next-row-in-rows in
    let here = slice_index c.rows.totals row in
    let taken = subst (λ v. ClearedSoFar before c.args.totals.now (slice_set (cells_in c.rows.cells) (row * n + c.args.column) 0) (slice_set c.rows.totals row (here - v)) n
    c.args.column (row + 1)) (sym got) more in
    let done = subst (λ xs. ClearedSoFar before c.args.totals.now xs (slice_set c.rows.totals row (here - c.get.result)) n c.args.column (row + 1)) (sym set) taken in
    record {
      size = record { rows = c.set.ensures.size.rows ∙ c.rows.invariant.size.rows; columns = c.set.ensures.size.columns ∙ cols };
      within = omega (arith, next.ensures.within, c.requires.marked_columns);
      cleared = cleared_past before c.args.totals.now (cells_in c.set.new.self) (slice_set c.rows.totals row (here - c.get.result)) n c.args.column (row + 1) next.result done
          next.ensures.after
          (omega (arith, next.ensures.within, c.requires.marked_columns))
          (λ k le lk. c.requires.marked k (omega (arith, lk, next.ensures.within, c.requires.marked_columns)) (next.ensures.none k le lk));
    }
