use Rattle.std.proofs.Common.{◌≡◌, ◌+◌, ◌*◌, ◌^◌, refl, sym, ap, subst, ◌∙◌, arith}
use Rattle.std.specs.Prelude.{slice_index, slice_set}
use Rattle.std.proofs.lemmas.Grind.{get_or_default_zero}
use Rattle.coflow_units.specs.Ordering.{port_place}
use Rattle.port_load.specs.CellTable.{cells_in}
use Rattle.port_load.specs.Kept.{IsKept}
use Rattle.port_load.specs.LoadTable.{LoadTable, load_at}
use Rattle.port_load.proofs.KeptSteps.{cell_is, cell_within, coflow_inside, kept_more, table_of, total_fits, written_other, written_same}
use Rattle.port_load.proofs.loads.Loads.add_at.Goals as goal

pub add-requires-clause-fits : goal.add-requires-clause-fits
add-requires-clause-fits c =
    let s = c.self.inside in
    let row = c.row_of-row.result in
    let kept = c.self.invariant.kept in
    let lc = coflow_inside c.args.self.now s.coflows s.ports (cells_in s.cells) c.args.coflow c.self.view_is c.requires.coflow_in in
    let total = total_fits c.args.self.now s.coflows s.ports (cells_in s.cells) s.totals.items s.by_port s.by_coflow c.args.port row c.args.units (2 ^ 64) kept c.self.view_is
    c.row_of-row.ensures.row
    c.row_of-row.ensures.within c.requires.units_fit in
    let cell = cell_within s.coflows s.ports (cells_in s.cells) s.totals.items s.by_port s.by_coflow row c.args.coflow kept c.row_of-row.ensures.within lc in
    omega (arith, ap (λ n. slice_index (cells_in s.cells) (row * n + c.args.coflow)) c.self.invariant.columns, cell, total)

pub overflow_add-index_mut : goal.overflow_add-index_mut
overflow_add-index_mut c =
    let s = c.self.inside in
    let row = c.row_of-row.result in
    let total = total_fits c.args.self.now s.coflows s.ports (cells_in s.cells) s.totals.items s.by_port s.by_coflow c.args.port row c.args.units (2 ^ 64) c.self.invariant.kept
    c.self.view_is c.row_of-row.ensures.row
    c.row_of-row.ensures.within c.requires.units_fit in
    let read = get_or_default_zero s.totals.items row c.index_mut.result.now (omega (arith, c.row_of-row.ensures.within, c.self.invariant.kept.totals_len)) in
    omega (arith, read, c.index_mut.ensures.value, total)

pub invariant_of-self : goal.invariant_of-self
invariant_of-self c =
    let s = c.self.inside in
    let row = c.row_of-row.result in
    let kept = c.self.invariant.kept in
    let lc = coflow_inside c.args.self.now s.coflows s.ports (cells_in s.cells) c.args.coflow c.self.view_is c.requires.coflow_in in
    let was = slice_index (cells_in s.cells) (row * s.coflows + c.args.coflow) in
    let set : cells_in c.add.new.self ≡ slice_set (cells_in s.cells) (row * s.coflows + c.args.coflow) (was + c.args.units) =
    c.add.ensures.cells ∙ ap (λ n. slice_set (cells_in s.cells) (row * n + c.args.coflow) (slice_index (cells_in s.cells) (row * n + c.args.coflow) + c.args.units))
    c.self.invariant.columns in
    let total = c.index_mut.ensures.value ∙ get_or_default_zero s.totals.items row c.index_mut.result.now (omega (arith, c.row_of-row.ensures.within, kept.totals_len)) in
    let more = kept_more s.coflows s.ports (cells_in s.cells) s.totals.items s.by_port s.by_coflow c.mark.new.self c.mark-2.new.self row c.args.coflow c.args.units was
    c.index_mut.result.now kept
    c.row_of-row.ensures.within lc refl total record { shape = c.mark.ensures.shape; marked = c.mark.ensures.marked; others = c.mark.ensures.others }
    record { shape = c.mark-2.ensures.shape; marked = c.mark-2.ensures.marked; others = c.mark-2.ensures.others } in
    record {
      rows = c.add.ensures.size.rows ∙ c.self.invariant.rows;
      columns = c.add.ensures.size.columns ∙ c.self.invariant.columns;
      kept = subst (λ xs. IsKept s.coflows s.ports xs (slice_set s.totals.items row (c.index_mut.result.now + c.args.units)) c.mark.new.self c.mark-2.new.self) (sym set) more;
    }

pub returns-clause-added : goal.returns-clause-added
returns-clause-added c =
    let s = c.self.inside in
    let row = c.row_of-row.result in
    let lc = coflow_inside c.args.self.now s.coflows s.ports (cells_in s.cells) c.args.coflow c.self.view_is c.requires.coflow_in in
    let was = slice_index (cells_in s.cells) (row * s.coflows + c.args.coflow) in
    let set : cells_in c.add.new.self ≡ slice_set (cells_in s.cells) (row * s.coflows + c.args.coflow) (was + c.args.units) =
    c.add.ensures.cells ∙ ap (λ n. slice_set (cells_in s.cells) (row * n + c.args.coflow) (slice_index (cells_in s.cells) (row * n + c.args.coflow) + c.args.units))
    c.self.invariant.columns in
    ap (λ xs. load_at (table_of s.coflows s.ports xs) c.args.coflow c.args.port) set
    ∙ written_same (cells_in s.cells) s.coflows (s.ports + s.ports) row c.args.coflow (port_place s.ports c.args.port) (was + c.args.units) c.self.invariant.kept.cells_len
    c.row_of-row.ensures.within lc
    (sym c.row_of-row.ensures.row)
    ∙ ap (λ n. n + c.args.units) (cell_is c.args.self.now s.coflows s.ports (cells_in s.cells) c.args.coflow row c.args.port c.self.view_is c.row_of-row.ensures.row)

pub returns-clause-others : goal.returns-clause-others
returns-clause-others c = λ other lt ne.
    let s = c.self.inside in
    let row = c.row_of-row.result in
    let lc = coflow_inside c.args.self.now s.coflows s.ports (cells_in s.cells) c.args.coflow c.self.view_is c.requires.coflow_in in
    let lo = coflow_inside c.args.self.now s.coflows s.ports (cells_in s.cells) other c.self.view_is lt in
    let was = slice_index (cells_in s.cells) (row * s.coflows + c.args.coflow) in
    let set : cells_in c.add.new.self ≡ slice_set (cells_in s.cells) (row * s.coflows + c.args.coflow) (was + c.args.units) =
    c.add.ensures.cells ∙ ap (λ n. slice_set (cells_in s.cells) (row * n + c.args.coflow) (slice_index (cells_in s.cells) (row * n + c.args.coflow) + c.args.units))
    c.self.invariant.columns in
    ap (λ xs. load_at (table_of s.coflows s.ports xs) other c.args.port) set
    ∙ written_other (cells_in s.cells) s.coflows row c.args.coflow (port_place s.ports c.args.port) other (was + c.args.units) lc lo (λ er ec. ne ec)
    ∙ ap (λ (x : LoadTable). load_at x other c.args.port) c.self.view_is

pub returns-clause-elsewhere : goal.returns-clause-elsewhere
returns-clause-elsewhere c = λ other at lt lp ne.
    let s = c.self.inside in
    let row = c.row_of-row.result in
    let lc = coflow_inside c.args.self.now s.coflows s.ports (cells_in s.cells) c.args.coflow c.self.view_is c.requires.coflow_in in
    let lo = coflow_inside c.args.self.now s.coflows s.ports (cells_in s.cells) other c.self.view_is lt in
    let ports = ap (λ (x : LoadTable). x.ports) c.self.view_is in
    let was = slice_index (cells_in s.cells) (row * s.coflows + c.args.coflow) in
    let set : cells_in c.add.new.self ≡ slice_set (cells_in s.cells) (row * s.coflows + c.args.coflow) (was + c.args.units) =
    c.add.ensures.cells ∙ ap (λ n. slice_set (cells_in s.cells) (row * n + c.args.coflow) (slice_index (cells_in s.cells) (row * n + c.args.coflow) + c.args.units))
    c.self.invariant.columns in
    ap (λ xs. load_at (table_of s.coflows s.ports xs) other at) set
    ∙ written_other (cells_in s.cells) s.coflows row c.args.coflow (port_place s.ports at) other (was + c.args.units) lc lo
    (λ er ec. ne (ap (λ n. port_place n at) (sym ports) ∙ er ∙ c.row_of-row.ensures.row ∙ ap (λ n. port_place n c.args.port) ports))
    ∙ ap (λ (x : LoadTable). load_at x other at) c.self.view_is
