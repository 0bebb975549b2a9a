use Rattle.std.proofs.Common.{◌+◌, ◌*◌, ◌<◌, [], ◌∷◌, length, slice_index, refl, sym, ap, subst, ◌∙◌, arith}
use Rattle.std.proofs.lemmas.List.{with_items_is}
use Rattle.port_load.specs.CellTable.{cells_in}
use Rattle.port_load.specs.Kept.{IsColumnCleared, IsKept}
use Rattle.port_load.proofs.KeptSteps.{cell_within, coflow_inside, drops_one, kept_less, table_of}
use Rattle.port_load.proofs.ColumnSteps.{cleared_along}
use Rattle.port_load.proofs.LoadSums.{drops_anew}
use Rattle.port_load.proofs.loads.Loads.drop_coflow.Goals as goal

pub clear_column-requires-clause-within : goal.clear_column-requires-clause-within
clear_column-requires-clause-within c = λ row lt.
    let s = c.self.inside in
    let lc = coflow_inside c.args.self.now s.coflows s.ports (cells_in s.cells) c.args.coflow c.self.view_is c.requires in
    let lr : row < s.ports + s.ports = omega (arith, lt, ap length c.deref_mut.ensures.value, c.self.invariant.kept.totals_len) in
    let within = cell_within s.coflows s.ports (cells_in s.cells) s.totals.items s.by_port s.by_coflow row c.args.coflow c.self.invariant.kept lr lc in
    omega (arith, within, ap (λ n. slice_index (cells_in s.cells) (row * n + c.args.coflow)) c.self.invariant.columns, ap (λ xs. slice_index xs row) c.deref_mut.ensures.value)

pub clear_column-requires-clause-marked : goal.clear_column-requires-clause-marked
clear_column-requires-clause-marked c = λ row lt mark.
    let s = c.self.inside in
    let lc = coflow_inside c.args.self.now s.coflows s.ports (cells_in s.cells) c.args.coflow c.self.view_is c.requires in
    let lr : row < s.ports + s.ports = omega (arith, lt, ap length c.deref_mut.ensures.value, c.self.invariant.kept.totals_len) in
    ap (λ n. slice_index (cells_in s.cells) (row * n + c.args.coflow)) c.self.invariant.columns ∙ c.self.invariant.kept.by_coflow_none c.args.coflow row lc lr mark

pub invariant_of-self : goal.invariant_of-self
invariant_of-self c =
    let s = c.self.inside in
    let new = c.clear_column.new in
    let lc = coflow_inside c.args.self.now s.coflows s.ports (cells_in s.cells) c.args.coflow c.self.view_is c.requires in
    let along = cleared_along (cells_in s.cells) c.deref_mut.result.now (cells_in s.cells) s.totals.items (cells_in new.cells) new.totals s.cells.columns c.args.coflow refl
    c.deref_mut.ensures.value c.clear_column.ensures.cleared in
    let cleared = subst (λ n. IsColumnCleared (cells_in s.cells) s.totals.items (cells_in new.cells) new.totals n c.args.coflow) c.self.invariant.columns along in
    let totals = with_items_is s.totals new.totals (omega (arith, cleared.totals_len)) in
    let kept = kept_less s.coflows s.ports (cells_in s.cells) s.totals.items (cells_in new.cells) new.totals s.by_port s.by_coflow c.args.coflow c.self.invariant.kept lc
    cleared.cells_len cleared.totals_len cleared.gone
    cleared.others cleared.taken in
    record {
      rows = c.clear_column.ensures.size.rows ∙ c.self.invariant.rows;
      columns = c.clear_column.ensures.size.columns ∙ c.self.invariant.columns;
      kept = subst (λ ys. IsKept s.coflows s.ports (cells_in new.cells) ys s.by_port s.by_coflow) (sym totals) kept;
    }

pub returns-clause-dropped : goal.returns-clause-dropped
returns-clause-dropped c =
    let s = c.self.inside in
    let new = c.clear_column.new in
    let along = cleared_along (cells_in s.cells) c.deref_mut.result.now (cells_in s.cells) s.totals.items (cells_in new.cells) new.totals s.cells.columns c.args.coflow refl
    c.deref_mut.ensures.value c.clear_column.ensures.cleared in
    let cleared = subst (λ n. IsColumnCleared (cells_in s.cells) s.totals.items (cells_in new.cells) new.totals n c.args.coflow) c.self.invariant.columns along in
    drops_one c.args.self.now s.coflows s.ports (cells_in s.cells) (cells_in new.cells) c.args.coflow (length s.totals.items) c.self.view_is c.self.invariant.kept.totals_len
    cleared.gone cleared.others

pub returns-clause-anew : goal.returns-clause-anew
returns-clause-anew c = λ flows has.
    let s = c.self.inside in
    let new = table_of s.coflows s.ports (cells_in c.clear_column.new.cells) in
    drops_anew flows c.args.self.now new (c.args.coflow ∷ []) has (new, returns-clause-dropped c, refl)
