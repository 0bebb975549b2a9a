use Rattle.std.proofs.Common.{◌≡◌, ◌*◌, ◌+◌, inl, inr, slice_index, sym, ap, ◌∙◌, arith}
use Rattle.std.proofs.lemmas.Bool.{cases_eq, cases_lt}
use Rattle.port_load.specs.CellTable.{cells_in}
use Rattle.port_load.specs.LoadTable.{load_at}
use Rattle.port_load.proofs.KeptSteps.{cell_is, none_at_port}
use Rattle.port_load.proofs.loads.Loads.next_loaded.Goals as goal

pub marked-init : goal.marked-init
marked-init c =
    let s = c.self.inside in
    let e = c.next-coflow.ensures in
    record {
      after = e.after;
      within = omega (arith, e.within, c.self.invariant.kept.port_columns);
      none = λ k le lt. none_at_port c.args.self.now s.coflows s.ports (cells_in s.cells) s.totals.items s.by_port s.by_coflow c.args.port c.row_of-row.result k
          c.self.invariant.kept c.self.view_is c.row_of-row.ensures.row c.row_of-row.ensures.within
          (omega (arith, lt, e.within, c.self.invariant.kept.port_columns)) (e.none k le lt);
    }

pub marked-preserved : goal.marked-preserved
marked-preserved c =
    let s = c.self.inside in
    let e = c.next-coflow-in-marked.ensures in
    let at = c.marked.coflow in
    let row = c.row_of-row.result in
    let read : slice_index (cells_in s.cells) (row * s.coflows + at) ≡ 0 =
    omega (arith, c.if-get-gt0.false, c.get.ensures, ap (λ n. slice_index (cells_in s.cells) (row * n + at)) c.self.invariant.columns) in
    let here : load_at c.args.self.now at c.args.port ≡ 0 =
    sym (cell_is c.args.self.now s.coflows s.ports (cells_in s.cells) at row c.args.port c.self.view_is c.row_of-row.ensures.row) ∙ read in
    record {
      after = omega (arith, e.after, c.marked.invariant.after);
      within = omega (arith, e.within, c.self.invariant.kept.port_columns);
      none = λ k le lt. elim (cases_lt k at) [
        | inl old ↦ c.marked.invariant.none k le old
        | inr new ↦ elim (cases_eq k at) [
          | inl same ↦ ap (λ j. load_at c.args.self.now j c.args.port) same ∙ here
          | inr ne ↦ none_at_port c.args.self.now s.coflows s.ports (cells_in s.cells) s.totals.items s.by_port s.by_coflow c.args.port row k c.self.invariant.kept c.self.view_is
              c.row_of-row.ensures.row c.row_of-row.ensures.within
              (omega (arith, lt, e.within, c.self.invariant.kept.port_columns)) (e.none k (omega (arith, ne)) lt)
        ]
      ];
    }
