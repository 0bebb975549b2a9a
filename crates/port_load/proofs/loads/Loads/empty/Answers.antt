use Rattle.std.proofs.Common.{◌+◌, ◌*◌, ap, ◌∙◌, arith}
use Rattle.std.specs.Prelude.{slice_index}
use Rattle.coflow_units.specs.Ordering.{port_place}
use Rattle.port_load.specs.CellTable.{cells_in}
use Rattle.port_load.proofs.KeptSteps.{kept_nought, nought_at}
use Rattle.port_load.proofs.loads.Loads.empty.Goals as goal

pub invariant_of-result : goal.invariant_of-result
invariant_of-result c = record {
  rows = c.in_ok-cells.ensures.rows_are ∙ omega arith;
  columns = c.in_ok-cells.ensures.columns_are;
  kept = kept_nought c.args.coflows c.args.ports ((2 * c.args.ports) * c.args.coflows) (2 * c.args.ports) (cells_in c.in_ok-cells.cells) c.in_ok-totals.totals.items
      c.in_ok-by_port.by_port c.in_ok-by_coflow.by_coflow
      c.requires.coflows_limit c.requires.has_ports c.requires.ports_limit c.in_ok-cells.ensures.cells (omega arith) (c.in_ok-totals.ensures.items_if_clones_equal (λ y e. e))
      (omega arith)
      record { rows_are = c.in_ok-by_port.ensures.rows_are ∙ omega arith; columns_are = c.in_ok-by_port.ensures.columns_are }
      record { rows_are = c.in_ok-by_coflow.ensures.rows_are; columns_are = c.in_ok-by_coflow.ensures.columns_are ∙ omega arith };
}

pub returns-clause-none : goal.returns-clause-none
returns-clause-none c = λ coflow port.
    let k = port_place c.args.ports port * c.args.coflows + coflow in
    ap (λ xs. slice_index xs k) c.in_ok-cells.ensures.cells ∙ nought_at ((2 * c.args.ports) * c.args.coflows) k
