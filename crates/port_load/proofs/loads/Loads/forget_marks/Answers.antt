use Rattle.port_load.specs.CellTable.{cells_in}
use Rattle.port_load.proofs.KeptSteps.{kept_unmarked}
use Rattle.port_load.proofs.loads.Loads.forget_marks.Goals as goal

pub invariant_of-self : goal.invariant_of-self
invariant_of-self c =
    let s = c.self.inside in
    record {
      rows = c.self.invariant.rows;
      columns = c.self.invariant.columns;
      kept = kept_unmarked c.args.self.now s.coflows s.ports (cells_in s.cells) s.totals.items s.by_port s.by_coflow c.clear.new.self c.clear-2.new.self c.self.invariant.kept
          c.self.view_is c.requires.none c.clear.ensures.shape c.clear-2.ensures.shape;
    }
