use Rattle.std.proofs.Common.{◌+◌, ◌*◌, ap, ◌∙◌}
use Rattle.std.specs.Prelude.{slice_index}
use Rattle.port_load.specs.CellTable.{cells_in}
use Rattle.port_load.proofs.KeptSteps.{cell_is}
use Rattle.port_load.proofs.loads.Loads.get.Goals as goal

pub returns : goal.returns
returns c =
    let s = c.self.inside in
    let row = c.row_of.result in
    c.get.ensures ∙ ap (λ n. slice_index (cells_in s.cells) (row * n + c.args.coflow)) c.self.invariant.columns
    ∙ cell_is c.args.self.now s.coflows s.ports (cells_in s.cells) c.args.coflow row c.args.port c.self.view_is c.row_of.ensures.row
