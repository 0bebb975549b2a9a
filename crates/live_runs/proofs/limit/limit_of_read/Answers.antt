use Rattle.std.proofs.Common.{[], arith, refl}
use Rattle.journal.specs.declared.opening.Opening.{Opening}
use Rattle.live_runs.proofs.ScriptsRead.{read_is_short}
use Rattle.live_runs.proofs.limit.limit_of_read.Goals as goal

pub unreachable-requires : goal.unreachable-requires
unreachable-requires c =
    let o : Opening = record { table = c.args.table.now; weights = []; limit = 0 } in
    omega (arith, c.journal_limit.ensures.none o c.in-None.is refl, read_is_short o c.args.script.now c.requires.read c.requires.units)
