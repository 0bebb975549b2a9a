use Rattle.outside.proofs.FileSteps.{copy_moves}
use Rattle.outside.proofs.files.copy_some.Goals as goal

pub returns-clause-moves : goal.returns-clause-moves
returns-clause-moves c =
    copy_moves c.args.bytes.now c.args.buffer.now c.copy_from_slice.new.self c.args.taken c.min-start.result c.min.result c.size.result c.min-count.result c.min-start.ensures
    c.copy_from_slice.ensures.after
    c.min.ensures c.min-count.ensures c.size.ensures.some c.requires
