use Rattle.std.proofs.Common.{refl}
use Rattle.journal.specs.declared.command.Command.TheVariants.{Short}
use Rattle.slot_runner.proofs.Turns.{finds_room}
use Rattle.slot_runner.proofs.settling.note.Goals as goal

-- src/settling.rt:94:33
pub unreachable-requires : goal.unreachable-requires
unreachable-requires g c = let (start, d, under) = c.requires.run in finds_room c.args.hall.now.setting.opening start d (Short c.args.port c.args.sent) c.args.driver.now
    c.short.new.self c.in-Full._count refl under (c.short.ensures.turn.full c.in-Full._count c.in-Full.is)

-- src/settling.rt:83:1
pub returns-clause-done : goal.returns-clause-done
returns-clause-done g c = (c.in-Done._receipt, c.short.ensures.turn.done c.in-Done._receipt c.in-Done.is)
