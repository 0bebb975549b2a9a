use Rattle.std.proofs.Common.{refl}
use Rattle.journal.specs.declared.command.Command.TheVariants.{Close}
use Rattle.slot_runner.proofs.Turns.{finds_room}
use Rattle.slot_runner.proofs.settling.close_run.Goals as goal

-- src/settling.rt:110:33
pub unreachable-requires : goal.unreachable-requires
unreachable-requires g c = let (start, d, under) = c.requires.run in finds_room c.args.hall.now.setting.opening start d Close c.args.driver.now c.close_run.new.self
    c.in-Full._count refl under (c.close_run.ensures.turn.full c.in-Full._count c.in-Full.is)

-- src/settling.rt:100:1
pub returns-clause-done : goal.returns-clause-done
returns-clause-done g c = (c.in-Done._receipt, c.close_run.ensures.turn.done c.in-Done._receipt c.in-Done.is)
