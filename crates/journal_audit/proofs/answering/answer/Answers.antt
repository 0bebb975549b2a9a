use Rattle.journal.proofs.Sound.{legal_sound}
use Rattle.journal_audit.proofs.EntriesAnew.{entry_anew, passed}
use Rattle.journal_audit.proofs.answering.answer.Goals as goal

pub push_closing_run-requires-clause-sound : goal.push_closing_run-requires-clause-sound
push_closing_run-requires-clause-sound c = legal_sound c.args.master.now.opening c.args.master.now.journal c.requires.before.legal c.requires.before.in_range

pub push_closing_run-requires-clause-passed : goal.push_closing_run-requires-clause-passed
push_closing_run-requires-clause-passed c = passed c.args.master.now.opening c.args.master.now.journal c.args.schedule.now c.requires.before

pub returns-clause-after : goal.returns-clause-after
returns-clause-after c =
    entry_anew c.args.master.now.opening c.args.master.now.journal c.step.new.self.journal c.args.schedule.now c.push_closing_run.new.schedule c.args.who c.args.command
    c.step.result c.requires.before c.requires.room c.requires.range c.requires.plain c.step.ensures.reply c.step.ensures.journal c.in_ok-push_closing_run.ensures
