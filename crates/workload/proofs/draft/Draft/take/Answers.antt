use Rattle.workload.proofs.Rounds.{asked, ended}
use Rattle.workload.proofs.draft.Draft.take.Goals as goal

pub returns-in_ok-push-in-Ask-clause-rounds : goal.returns-in_ok-push-in-Ask-clause-rounds
returns-in_ok-push-in-Ask-clause-rounds c rest =
    asked c.args.self.now.rounds.items c.args.self.now.lines.items c.push.new.self.items c.args.step c.in-Ask.line rest c.in_ok-push-in-Ask.ensures.items c.in-Ask.is

pub returns-in_ok-end_round-in-Ends-clause-rounds : goal.returns-in_ok-end_round-in-Ends-clause-rounds
returns-in_ok-end_round-in-Ends-clause-rounds c rest =
    ended c.args.self.now.rounds.items c.end_round.new.self.rounds.items c.args.self.now.lines.items c.end_round.new.self.lines.items c.runs.result c.args.step c.in-Ends.end rest
    c.in_ok-end_round-in-Ends.ensures.rounds c.in_ok-end_round-in-Ends.ensures.lines c.in-Ends.is c.runs.ensures
