use Rattle.replays.proofs.line.Line.pass.Goals as goal

pub returns-clause-settled : goal.returns-clause-settled
returns-clause-settled c = λ flows line left lower settled less.
    c.repair.ensures.settled flows line lower (c.take_run.ensures.matching flows line left lower settled less)
