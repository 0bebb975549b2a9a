use Rattle.matching.proofs.matching.Matching.take_run.Goals as goal

pub returns-clause-matching : goal.returns-clause-matching
returns-clause-matching c = rw (← c.self.view_is) c.take_run.ensures.matching
