use Rattle.matching.proofs.matching.Matching.take.Goals as goal

pub returns-clause-matching : goal.returns-clause-matching
returns-clause-matching c = rw (← c.self.view_is) c.take.ensures.matching

pub returns-clause-others : goal.returns-clause-others
returns-clause-others c = rw (← c.self.view_is) c.take.ensures.others
