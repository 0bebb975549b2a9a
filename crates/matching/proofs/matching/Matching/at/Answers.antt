use Rattle.matching.proofs.matching.Matching.at.Goals as goal

pub returns : goal.returns
returns c = rw (← c.self.view_is) c.at-flow.ensures
