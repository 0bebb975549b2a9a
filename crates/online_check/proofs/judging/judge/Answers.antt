use Rattle.online_check.proofs.judging.judge.Goals as goal

pub returns-in-Plan-clause-yes : goal.returns-in-Plan-clause-yes
returns-in-Plan-clause-yes c = rw c.in-Plan.is c.judge_plan.ensures.yes

pub returns-in-Online-clause-yes : goal.returns-in-Online-clause-yes
returns-in-Online-clause-yes c = rw c.in-Online.is c.judge_online.ensures.yes
