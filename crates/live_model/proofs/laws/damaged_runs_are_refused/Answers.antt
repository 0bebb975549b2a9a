use Rattle.live_model.proofs.Damaged.{crossed_rounds, missing_entry, sent_twice}
use Rattle.live_model.proofs.laws.damaged_runs_are_refused.Goals as goal

pub returns-clause-sent_twice : goal.returns-clause-sent_twice
returns-clause-sent_twice c = sent_twice

pub returns-clause-missing_entry : goal.returns-clause-missing_entry
returns-clause-missing_entry c = missing_entry

pub returns-clause-crossed_rounds : goal.returns-clause-crossed_rounds
returns-clause-crossed_rounds c = crossed_rounds
