use Rattle.schedule_model.proofs.CoflowEnds.{coflow_short}
use Rattle.schedule_model.proofs.WaitingLaw.{short_law}
use Rattle.schedule_model.proofs.laws.patient_is_short.Goals as goal

pub returns-clause-flow : goal.returns-clause-flow
returns-clause-flow c = short_law

pub returns-clause-coflow : goal.returns-clause-coflow
returns-clause-coflow c = coflow_short
