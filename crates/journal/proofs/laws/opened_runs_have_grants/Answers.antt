use Rattle.journal.proofs.Opened.{opened_grants, run_length_is}
use Rattle.journal.proofs.laws.opened_runs_have_grants.Goals as goal

pub returns-clause-run : goal.returns-clause-run
returns-clause-run c = opened_grants

pub returns-clause-length : goal.returns-clause-length
returns-clause-length c = run_length_is
