use Rattle.journal.proofs.Leaving.{leaves_push, others_leave}
use Rattle.journal.proofs.run_laws.others_leave_runs.Goals as goal

pub returns-clause-reply : goal.returns-clause-reply
returns-clause-reply c = leaves_push

pub returns-clause-commands : goal.returns-clause-commands
returns-clause-commands c = others_leave
