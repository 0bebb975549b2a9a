use Rattle.journal.proofs.Ingresses.{grant_at, no_grant_at}
use Rattle.journal.proofs.run_laws.grants_at_ingresses.Goals as goal

pub returns-clause-some : goal.returns-clause-some
returns-clause-some c = grant_at

pub returns-clause-none : goal.returns-clause-none
returns-clause-none c = no_grant_at
