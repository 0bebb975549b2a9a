use Rattle.live_rounds.proofs.ClientsTold.{clients_are_sessions, clients_keep_levels}
use Rattle.live_rounds.proofs.laws.clients_do_their_scripts.Goals as goal

pub returns-clause-sessions : goal.returns-clause-sessions
returns-clause-sessions c = clients_are_sessions

pub returns-clause-levels : goal.returns-clause-levels
returns-clause-levels c = clients_keep_levels
