use Rattle.live_runs.proofs.ScriptsRead.{read_clients, read_is_asked, read_is_short}
use Rattle.live_runs.proofs.laws.scripts_may_be_asked.Goals as goal

pub returns-clause-asked : goal.returns-clause-asked
returns-clause-asked c = λ o script read. read_is_asked o script read

pub returns-clause-clients : goal.returns-clause-clients
returns-clause-clients c = λ ids script read. read_clients ids script read

pub returns-clause-limit : goal.returns-clause-limit
returns-clause-limit c = λ o script read few. read_is_short o script read few
