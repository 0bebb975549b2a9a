use Rattle.live_model.proofs.PullLines.{missing_pull, other_rank, unknown_version}
use Rattle.live_model.proofs.laws.wrong_pull_lines_are_refused.Goals as goal

pub returns-clause-other_rank : goal.returns-clause-other_rank
returns-clause-other_rank c = other_rank

pub returns-clause-unknown_version : goal.returns-clause-unknown_version
returns-clause-unknown_version c = unknown_version

pub returns-clause-missing_pull : goal.returns-clause-missing_pull
returns-clause-missing_pull c = missing_pull
