use Rattle.live_model.proofs.Damaged.{near_pull, stale_pull, unmade_version}
use Rattle.live_model.proofs.DamagedPlaces.{falling_version, foreseen_version}
use Rattle.live_model.proofs.laws.wrong_versions_are_refused.Goals as goal

pub returns-clause-stale_pull : goal.returns-clause-stale_pull
returns-clause-stale_pull c = stale_pull

pub returns-clause-falling_version : goal.returns-clause-falling_version
returns-clause-falling_version c = falling_version

pub returns-clause-unmade_version : goal.returns-clause-unmade_version
returns-clause-unmade_version c = unmade_version

pub returns-clause-foreseen_version : goal.returns-clause-foreseen_version
returns-clause-foreseen_version c = foreseen_version

pub returns-clause-near_pull : goal.returns-clause-near_pull
returns-clause-near_pull c = near_pull
