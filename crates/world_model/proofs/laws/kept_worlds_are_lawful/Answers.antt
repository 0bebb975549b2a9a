use Rattle.world_model.proofs.LawfulWorlds.{closes_as_sent, opens_grants, opens_patiently, sends_in_time, sends_once, sends_within}
use Rattle.world_model.proofs.laws.kept_worlds_are_lawful.Goals as goal

pub returns-clause-once : goal.returns-clause-once
returns-clause-once c = sends_once

pub returns-clause-within : goal.returns-clause-within
returns-clause-within c = sends_within

pub returns-clause-credited : goal.returns-clause-credited
returns-clause-credited c = closes_as_sent

pub returns-clause-granted : goal.returns-clause-granted
returns-clause-granted c = opens_grants

pub returns-clause-patient : goal.returns-clause-patient
returns-clause-patient c = opens_patiently

pub returns-clause-in_time : goal.returns-clause-in_time
returns-clause-in_time c = sends_in_time
