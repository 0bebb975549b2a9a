use Rattle.world_model.specs.World.{new_world}
use Rattle.world_model.specs.Steps.{world_of}
use Rattle.world_model.proofs.LawfulWorlds.{closes_as_sent, opens_grants, opens_patiently, played, sends_in_time, sends_once, sends_within}
use Rattle.world_model.proofs.laws.worlds_are_lawful.Goals as goal

pub returns-clause-legal : goal.returns-clause-legal
returns-clause-legal c = λ o agents events ok. (played o agents events ok).legal

pub returns-clause-once : goal.returns-clause-once
returns-clause-once c = λ o agents events ok. sends_once (world_of (new_world o agents) events) (played o agents events ok)

pub returns-clause-within : goal.returns-clause-within
returns-clause-within c = λ o agents events ok. sends_within (world_of (new_world o agents) events) (played o agents events ok)

pub returns-clause-in_time : goal.returns-clause-in_time
returns-clause-in_time c = λ o agents events ok. sends_in_time (world_of (new_world o agents) events) (played o agents events ok)

pub returns-clause-credited : goal.returns-clause-credited
returns-clause-credited c = λ o agents events ok. closes_as_sent (world_of (new_world o agents) events) (played o agents events ok)

pub returns-clause-granted : goal.returns-clause-granted
returns-clause-granted c = λ o agents events ok. opens_grants (world_of (new_world o agents) events) (played o agents events ok)

pub returns-clause-patient : goal.returns-clause-patient
returns-clause-patient c = λ o agents events ok. opens_patiently (world_of (new_world o agents) events)
