use Rattle.replays.proofs.OneReplay.{next_count, not_too_many, one_replayed, one_schedule}
use Rattle.replays.proofs.laws.replays_are_one.Goals as goal

pub returns-clause-slots : goal.returns-clause-slots
returns-clause-slots c = one_schedule c.action_is_one.ensures

pub returns-clause-one : goal.returns-clause-one
returns-clause-one c = one_replayed c.action_is_one.ensures

pub returns-clause-too_many : goal.returns-clause-too_many
returns-clause-too_many c = not_too_many c.action_is_one.ensures

pub returns-clause-count : goal.returns-clause-count
returns-clause-count c = next_count
