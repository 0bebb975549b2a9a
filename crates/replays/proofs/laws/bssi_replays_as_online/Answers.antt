use Rattle.replays.proofs.AsOnline.{never_ends_online, never_replayed, same_cost, same_schedule}
use Rattle.replays.proofs.laws.bssi_replays_as_online.Goals as goal

pub returns-clause-slots : goal.returns-clause-slots
returns-clause-slots c = same_schedule c.action_is_one.ensures

pub returns-clause-row : goal.returns-clause-row
returns-clause-row c = same_cost c.action_is_one.ensures

pub returns-clause-too_many : goal.returns-clause-too_many
returns-clause-too_many c = never_ends_online c.action_is_one.ensures

pub returns-clause-online_too_many : goal.returns-clause-online_too_many
returns-clause-online_too_many c = never_replayed c.action_is_one.ensures
