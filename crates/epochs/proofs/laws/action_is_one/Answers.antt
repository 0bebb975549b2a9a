use Rattle.epochs.proofs.OneAction.{one_action}
use Rattle.epochs.proofs.laws.action_is_one.Goals as goal

pub returns : goal.returns
returns c = one_action
