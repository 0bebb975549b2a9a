use Rattle.journal.proofs.Instances.{left_is_instance}
use Rattle.journal.proofs.laws.left_is_instance.Goals as goal

pub returns : goal.returns
returns c = left_is_instance
