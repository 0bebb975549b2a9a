use Rattle.sincronia_cli.proofs.FirstFacts.{first_cause_one}
use Rattle.sincronia_cli.proofs.laws.first_cause_is_one.Goals as goal

pub returns : goal.returns
returns c = first_cause_one
