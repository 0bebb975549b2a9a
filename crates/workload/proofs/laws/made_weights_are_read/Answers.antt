use Rattle.workload.proofs.MadeTexts.{made_weights_pass, made_weights_say, made_weights_short}
use Rattle.workload.proofs.laws.made_weights_are_read.Goals as goal

pub returns-clause-short : goal.returns-clause-short
returns-clause-short c = made_weights_short

pub returns-clause-reads : goal.returns-clause-reads
returns-clause-reads c = made_weights_pass

pub returns-clause-are : goal.returns-clause-are
returns-clause-are c = made_weights_say
