use Rattle.plans.proofs.ServedSound.{right_but_for_ratio, served_has_yes}
use Rattle.plans.proofs.laws.served_report_is_right_but_for_the_ratio.Goals as goal

pub returns-clause-verdict : goal.returns-clause-verdict
returns-clause-verdict c = λ t weights line r verdict is once served stated. right_but_for_ratio t weights line r once served verdict is stated

pub returns-clause-yes : goal.returns-clause-yes
returns-clause-yes c = λ t weights line r verdict once served within stated. served_has_yes t weights line r once served verdict within stated
