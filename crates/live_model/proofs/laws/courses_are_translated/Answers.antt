use Rattle.live_model.proofs.Translated.{sessions_do_script, sessions_tell_versions}
use Rattle.live_model.proofs.laws.courses_are_translated.Goals as goal

pub returns-clause-script : goal.returns-clause-script
returns-clause-script c = sessions_do_script

pub returns-clause-versions : goal.returns-clause-versions
returns-clause-versions c = sessions_tell_versions
