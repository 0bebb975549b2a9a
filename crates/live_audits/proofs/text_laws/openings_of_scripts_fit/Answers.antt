use Rattle.live_audits.proofs.ReadBack.{opening_fits}
use Rattle.live_audits.proofs.text_laws.openings_of_scripts_fit.Goals as goal

pub returns : goal.returns
returns c = opening_fits
