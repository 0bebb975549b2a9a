use Rattle.coflow_units.proofs.PortWordLaws.{same_granted, same_drawn, same_reported, granted_not_drawn, granted_not_reported, drawn_not_reported, granted_not_zero, drawn_not_zero}
use Rattle.coflow_units.proofs.PortWordLaws.{reported_not_zero}
use Rattle.coflow_units.proofs.laws.port_words_tell.Goals as goal

pub returns-clause-same : goal.returns-clause-same
returns-clause-same c = same_granted

pub returns-clause-granted : goal.returns-clause-granted
returns-clause-granted c = granted_not_drawn

pub returns-clause-drawn : goal.returns-clause-drawn
returns-clause-drawn c = drawn_not_reported

pub returns-clause-granted_reported : goal.returns-clause-granted_reported
returns-clause-granted_reported c = granted_not_reported

pub returns-clause-same_drawn : goal.returns-clause-same_drawn
returns-clause-same_drawn c = same_drawn

pub returns-clause-same_reported : goal.returns-clause-same_reported
returns-clause-same_reported c = same_reported

pub returns-clause-granted_not_zero : goal.returns-clause-granted_not_zero
returns-clause-granted_not_zero c = granted_not_zero

pub returns-clause-drawn_not_zero : goal.returns-clause-drawn_not_zero
returns-clause-drawn_not_zero c = drawn_not_zero

pub returns-clause-reported_not_zero : goal.returns-clause-reported_not_zero
returns-clause-reported_not_zero c = reported_not_zero
