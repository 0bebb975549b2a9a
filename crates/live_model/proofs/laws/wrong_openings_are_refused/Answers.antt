use Rattle.live_model.proofs.Damaged.{unopened_round}
use Rattle.live_model.proofs.DamagedPlaces.{early_opening, late_opening, nothing_twice, wrong_most}
use Rattle.live_model.proofs.laws.wrong_openings_are_refused.Goals as goal

pub returns-clause-unopened_round : goal.returns-clause-unopened_round
returns-clause-unopened_round c = unopened_round

pub returns-clause-early_opening : goal.returns-clause-early_opening
returns-clause-early_opening c = early_opening

pub returns-clause-late_opening : goal.returns-clause-late_opening
returns-clause-late_opening c = late_opening

pub returns-clause-nothing_twice : goal.returns-clause-nothing_twice
returns-clause-nothing_twice c = nothing_twice

pub returns-clause-wrong_most : goal.returns-clause-wrong_most
returns-clause-wrong_most c = wrong_most
