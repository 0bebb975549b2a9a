use Rattle.world_model.proofs.RowChecks.{doubled, drawn_twice, listed, listed_makes_run, sends_nothing, shorts, strangers, turns, unreported}
use Rattle.world_model.proofs.laws.rows_hold.Goals as goal

pub returns-clause-turns : goal.returns-clause-turns
returns-clause-turns c = turns

pub returns-clause-shorts : goal.returns-clause-shorts
returns-clause-shorts c = shorts

pub returns-clause-strangers : goal.returns-clause-strangers
returns-clause-strangers c = strangers

pub returns-clause-sends_nothing : goal.returns-clause-sends_nothing
returns-clause-sends_nothing c = sends_nothing

pub returns-clause-doubled : goal.returns-clause-doubled
returns-clause-doubled c = doubled

pub returns-clause-listed : goal.returns-clause-listed
returns-clause-listed c = listed

pub returns-clause-listed_makes_run : goal.returns-clause-listed_makes_run
returns-clause-listed_makes_run c = listed_makes_run

pub returns-clause-unreported : goal.returns-clause-unreported
returns-clause-unreported c = unreported

pub returns-clause-drawn_twice : goal.returns-clause-drawn_twice
returns-clause-drawn_twice c = drawn_twice
