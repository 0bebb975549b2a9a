use Rattle.rankers.proofs.OneRow.{first_one, rows_one, second_one}
use Rattle.rankers.proofs.laws.rounds_are_one.Goals as goal

pub returns-clause-first : goal.returns-clause-first
returns-clause-first c = first_one

pub returns-clause-second : goal.returns-clause-second
returns-clause-second c = second_one

pub returns-clause-rows : goal.returns-clause-rows
returns-clause-rows c = rows_one
