use Rattle.live_model.proofs.LevelSteps.{levels_keep_rounds, levels_make, levels_move, levels_show, made_before}
use Rattle.live_model.proofs.laws.levels_tell.Goals as goal

pub returns-clause-rounds : goal.returns-clause-rounds
returns-clause-rounds c = levels_keep_rounds

pub returns-clause-moved : goal.returns-clause-moved
returns-clause-moved c = levels_move

pub returns-clause-seen : goal.returns-clause-seen
returns-clause-seen c = levels_show

pub returns-clause-made : goal.returns-clause-made
returns-clause-made c = levels_make

pub returns-clause-made_before : goal.returns-clause-made_before
returns-clause-made_before c = made_before
