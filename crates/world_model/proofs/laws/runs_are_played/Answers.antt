use Rattle.world_model.proofs.PlayedRuns.{runs_are_played, runs_are_taken}
use Rattle.world_model.proofs.laws.runs_are_played.Goals as goal

pub returns-clause-taken : goal.returns-clause-taken
returns-clause-taken c = runs_are_taken

pub returns-clause-played : goal.returns-clause-played
returns-clause-played c = runs_are_played
