use Rattle.live_runs.proofs.WordsOfRuns.{all_worded}
use Rattle.live_runs.proofs.laws.runs_have_words.Goals as goal

pub returns : goal.returns
returns c = all_worded
