-- A script that is being read.
use Rattle.std.specs.Prelude.{List, [], ◌∷◌, ◌++◌}
use Rattle.workload.specs.Script.{put_first}
use Rattle.workload.specs.declared.script.Round.{Round}
use Rattle.workload.specs.declared.script.ScriptLine.{ScriptLine}

-- Commands before the rounds of the lines behind them.
abbrev pub put_all : List ScriptLine → List Round → List Round
put_all [] rounds = rounds
put_all (x ∷ xs) rounds = put_first x (put_all xs rounds)

-- The rounds that have ended, and then those of the commands and of the lines behind them.
abbrev pub all_rounds : List Round → List ScriptLine → List Round → List Round
all_rounds rounds lines rest = rounds ++ put_all lines rest
