-- the lines so far may be asked
use Rattle.std.proofs.Common.{take}
use Rattle.std.specs.Prelude.{All}
use Rattle.live_rounds.specs.Rounds.{MayAsk}
use Rattle.run_tests.proofs.rounds.check_lines.Given as goal

abbrev pub invariant-loop-line : goal.invariant-loop-line
invariant-loop-line g l = All (MayAsk l.hall.setting.opening 2) (take l.line-index l.lines)
