-- One line more.
use Rattle.std.proofs.Common.{subst}
use Rattle.std.specs.Prelude.{All}
use Rattle.std.proofs.lemmas.List.{take_all}
use Rattle.std.proofs.lemmas.List.Elements.{All-more}
use Rattle.live_rounds.specs.Rounds.{MayAsk}
use Rattle.run_tests.proofs.rounds.check_lines.Goals as goal

pub loop-line-preserved : goal.loop-line-preserved
loop-line-preserved g c =
    All-more (MayAsk c.args.hall.now.setting.opening 2) c.args.lines.now c.loop-line.line-index _ c.loop-line-test.true c.loop-line.invariant c.check_line.ensures

pub returns : goal.returns
returns g c =
    subst (All (MayAsk c.args.hall.now.setting.opening 2)) (take_all c.loop-line.line-index c.args.lines.now c.loop-line-test.false) c.loop-line.invariant
