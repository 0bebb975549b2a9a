use Rattle.std.proofs.Common.{false, Ok, sym, subst}
use Rattle.live_serving.specs.Openings.{GoesOn}
use Rattle.live_serving.proofs.OpeningSteps.{goes_on, rests}
use Rattle.live_serving.proofs.beside.advance.Goals as goal

pub returns-then-round-clause-driver : goal.returns-then-round-clause-driver
returns-then-round-clause-driver g c =
    subst (λ asked. GoesOn c.args.stage.now.hall.now c.args.stage.now.most asked c.args.crew.now.runner c.both.new.crew.runner c.both.result.1) (sym c.if-round.true)
    (goes_on c.args.stage.now.hall.now c.args.stage.now.most c.args.crew.now.runner c.both.new.crew.runner c.both.result.1 c.both.ensures.driver)

pub returns-clause-driver : goal.returns-clause-driver
returns-clause-driver g c =
    subst (λ asked. GoesOn c.args.stage.now.hall.now c.args.stage.now.most asked c.args.crew.now.runner c.args.crew.now.runner (Ok false)) (sym c.if-round.false)
    (rests c.args.stage.now.hall.now c.args.stage.now.most c.args.crew.now.runner c.requires.may)
