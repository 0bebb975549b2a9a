use Rattle.replays.proofs.Charges.{charged_all, charged_more}
use Rattle.replays.proofs.recording.charges_of.Goals as goal

pub loop-coflow-preserved : goal.loop-coflow-preserved
loop-coflow-preserved c = λ none.
    charged_more c.args.charges.now c.args.line.now c.loop-coflow.coflow-index none _ _ _ c.loop-coflow-test.true c.requires (c.loop-coflow.invariant none)
    c.in_ok-push.ensures.items

pub returns : goal.returns
returns c = λ none. charged_all c.args.charges.now c.args.line.now c.loop-coflow.coflow-index none _ c.loop-coflow-test.false (c.loop-coflow.invariant none)
