use Rattle.std.proofs.Common.{zero-add}
use Rattle.picture.specs.Svg.{swatch_text}
use Rattle.picture.proofs.TextSteps.{number_more}
use Rattle.picture.proofs.legend.push_swatches.Goals as goal

pub loop-k-preserved : goal.loop-k-preserved
loop-k-preserved c =
    number_more (swatch_text c.args.picture.now) 0 c.loop-k.k c.loop-k.k c.args.text.now.items c.loop-k.text.items c.push_swatch.new.text.items
    (zero-add c.loop-k.k) c.loop-k.invariant c.in_ok-push_swatch.ensures
