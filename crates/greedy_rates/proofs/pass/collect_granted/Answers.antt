-- The flow at the next ingress is listed, where there is one.
use Rattle.std.proofs.Common.{take, arith, length-set, ◌∙◌}
use Rattle.greedy_rates.proofs.ListSteps.{list_skips, list_takes}
use Rattle.greedy_rates.proofs.pass.collect_granted.Goals as goal

pub loop-stands-preserved-in_default : goal.loop-stands-preserved-in_default
loop-stands-preserved-in_default c =
    let before = c.loop-stands.invariant in
    record {
      length_is = before.length_is;
      count_fits = omega (arith, before.count_fits);
      listing = list_skips c.args.at.now c.loop-stands.stands-index (take c.loop-stands.count c.loop-stands.listed) c.in_default.is before.listing;
    }

pub loop-stands-preserved : goal.loop-stands-preserved
loop-stands-preserved c =
    let before = c.loop-stands.invariant in
    record {
      length_is = length-set c.loop-stands.listed c.loop-stands.count c.in-Some.flow ∙ before.length_is;
      count_fits = omega (arith, before.count_fits);
      listing = list_takes c.args.at.now c.loop-stands.stands-index c.loop-stands.count c.in-Some.flow c.loop-stands.listed c.requires.once c.in-Some.is
          (omega (arith, before.count_fits, before.length_is, c.requires.room, c.loop-stands-test.true)) before.listing;
    }
