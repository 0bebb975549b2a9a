use Rattle.std.proofs.Common.{arith}
use Rattle.picture.proofs.LogSteps.{doubled_all, doubled_more, doubled_none, few_doublings}
use Rattle.picture.proofs.log.doublings.Goals as goal

pub loop-doubled-init : goal.loop-doubled-init
loop-doubled-init c = doubled_none c.args.b c.args.c c.requires.above

pub loop-doubled-preserved : goal.loop-doubled-preserved
loop-doubled-preserved c =
    doubled_more c.args.b c.args.c c.loop-doubled.doubled c.loop-doubled.count c.requires.some c.requires.small c.loop-doubled.invariant c.loop-doubled-test.true

pub returns : goal.returns
returns c =
    let is = c.loop-doubled.invariant in
    record {
      count = doubled_all c.args.b c.args.c c.loop-doubled.doubled c.loop-doubled.count is c.loop-doubled-test.false;
      most = few_doublings c.args.b c.args.c c.loop-doubled.doubled c.loop-doubled.count c.requires.some c.requires.small is;
      within = omega (arith, is.within, is.doubled_is);
      next = omega (arith, c.loop-doubled-test.false, is.doubled_is);
    }

pub overflow_add-count : goal.overflow_add-count
overflow_add-count c =
    omega (arith, few_doublings c.args.b c.args.c c.loop-doubled.doubled c.loop-doubled.count c.requires.some c.requires.small c.loop-doubled.invariant)
