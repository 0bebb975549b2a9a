use Rattle.std.proofs.Common.{arith}
use Rattle.picture.proofs.Keeping.{join_is}
use Rattle.picture.proofs.row.PortBars.join.Goals as goal

pub returns-then-last-stretch-2 : goal.returns-then-last-stretch-2
returns-then-last-stretch-2 c =
    join_is c.self.inside.bars.items c.args.self.now c.len-count.result c.index-last.result.now c.args.stretch c.self.view_is (omega (
      arith,
      c.len-count.ensures,
      c.self.inside.bars.ok.0,
    )) (omega (arith, c.if-count-eq0.false))
    c.index-last.ensures c.if-last-stretch.true c.if-last-stretch-2.true c.requires.counted
