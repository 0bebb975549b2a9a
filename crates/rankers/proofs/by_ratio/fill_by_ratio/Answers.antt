use Rattle.std.proofs.Common.{length}
use Rattle.rankers.specs.Kinds.{ratio_in}
use Rattle.rankers.proofs.KeyOrders.{sorted_is}
use Rattle.rankers.proofs.by_ratio.fill_by_ratio.Goals as goal

pub returns : goal.returns
returns c = sorted_is 4096 (ratio_in c.args.facts.now) (length c.args.out.now) c.number.new.out c.sort_by_ratio.new.coflows c.requires c.number.ensures
    c.sort_by_ratio.ensures.moved c.sort_by_ratio.ensures.sorted
