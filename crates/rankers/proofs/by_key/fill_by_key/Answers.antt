use Rattle.std.proofs.Common.{◌≡◌, length, arith}
use Rattle.rankers.specs.ByKey.{by_key, key_in}
use Rattle.rankers.proofs.KeyOrders.{by_key_below, sorted_is}
use Rattle.rankers.proofs.by_key.fill_by_key.Goals as goal

pub returns : goal.returns
returns c =
    let order : c.sort_by_key.new.numbers ≡ by_key (key_in c.args.keys.now) (length c.args.out.now) =
    sorted_is 4294967296 (key_in c.args.keys.now) (length c.args.out.now) c.number.new.out c.sort_by_key.new.numbers c.requires c.number.ensures c.sort_by_key.ensures.moved
    c.sort_by_key.ensures.sorted in
    record {
      order = order;
      known = by_key_below (key_in c.args.keys.now) (length c.args.out.now) (length c.args.out.now) c.sort_by_key.new.numbers order (omega arith);
    }
