use Rattle.std.proofs.Common.{length}
use Rattle.crews.proofs.serving.finish.Goals as goal

pub returns-clause-station : goal.returns-clause-station
returns-clause-station g c = (
  record { giver = c.args.giver; outlets = c.put_back.new.outlets },
  c.push_reserved.ensures.items,
  λ i. (c.args.giver, length (c.put_back.ensures.none i), c.put_back.ensures.room i),
)
