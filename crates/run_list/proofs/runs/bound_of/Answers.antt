use Rattle.std.proofs.Common.{arith}
use Rattle.run_list.proofs.Merging.{last_is_greatest}
use Rattle.run_list.proofs.runs.bound_of.Goals as goal

pub returns-in-Some : goal.returns-in-Some
returns-in-Some c = λ k d lt. omega (arith, last_is_greatest c.args.numbers.now c.requires k d lt, c.in-Some.ensures.item.3.1 0)
