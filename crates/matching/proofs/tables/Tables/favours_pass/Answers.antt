use Rattle.std.proofs.Common.{arith}
use Rattle.matching.proofs.tables.Tables.favours_pass.Goals as goal

pub index-first-requires : goal.index-first-requires
index-first-requires c = omega (arith, c.requires, c.if-self.false, c.if-rows-self.true)
