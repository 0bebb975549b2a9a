use Rattle.std.proofs.Common.{[], length, ap, arith}
use Rattle.run_list.proofs.Keeping.{length-runs_of}
use Rattle.run_list.proofs.runs.Runs.count.Goals as goal

pub returns : goal.returns
returns c = omega (arith, length-runs_of [] c.self.inside.marks.items c.self.inside.numbers.items, ap length c.self.view_is)
