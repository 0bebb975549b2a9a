use Rattle.std.proofs.Common.{ap}
use Rattle.master_core.specs.OpenRun.{KeptRuns}
use Rattle.master_core.proofs.KeptSteps.{current_told}
use Rattle.master_core.proofs.runs.Runs.current.Goals as goal

pub returns : goal.returns
returns c =
    current_told c.self.inside.grants c.self.inside.noted.items c.self.inside.current c.args.self.now.run (ap (λ (v : KeptRuns). v.run) c.self.view_is) c.self.invariant.count
