-- The flow at an ingress, where a run is open.
use Rattle.std.proofs.Common.{◌∙◌, Option, ap, sym}
use Rattle.master_core.specs.OpenRun.{KeptRun, KeptRuns, flow_kept}
use Rattle.master_core.proofs.KeptSteps.{run_is}
use Rattle.master_core.proofs.GrantSteps.{at_told}
use Rattle.master_core.proofs.runs.Runs.at.Goals as goal

pub returns-in-Some : goal.returns-in-Some
returns-in-Some c =
    let m = c.self.inside.grants in
    let run = run_is m c.self.inside.noted.items c.self.inside.current c.in-Some.field-0 c.args.self.now.run (ap (λ (v : KeptRuns). v.run) c.self.view_is) c.in-Some.is in
    at_told m c.args.ingress c.at.result c.at.ensures ∙ sym (ap (λ (z : Option KeptRun). flow_kept z c.args.ingress) run)
