-- The ports of the granted flows, where a run is open.
use Rattle.std.proofs.Common.{◌∙◌, Option, ap, get_or, map, sym}
use Rattle.coflow_units.specs.Flows.{ingress_of}
use Rattle.master_core.specs.OpenRun.{KeptRun, KeptRuns, flows_kept}
use Rattle.master_core.proofs.CloseTells.{fits_kept}
use Rattle.master_core.proofs.KeptSteps.{run_is, run_of}
use Rattle.master_core.proofs.runs.Runs.ports.Goals as goal

pub returns-in-Some : goal.returns-in-Some
returns-in-Some c = λ flows owed fits.
    let m = c.self.inside.grants in
    let noted = c.self.inside.noted.items in
    let x = c.in-Some.field-0 in
    let run = run_is m noted c.self.inside.current x c.args.self.now.run (ap (λ (v : KeptRuns). v.run) c.self.view_is) c.in-Some.is in
    let (line, settled) = (fits_kept flows owed c.args.self.now.run (run_of m noted x) fits run).settled in
    c.ports.ensures.ports flows line (λ f. get_or owed f 0) settled ∙ sym (ap (λ (z : Option KeptRun). map (ingress_of flows) (flows_kept z)) run)
