-- A note at an ingress that has a grant.
use Rattle.std.proofs.Common.{ap}
use Rattle.master_core.specs.OpenRun.{KeptRuns}
use Rattle.master_core.proofs.KeptSteps.{none_noted_at, run_is, some_noted}
use Rattle.master_core.proofs.GrantSteps.{at_told}
use Rattle.master_core.proofs.runs.Runs.note.Goals as goal

pub returns-then-is_none-clause-noted : goal.returns-then-is_none-clause-noted
returns-then-is_none-clause-noted c =
    let m = c.self.inside.grants in
    let noted = c.self.inside.noted.items in
    let run = run_is m noted c.self.inside.current c.in-Some.run' c.args.self.now.run (ap (λ (v : KeptRuns). v.run) c.self.view_is) c.in-Some.is in
    none_noted_at m noted c.in-Some.run' c.args.self.now.run c.at.result c.args.ingress c.args.units run (at_told m c.args.ingress c.at.result c.at.ensures) c.if-is_none.ensures

pub returns-clause-noted : goal.returns-clause-noted
returns-clause-noted c =
    let m = c.self.inside.grants in
    let noted = c.self.inside.noted.items in
    let run = run_is m noted c.self.inside.current c.in-Some.run' c.args.self.now.run (ap (λ (v : KeptRuns). v.run) c.self.view_is) c.in-Some.is in
    some_noted m noted c.in-Some.run' c.args.self.now.run c.at.result c.args.ingress c.args.units c.min-number.result run
    (at_told m c.args.ingress c.at.result c.at.ensures) c.if-is_none.ensures c.min-number.ensures
