-- Where the kept grants are of no flow, no flow of the line owes.
use Rattle.std.proofs.Common.{refl}
use Rattle.matching.specs.Matching.{listed_in}
use Rattle.master_core.proofs.OpenTells.{kept_granted}
use Rattle.master_core.proofs.OwingTells.{owing_found, ungranted_none}
use Rattle.master_core.proofs.standing.Standing.first_flow_owing.Goals as goal

pub returns-then-grants_nothing : goal.returns-then-grants_nothing
returns-then-grants_nothing c = λ s t.
    let o = c.args.opening.now in
    let x = c.args.self.now in
    ungranted_none o s (listed_in x.runs.tables) (kept_granted o s x c.requires.fit t c.requires.fresh) (c.if-grants_nothing.ensures.none refl)

pub returns : goal.returns
returns c = λ s t. owing_found c.args.opening.now s c.args.self.now c.first_owing.result c.requires.fit t c.first_owing.ensures
