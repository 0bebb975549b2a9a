use Rattle.std.proofs.Common.{◌∙◌, ap, subst}
use Rattle.matching.specs.Matching.{IsWhole, ports_listed_in}
use Rattle.matching.proofs.MatchingSteps.{ports_are}
use Rattle.matching.proofs.matching.Matching.ports.Goals as goal

pub returns-clause-ports : goal.returns-clause-ports
returns-clause-ports c = λ flows line left s.
    let w = subst IsWhole c.self.view_is c.self.invariant in
    c.deref.ensures.value ∙ ap ports_listed_in c.self.view_is
    ∙ ports_are flows line left c.args.self.now w.sound.ranks.graph.few w.listing s.matching

pub returns-clause-taken : goal.returns-clause-taken
returns-clause-taken c = λ flows line left m.
    let w = subst IsWhole c.self.view_is c.self.invariant in
    ports_are flows line left c.args.self.now w.sound.ranks.graph.few w.listing m
