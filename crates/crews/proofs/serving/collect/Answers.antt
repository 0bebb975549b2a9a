use Rattle.std.proofs.Common.{rules, ◌≡◌, ap, ◌∙◌, subst}
use Rattle.crews.specs.Parts.{IsAttended}
use Rattle.crews.proofs.serving.collect.Goals as goal

pub wait-requires-clause-given : goal.wait-requires-clause-given
wait-requires-clause-given g c = let kept : c.recall.new.giver ≡ c.args.giver.now = search rules in (c.requires.given.0, ap (λ e. e.out) kept ∙ c.requires.given.1)

pub returns-in-None-clause-attended : goal.returns-in-None-clause-attended
returns-in-None-clause-attended g c p given = let kept : c.recall.new.giver ≡ c.args.giver.now = search rules in subst
    (λ b. IsAttended g.W.Wire.faults g.W.Wire.runs b p c.wait.result) (ap (λ e. e.about) kept ∙ c.requires.board) (c.wait.ensures.done p (ap (λ e. e.out) kept ∙ given))
