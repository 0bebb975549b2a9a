use Rattle.std.proofs.Common.{◌∙◌, Bool, ap}
use Rattle.std.specs.Prelude.{if◌then◌else◌}
use Rattle.std.proofs.lemmas.Bool.{eq-eqb, ne_eqb}
use Rattle.journal.specs.declared.command.Command.TheVariants.{Pull}
use Rattle.journal.specs.declared.command.Reply.TheVariants.{Rank, Unranked}
use Rattle.master_core.proofs.TellSteps.{follows, pull_told}
use Rattle.master_core.proofs.standing.Standing.pull.Goals as goal

pub returns-then-rank-eq0 : goal.returns-then-rank-eq0
returns-then-rank-eq0 c =
    let v = c.version-version.result in
    let r = c.rank-rank.result in
    follows c.args.opening.now (Pull c.args.coflow) c.args.self.now (Unranked v) c.args.self.now c.requires.fit
    (λ s t. (
      pull_told c.args.opening.now s c.args.self.now c.args.coflow v r t c.version-version.ensures c.rank-rank.ensures ∙
          ap (λ (b : Bool). if b then Unranked v else Rank v r) (eq-eqb r 0 c.if-rank-eq0.true),
      t,
    ))

pub returns : goal.returns
returns c =
    let v = c.version-version.result in
    let r = c.rank-rank.result in
    follows c.args.opening.now (Pull c.args.coflow) c.args.self.now (Rank v r) c.args.self.now c.requires.fit
    (λ s t. (
      pull_told c.args.opening.now s c.args.self.now c.args.coflow v r t c.version-version.ensures c.rank-rank.ensures ∙
          ap (λ (b : Bool). if b then Unranked v else Rank v r) (ne_eqb r 0 c.if-rank-eq0.false),
      t,
    ))
