use Rattle.std.proofs.Common.{◌≡◌, true, false, refl}
use Rattle.live_text.proofs.DraftSteps.{first_taken}
use Rattle.live_text.proofs.Refusals.{refuse_first}
use Rattle.live_text.proofs.draft.Draft.take_first.Goals as goal

pub returns-then-not-is_first : goal.returns-then-not-is_first
returns-then-not-is_first c = refuse_first c.args.self.now c.args.line.now c.requires.stage (λ e. let bad : false ≡ true = c.if-not-is_first.ensures.1 e in cc)

pub returns : goal.returns
returns c = first_taken c.args.self.now c.args.line.now c.requires.draft c.requires.stage (c.if-not-is_first.ensures.0 refl)
