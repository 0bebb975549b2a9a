use Rattle.std.proofs.Common.{◌≡◌, true, false, refl}
use Rattle.online_text.proofs.RunSteps.{end_refused, end_taken}
use Rattle.online_text.proofs.draft.Draft.take_end.Goals as goal

pub returns-then-not-is_end : goal.returns-then-not-is_end
returns-then-not-is_end c = end_refused c.args.self.now c.args.line.now c.requires.stage c.requires.no_run (λ e. let bad : false ≡ true = c.if-not-is_end.ensures.1 e in cc)

pub returns : goal.returns
returns c = end_taken c.args.self.now c.args.line.now c.requires.draft c.requires.stage c.requires.no_run (c.if-not-is_end.ensures.0 refl)
