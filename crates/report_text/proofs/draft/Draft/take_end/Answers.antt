use Rattle.std.proofs.Common.{◌≡◌, true, false}
use Rattle.report_text.proofs.DraftText.{refuse_end}
use Rattle.report_text.proofs.draft.Draft.take_end.Goals as goal

pub returns-then-not-is_end : goal.returns-then-not-is_end
returns-then-not-is_end c = refuse_end c.args.self.now c.args.line.now c.requires.draft c.requires.stage c.requires.no_run (λ e. let bad : false ≡ true =
    c.if-not-is_end.ensures.1 e in cc)
