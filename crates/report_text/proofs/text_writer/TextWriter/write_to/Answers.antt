use Rattle.std.proofs.Common.{◌≡◌, ◌++◌, Some, sym, ap, ◌∙◌}
use Rattle.report_text.specs.Text.{ending}
use Rattle.report_text.proofs.WrittenLines.{texts_cut, texts_then}
use Rattle.report_text.proofs.text_writer.TextWriter.write_to.Goals as goal

pub returns-in-Some-clause-taken : goal.returns-in-Some-clause-taken
returns-in-Some-clause-taken g c =
    let head = c.self.inside.head.now in
    let whole : c.args.self ≡ head ++ ending (Some c.in-Some.lines) = sym c.self.view_is ∙ ap (λ s. head ++ ending s) c.in-Some.is in
    rw whole (texts_then _ _ _ head (ending (Some c.in-Some.lines)) c.write_to.result c.in_ok-write_all.ensures.taken c.write_to.ensures.taken)

pub returns-in_err-write_all-clause-taken : goal.returns-in_err-write_all-clause-taken
returns-in_err-write_all-clause-taken g c =
    rw (sym c.self.view_is) (texts_cut _ _ c.self.inside.head.now (ending c.self.inside.lines) _ c.from_residual.result c.from_residual.ensures.0 c.in_err-write_all.ensures.taken)
