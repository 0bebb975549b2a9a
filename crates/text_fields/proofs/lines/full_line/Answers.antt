use Rattle.std.proofs.Common.{arith, sym, ◌∙◌}
use Rattle.text_fields.proofs.LineCuts.{line_full, line_blank, shorter, nothing}
use Rattle.text_fields.proofs.lines.full_line.Goals as goal

pub returns-then-has_field : goal.returns-then-has_field
returns-then-has_field c =
    let full = sym c.if-has_field.ensures in
    let less = shorter c.loop-rest.rest.now c.cut_line.result.1.now c.loop-rest-test.ensures c.cut_line.ensures.rest in (
      full,
      sym c.loop-rest.invariant.0 ∙ line_full c.loop-rest.number c.loop-rest.rest.now c.cut_line.result.0.now c.cut_line.result.1.now c.cut_line.ensures.line
          c.cut_line.ensures.rest full,
      omega (arith, less, c.loop-rest.invariant.1),
    )

pub loop-rest-preserved : goal.loop-rest-preserved
loop-rest-preserved c =
    let less = shorter c.loop-rest.rest.now c.cut_line.result.1.now c.loop-rest-test.ensures c.cut_line.ensures.rest in (
      sym (line_blank c.loop-rest.number c.loop-rest.rest.now c.cut_line.result.0.now c.cut_line.result.1.now c.cut_line.ensures.line c.cut_line.ensures.rest
          (sym c.if-has_field.ensures)) ∙ c.loop-rest.invariant.0,
      omega (arith, less, c.loop-rest.invariant.1),
    )

pub returns : goal.returns
returns c = sym c.loop-rest.invariant.0 ∙ nothing c.loop-rest.number c.loop-rest.rest.now c.loop-rest-test.ensures
