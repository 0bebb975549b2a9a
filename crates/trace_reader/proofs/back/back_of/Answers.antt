use Rattle.std.proofs.Common.{◌≡◌, ◌∙◌, Vec, Global}
use Rattle.std.proofs.lemmas.Result.{err_from_is_err_and}
use Rattle.coflow_units.specs.declared.trace.Reducer.{Reducer}
use Rattle.coflow_units.specs.declared.quantity.Quantity.TheVariants as quantity
use Rattle.text_fields.specs.Fields.{field_at}
use Rattle.text_fields.specs.Lines.{Line}
use Rattle.trace_reader.specs.Checks.{values}
use Rattle.trace_reader.specs.Coflow.{reducer_of, reducers_of}
use Rattle.trace_reader.proofs.LineParts.{end_decides, end_fails, end_passed, number_passed, reducers_are, rows_fail}
use Rattle.trace_reader.proofs.back.back_of.Goals as goal

pub returns-in_err-reducers : goal.returns-in_err-reducers
returns-in_err-reducers c =
    let line : Line = c.args.fields.now in
    let counted = number_passed c.line-line.result line.number c.args.field 0 4096 c.in_ok-count.count quantity.Reducers c.next.result.now (field_at line.texts 0)
    c.line-line.ensures c.next.ensures.field c.in_ok-count.ensures in
    let (_, is, same) = err_from_is_err_and c.from_residual-in_err-reducers.result c.from_residual-in_err-reducers.ensures.1 in
    rw (is, same)
    (rows_fail c.args.ports c.args.field line c.next.new.self c.in_ok-count.count c.next.ensures.left counted
    (λ (v : Vec Reducer Global). v.items ≡ values reducer_of c.next.new.self.texts c.in_ok-count.count) (λ (v : Vec Reducer Global). v.items ≡ reducers_of line)
    c.in_err-reducers.field-0.0 c.in_err-reducers.ensures.answer)

pub returns-then-is_done : goal.returns-then-is_done
returns-then-is_done c =
    let line : Line = c.args.fields.now in
    let counted = number_passed c.line-line.result line.number c.args.field 0 4096 c.in_ok-count.count quantity.Reducers c.next.result.now (field_at line.texts 0)
    c.line-line.ensures c.next.ensures.field c.in_ok-count.ensures in
    let all = end_decides c.args.ports c.args.field line c.next.new.self c.in_ok-count.count c.next.ensures.left counted c.in_ok-reducers.ensures.answer.0 in
    let end = end_passed c.args.ports c.args.field line c.next.new.self c.in_ok-count.count c.next.ensures.left counted c.reducers_in.new.fields c.in_ok-reducers.ensures.left
    c.if-is_done.ensures in (
      all ∙ end,
      reducers_are c.args.ports c.args.field line c.next.new.self c.in_ok-count.count c.next.ensures.left counted c.in_ok-reducers.reducers.items
          c.in_ok-reducers.ensures.answer.1,
    )

pub returns-else-is_done : goal.returns-else-is_done
returns-else-is_done c =
    let line : Line = c.args.fields.now in
    let counted = number_passed c.line-line.result line.number c.args.field 0 4096 c.in_ok-count.count quantity.Reducers c.next.result.now (field_at line.texts 0)
    c.line-line.ensures c.next.ensures.field c.in_ok-count.ensures in
    let all = end_decides c.args.ports c.args.field line c.next.new.self c.in_ok-count.count c.next.ensures.left counted c.in_ok-reducers.ensures.answer.0 in
    all ∙ end_fails c.args.ports c.args.field line c.next.new.self c.in_ok-count.count c.next.ensures.left counted c.reducers_in.new.fields c.line-line.result c.line-line.ensures
    c.in_ok-reducers.ensures.left c.if-is_done.ensures
