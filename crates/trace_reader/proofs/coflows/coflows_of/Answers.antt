use Rattle.std.proofs.Common.{◌≡◌, ◌<◌, Vec, Global, arith, length, map}
use Rattle.std.proofs.lemmas.Result.{err_from_is_err_and}
use Rattle.coflow_units.specs.declared.trace.CoflowLine.{CoflowLine}
use Rattle.trace_reader.specs.Coflow.{coflow_of}
use Rattle.trace_reader.proofs.CoflowLists.{goes_on, line_fails}
use Rattle.trace_reader.proofs.coflows.coflows_of.Goals as goal

pub returns-in_err-coflow : goal.returns-in_err-coflow
returns-in_err-coflow c =
    let few : length c.loop-fields.coflows.items < c.args.count = omega (arith, c.if-len-count.false, c.len.ensures, c.loop-fields.coflows.ok.0) in
    let (_, is, same) = err_from_is_err_and c.from_residual.result c.from_residual.ensures.1 in
    rw (is, same)
    (line_fails c.args.ports c.args.count c.args.lines.now c.loop-fields.lines c.next.new.self c.in-Some.fields c.loop-fields.ids.keys c.loop-fields.coflows.items c.in-Some.ensures
    c.loop-fields.invariant
    (λ (v : CoflowLine). v ≡ coflow_of c.in-Some.fields) (λ (v : Vec CoflowLine Global). v.items ≡ map coflow_of c.args.lines.now)
    c.in_err-coflow.field-0.0 few c.in_err-coflow.ensures.answer)

pub loop-fields-preserved : goal.loop-fields-preserved
loop-fields-preserved c =
    let few : length c.loop-fields.coflows.items < c.args.count = omega (arith, c.if-len-count.false, c.len.ensures, c.loop-fields.coflows.ok.0) in
    goes_on c.args.ports c.args.count c.args.lines.now c.loop-fields.lines c.next.new.self c.in-Some.fields c.loop-fields.ids.keys c.loop-fields.coflows.items c.in-Some.ensures
    c.loop-fields.invariant
    c.coflow_of.new.ids.keys c.in_ok-coflow.coflow c.push.new.self.items few c.in_ok-coflow.ensures.answer c.in_ok-coflow.ensures.ids c.in_ok-push.ensures.items
