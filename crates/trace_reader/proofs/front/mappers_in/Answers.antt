use Rattle.std.proofs.Common.{◌≡◌, ℕ, Vec, Global, arith}
use Rattle.std.proofs.lemmas.Result.{err_from_is_err_and}
use Rattle.text_fields.specs.Numbers.{number}
use Rattle.trace_reader.specs.Checks.{values}
use Rattle.trace_reader.specs.Coflow.{mapper_checks}
use Rattle.trace_reader.proofs.Rows.{fault_here, goes_on}
use Rattle.trace_reader.proofs.front.mappers_in.Goals as goal

pub returns-in_err-mapper-clause-answer : goal.returns-in_err-mapper-clause-answer
returns-in_err-mapper-clause-answer c =
    let (_, is, same) = err_from_is_err_and c.from_residual.result c.from_residual.ensures.1 in
    rw (is, same)
    (fault_here (mapper_checks c.args.ports) number 4 c.args.fields.now c.loop-index.fields c.loop-index.mappers.items c.loop-index.index c.args.count c.line-line.result
    c.next.result.now
    (λ (v : ℕ). v ≡ number c.next.result.now) (λ (v : Vec ℕ Global). v.items ≡ values number c.args.fields.now.texts c.args.count) c.in_err-mapper.field-0.0
    c.line-line.ensures c.next.ensures.field (omega (arith, c.loop-index-test.true)) c.loop-index.invariant c.in_err-mapper.ensures)

pub loop-index-preserved : goal.loop-index-preserved
loop-index-preserved c =
    goes_on (mapper_checks c.args.ports) number 4 c.args.fields.now c.loop-index.fields c.next.new.self c.loop-index.mappers.items c.push.new.self.items c.loop-index.index
    c.line-line.result c.next.result.now c.in_ok-mapper.mapper
    c.line-line.ensures c.next.ensures.field c.next.ensures.left c.in_ok-mapper.ensures c.in_ok-push.ensures.items c.loop-index.invariant
