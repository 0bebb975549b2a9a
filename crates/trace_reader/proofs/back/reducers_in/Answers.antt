use Rattle.std.proofs.Common.{◌≡◌, Vec, Global, arith}
use Rattle.std.proofs.lemmas.Result.{err_from_is_err_and}
use Rattle.coflow_units.specs.declared.trace.Reducer.{Reducer}
use Rattle.trace_reader.specs.Checks.{values}
use Rattle.trace_reader.specs.Coflow.{reducer_checks, reducer_of}
use Rattle.trace_reader.proofs.Rows.{fault_here, goes_on}
use Rattle.trace_reader.proofs.back.reducers_in.Goals as goal

pub returns-in_err-reducer-clause-answer : goal.returns-in_err-reducer-clause-answer
returns-in_err-reducer-clause-answer c =
    let (_, is, same) = err_from_is_err_and c.from_residual.result c.from_residual.ensures.1 in
    rw (is, same)
    (fault_here (reducer_checks c.args.ports) reducer_of c.args.field c.args.fields.now c.loop-index.fields c.loop-index.reducers.items c.loop-index.index c.args.count
    c.line-line.result c.next.result.now
    (λ (v : Reducer). v ≡ reducer_of c.next.result.now) (λ (v : Vec Reducer Global). v.items ≡ values reducer_of c.args.fields.now.texts c.args.count) c.in_err-reducer.field-0.0
    c.line-line.ensures c.next.ensures.field (omega (arith, c.loop-index-test.true)) c.loop-index.invariant c.in_err-reducer.ensures)

pub loop-index-preserved : goal.loop-index-preserved
loop-index-preserved c =
    goes_on (reducer_checks c.args.ports) reducer_of c.args.field c.args.fields.now c.loop-index.fields c.next.new.self c.loop-index.reducers.items c.push.new.self.items
    c.loop-index.index c.line-line.result c.next.result.now c.in_ok-reducer.reducer
    c.line-line.ensures c.next.ensures.field c.next.ensures.left c.in_ok-reducer.ensures c.in_ok-push.ensures.items c.loop-index.invariant
