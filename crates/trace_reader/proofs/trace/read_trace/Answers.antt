use Rattle.std.proofs.Common.{◌≡◌, ℕ, ◌∷◌, sym, ◌∙◌, Vec, Global, arith, length, map}
use Rattle.std.proofs.lemmas.Result.{err_from_is_err_and}
use Rattle.coflow_units.specs.declared.trace.CoflowLine.{CoflowLine}
use Rattle.coflow_units.specs.declared.trace.Trace.{Trace}
use Rattle.text_fields.specs.Lines.{lines_of}
use Rattle.trace_reader.specs.Coflow.{coflow_of}
use Rattle.trace_reader.specs.Trace.{trace_of}
use Rattle.trace_reader.proofs.TraceParts.{coflows_fail, few_lines, none_missing, some_missing, trace_is, within_limits}
use Rattle.trace_reader.proofs.trace.read_trace.Goals as goal

pub returns-in_err-coflows-clause-answer : goal.returns-in_err-coflows-clause-answer
returns-in_err-coflows-clause-answer c =
    let counts : ℕ × ℕ = (c.in_ok-number.number, c.in_ok-number.want) in
    let cut : lines_of c.args.bytes.now ≡ c.in-Some.header ∷ c.next.new.self = sym c.new-lines.ensures ∙ c.in-Some.ensures in
    let (_, is, same) = err_from_is_err_and c.from_residual-in_err-coflows.result c.from_residual-in_err-coflows.ensures.1 in
    rw (is, same)
    (coflows_fail c.args.bytes.now c.in-Some.header c.next.new.self counts cut c.in_ok-number.ensures
    (λ (v : Vec CoflowLine Global). v.items ≡ map coflow_of c.next.new.self) (λ (t : Trace). t ≡ trace_of c.args.bytes.now) c.in_err-coflows.field-0.0 c.in_err-coflows.ensures)

pub overflow_cast-have : goal.overflow_cast-have
overflow_cast-have c = omega (
  arith,
  few_lines c.in-Some.header c.next.new.self (c.in_ok-number.number, c.in_ok-number.want) c.in_ok-coflows.coflows.items c.in_ok-number.ensures c.in_ok-coflows.ensures,
  c.len-have.ensures,
  c.in_ok-coflows.coflows.ok.0,
)

pub returns-then-have-want-clause-answer : goal.returns-then-have-want-clause-answer
returns-then-have-want-clause-answer c =
    let counts : ℕ × ℕ = (c.in_ok-number.number, c.in_ok-number.want) in
    let cut : lines_of c.args.bytes.now ≡ c.in-Some.header ∷ c.next.new.self = sym c.new-lines.ensures ∙ c.in-Some.ensures in
    let count : c.len-have.result ≡ length c.in_ok-coflows.coflows.items = omega (arith, c.len-have.ensures, c.in_ok-coflows.coflows.ok.0) in
    some_missing c.args.bytes.now c.in-Some.header c.next.new.self counts cut c.in_ok-number.ensures c.len-have.result c.in_ok-coflows.coflows.items count
    c.in_ok-coflows.ensures c.if-have-want.true

pub returns : goal.returns
returns c =
    let counts : ℕ × ℕ = (c.in_ok-number.number, c.in_ok-number.want) in
    let cut : lines_of c.args.bytes.now ≡ c.in-Some.header ∷ c.next.new.self = sym c.new-lines.ensures ∙ c.in-Some.ensures in
    let count : c.len-have.result ≡ length c.in_ok-coflows.coflows.items = omega (arith, c.len-have.ensures, c.in_ok-coflows.coflows.ok.0) in
    let passed = none_missing c.args.bytes.now c.in-Some.header c.next.new.self counts cut c.in_ok-number.ensures c.len-have.result c.in_ok-coflows.coflows.items count
    c.in_ok-coflows.ensures c.if-have-want.false in
    let same = trace_is c.args.bytes.now c.in-Some.header c.next.new.self counts cut c.in_ok-number.ensures c.len-have.result c.in_ok-coflows.coflows.items count
    c.in_ok-coflows.ensures c.from_vec.result c.from_vec.ensures in
    record { answer = (passed, same); limits = within_limits c.args.bytes.now _ passed same }
