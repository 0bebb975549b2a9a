use Rattle.std.proofs.Common.{◌≡◌, ap, arith, length, ◌∙◌}
use Rattle.std.proofs.lemmas.Result.{err_from_is_err_and}
use Rattle.orders.proofs.Once.{few_lines}
use Rattle.orders.proofs.Whole.{complete, missing, refused}
use Rattle.text_fields.specs.Lines.{lines_of}
use Rattle.orders.proofs.orders.read_order.Goals as goal

pub returns-in_err-order : goal.returns-in_err-order
returns-in_err-order c =
    let (_, is, same) = err_from_is_err_and c.from_residual-in_err-order.result c.from_residual-in_err-order.ensures.1 in
    rw (is, same) (refused c.args.bytes.now c.in_ok-coflows.coflows c.args.table.now.ids c.in_err-order.field-0.0 c.in_ok-coflows.ensures c.in_err-order.ensures)

pub overflow_cast-have : goal.overflow_cast-have
overflow_cast-have c = omega (
  arith,
  few_lines c.in_ok-coflows.coflows (lines_of c.args.bytes.now) c.in_ok-order.ensures.0,
  ap length c.in_ok-order.ensures.1,
  ap length c.in_ok-coflows.ensures,
  c.coflows-want.ensures.table.few_coflows,
  c.len-have.ensures,
)

pub returns-then-have-want : goal.returns-then-have-want
returns-then-have-want c =
    let count : c.len-have.result ≡ length c.in_ok-order.order.items = omega (arith, c.len-have.ensures, c.in_ok-order.order.ok.0) in
    let whole = complete c.args.bytes.now c.in_ok-coflows.coflows c.args.table.now.ids c.in_ok-order.order.items c.in_ok-coflows.ensures
    c.in_ok-order.ensures.0 c.in_ok-order.ensures.1 c.len-have.result c.coflows-want.result count c.coflows-want.ensures.coflows c.if-have-want.true in
    (whole.0, c.from_vec.ensures ∙ whole.1)

pub returns : goal.returns
returns c =
    let count : c.len-have.result ≡ length c.in_ok-order.order.items = omega (arith, c.len-have.ensures, c.in_ok-order.order.ok.0) in
    missing c.args.bytes.now c.in_ok-coflows.coflows c.args.table.now.ids c.in_ok-order.order.items c.in_ok-coflows.ensures
    c.in_ok-order.ensures.0 c.in_ok-order.ensures.1 c.len-have.result c.coflows-want.result count c.coflows-want.ensures.coflows c.if-have-want.false
