use Rattle.std.proofs.Common.{◌+◌, ◌<◌, ℕ, length, arith, subst, sym, ◌∙◌}
use Rattle.journal.specs.Journal.{version_of}
use Rattle.journal_audit.specs.Parted.{IsFirstWrongOrder}
use Rattle.journal_audit.specs.Orders.{orders_of}
use Rattle.journal_audit.proofs.FirstReasons.{none_wrong, one_too_many, orders_same, some_wrong}
use Rattle.journal_audit.proofs.reasons.wrong_order.Goals as goal

pub returns-then-is_some : goal.returns-then-is_some
returns-then-is_some c =
    some_wrong c.args.master.now.opening c.args.master.now.journal c.args.orders.now c.args.wrong (sym c.is_some.ensures ∙ c.if-is_some.true) c.requires.made

pub returns-then-orders-versions : goal.returns-then-orders-versions
returns-then-orders-versions c =
    let more : version_of c.args.master.now.journal < length c.args.orders.now = omega (arith, c.if-orders-versions.true, c.version-versions.ensures) in
    subst (λ (v : ℕ). IsFirstWrongOrder c.args.orders.now (orders_of c.args.master.now.opening c.args.master.now.journal) (v + 1) 1) (sym c.version-versions.ensures)
    (one_too_many c.args.master.now.opening c.args.master.now.journal c.args.orders.now
    (none_wrong c.args.master.now.opening c.args.master.now.journal c.args.orders.now c.args.wrong (sym c.is_some.ensures ∙ c.if-is_some.false) c.requires.made) more)

pub returns : goal.returns
returns c =
    orders_same c.args.master.now.opening c.args.master.now.journal c.args.orders.now
    (none_wrong c.args.master.now.opening c.args.master.now.journal c.args.orders.now c.args.wrong (sym c.is_some.ensures ∙ c.if-is_some.false) c.requires.made)
    (omega (arith, c.if-orders-versions.false, c.version-versions.ensures))
