use Rattle.std.proofs.Common.{◌≡◌, ◌<◌, ℕ, List, true, subst, sym, ap, ◌∙◌}
use Rattle.journal.specs.declared.command.Entry.{Entry}
use Rattle.journal.specs.Journal.{is_version, version_of}
use Rattle.journal_audit.specs.Orders.{AreOrders, HasOrder}
use Rattle.journal_audit.proofs.OrderSteps.{Newest, newest_found, none_stays, some_stays}
use Rattle.journal_audit.proofs.orders.wrong_order_after.Goals as goal

pub returns-then-is_some : goal.returns-then-is_some
returns-then-is_some c = λ before e journal reply orders.
    subst (λ (j : List Entry). AreOrders c.args.master.now.opening j c.args.orders.now c.args.wrong) (sym journal)
    (some_stays c.args.master.now.opening before e c.args.orders.now c.args.wrong (sym c.is_some.ensures ∙ c.if-is_some.true) orders)

pub returns-then-not-is_version : goal.returns-then-not-is_version
returns-then-not-is_version c = λ before e journal reply orders.
    subst (λ (j : List Entry). (k : ℕ) → k < version_of j → HasOrder c.args.master.now.opening j c.args.orders.now k) (sym journal)
    (none_stays c.args.master.now.opening before e c.args.orders.now c.args.wrong (sym c.is_some.ensures ∙ c.if-is_some.false)
    (ap is_version reply ∙ sym c.is_version.ensures ∙ c.if-not-is_version.true) orders)

pub returns : goal.returns
returns c = λ before e journal reply orders.
    let version : is_version e.reply ≡ true = ap is_version reply ∙ sym c.is_version.ensures ∙ c.if-not-is_version.false in
    subst (λ (j : List Entry). AreOrders c.args.master.now.opening j c.args.orders.now c.wrong_newest.result) (sym journal)
    (newest_found c.args.master.now.opening before e c.args.orders.now c.args.wrong c.wrong_newest.result (sym c.is_some.ensures ∙ c.if-is_some.false) version orders
    (subst (λ (j : List Entry). Newest c.args.master.now.opening j c.args.orders.now c.wrong_newest.result (version_of j)) journal
    (subst (Newest c.args.master.now.opening c.args.master.now.journal c.args.orders.now c.wrong_newest.result) c.version.ensures c.wrong_newest.ensures)))
