use Rattle.std.proofs.Common.{◌≡◌, ◌+◌, None, Some, false, true, length, refl, rules}
use Rattle.live_text.specs.Readers.{IsOrderOf}
use Rattle.live_text.proofs.DraftSteps.{order_taken}
use Rattle.live_text.proofs.Refusals.{refuse_late_order, refuse_order}
use Rattle.live_text.proofs.draft.Draft.take_order.Goals as goal

pub returns-then-not-no_pulls_yet : goal.returns-then-not-no_pulls_yet
returns-then-not-no_pulls_yet c = refuse_late_order c.args.self.now c.args.line.now c.requires.draft c.requires.stage c.requires.kind
    (λ p r. let bad : false ≡ true = c.if-not-no_pulls_yet.ensures.1 (p, r) in cc)

pub returns-in_default : goal.returns-in_default
returns-in_default c =
    let count : c.len.result ≡ length c.args.self.now.orders.items = search rules in
    let none : IsOrderOf (length c.args.self.now.orders.items + 1) c.args.line.now None = rw (c.in_default.is, count) at c.in_ok-ids.ensures in
    refuse_order c.args.self.now c.args.line.now c.requires.draft c.requires.stage c.requires.kind none

pub returns : goal.returns
returns c =
    let none = c.if-not-no_pulls_yet.ensures.0 refl in
    let count : c.len.result ≡ length c.args.self.now.orders.items = search rules in
    let ids : IsOrderOf (length c.args.self.now.orders.items + 1) c.args.line.now (Some c.in-Some.ids) = rw (c.in-Some.is, count) at c.in_ok-ids.ensures in
    order_taken c.args.self.now c.push.new.self c.in-Some.ids c.args.line.now c.requires.draft c.requires.stage none.0 none.1 c.in_ok-push.ensures.items ids.0 ids.1 ids.2
