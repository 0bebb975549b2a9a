use Rattle.std.proofs.Common.{◌≡◌, ◌+◌, ◌≤◌, ◌^◌, None, false, true, length, refl, arith, rules}
use Rattle.live_text.specs.Readers.{IsEntryOf}
use Rattle.live_text.specs.Text.{entry_line}
use Rattle.live_text.proofs.DraftSteps.{entry_taken}
use Rattle.live_text.proofs.Refusals.{refuse_entry, refuse_late_entry}
use Rattle.live_text.proofs.draft.Draft.take_entry.Goals as goal

pub returns-then-not-no_orders_yet : goal.returns-then-not-no_orders_yet
returns-then-not-no_orders_yet c = refuse_late_entry c.args.self.now c.args.line.now c.requires.draft c.requires.stage c.requires.kind
    (λ o p r. let bad : false ≡ true = c.if-not-no_orders_yet.ensures.1 (o, p, r) in cc)

pub returns-in_default : goal.returns-in_default
returns-in_default c =
    let count : c.len.result ≡ length c.args.self.now.entries.items = search rules in
    let none : IsEntryOf (length c.args.self.now.entries.items + 1) c.args.line.now None = rw count at c.in_default.ensures in
    refuse_entry c.args.self.now c.args.line.now c.requires.draft c.requires.stage c.requires.kind none

pub returns : goal.returns
returns c =
    let none = c.if-not-no_orders_yet.ensures.0 refl in
    let count : c.len.result ≡ length c.args.self.now.entries.items = search rules in
    let few : length c.args.self.now.entries.items + 1 ≤ 2 ^ 23 = omega (arith, c.in-Some.ensures.0, count) in
    let line : c.args.line.now ≡ entry_line (length c.args.self.now.entries.items + 1) c.in-Some.entry = rw count at c.in-Some.ensures.2 in
    entry_taken c.args.self.now c.push.new.self c.in-Some.entry c.args.line.now c.requires.draft c.requires.stage none.0 none.1 none.2 c.in_ok-push.ensures.items few
    c.in-Some.ensures.1 line
