-- Each group is passed over or has its flow granted.
use Rattle.std.proofs.Common.{◌<◌, ◌≤◌, length, get_or, refl, sym, ◌∙◌, arith}
use Rattle.greedy_rates.proofs.LineSteps.{coflow_begins, coflow_ends}
use Rattle.greedy_rates.proofs.OwedSteps.{group_placed, group_is_empty, group_owes_nothing, group_is_cut}
use Rattle.greedy_rates.proofs.owed_pass.grant_owing_coflow.Goals as goal

pub loop-number-init : goal.loop-number-init
loop-number-init c = record {
  from = omega arith;
  at_len = refl;
  busy_len = refl;
  open_ingress = c.requires.open_ingress;
  open_egress = c.requires.open_egress;
  granting = λ line k next so_far. coflow_begins c.args.flows.now line (λ f. get_or c.args.owing.now.left f 0) k c.args.first c.args.end c.args.at.now c.args.busy.now next
      so_far;
}

pub loop-number-preserved-then-of_group-eq0 : goal.loop-number-preserved-then-of_group-eq0
loop-number-preserved-then-of_group-eq0 c =
    let before = c.loop-number.invariant in
    let n = c.loop-number.number in
    let behind = c.behind-behind.result in
    let owed = c.requires.owed in
    let lt : n < length c.args.flows.now = omega (arith, c.requires.end, c.loop-number-test.true) in
    let above = owed.groups.above n lt in
    record {
      from = omega (arith, before.from, above, c.behind-behind.ensures);
      at_len = before.at_len;
      busy_len = before.busy_len;
      open_ingress = before.open_ingress;
      open_egress = before.open_egress;
      granting = λ line k next so_far. group_owes_nothing c.args.flows.now line (λ f. get_or c.args.owing.now.left f 0) k n behind c.loop-number.at c.loop-number.busy
          (omega (arith, above, c.behind-behind.ensures))
          (group_placed c.args.flows.now c.args.owing.now line k c.args.first c.args.end n behind owed next lt c.behind-behind.ensures before.from c.loop-number-test.true)
          (group_is_empty c.args.flows.now c.args.owing.now n behind owed lt c.behind-behind.ensures (sym c.of_group.ensures ∙ c.if-of_group-eq0.true))
          (before.granting line k next so_far);
    }

pub loop-number-preserved-then-is_some : goal.loop-number-preserved-then-is_some
loop-number-preserved-then-is_some c =
    let before = c.loop-number.invariant in
    let n = c.loop-number.number in
    let behind = c.behind-behind.result in
    let owed = c.requires.owed in
    let lt : n < length c.args.flows.now = omega (arith, c.requires.end, c.loop-number-test.true) in
    let above = owed.groups.above n lt in
    record {
      from = omega (arith, before.from, above, c.behind-behind.ensures);
      at_len = before.at_len;
      busy_len = before.busy_len;
      open_ingress = before.open_ingress;
      open_egress = before.open_egress;
      granting = λ line k next so_far. group_is_cut c.args.flows.now line (λ f. get_or c.args.owing.now.left f 0) k n behind c.loop-number.at c.loop-number.busy
          (omega (arith, above, c.behind-behind.ensures))
          (group_placed c.args.flows.now c.args.owing.now line k c.args.first c.args.end n behind owed next lt c.behind-behind.ensures before.from c.loop-number-test.true)
          (λ f from to. owed.groups.ingress n f lt from (omega (arith, to, c.behind-behind.ensures))) (sym c.is_some.ensures ∙ c.if-is_some.true)
          (before.granting line k next so_far);
    }

pub loop-number-preserved : goal.loop-number-preserved
loop-number-preserved c =
    let before = c.loop-number.invariant in
    let n = c.loop-number.number in
    let behind = c.behind-behind.result in
    let owed = c.requires.owed in
    let lt : n < length c.args.flows.now = omega (arith, c.requires.end, c.loop-number-test.true) in
    let above = owed.groups.above n lt in
    record {
      from = omega (arith, before.from, above, c.behind-behind.ensures);
      at_len = c.grant_group.ensures.at_len ∙ before.at_len;
      busy_len = c.grant_group.ensures.busy_len ∙ before.busy_len;
      open_ingress = c.grant_group.ensures.open_ingress;
      open_egress = c.grant_group.ensures.open_egress;
      granting = λ line k next so_far. c.grant_group.ensures.granting line k
          (group_placed c.args.flows.now c.args.owing.now line k c.args.first c.args.end n behind owed next lt c.behind-behind.ensures before.from c.loop-number-test.true)
          (before.granting line k next so_far);
    }

pub returns : goal.returns
returns c =
    let before = c.loop-number.invariant in
    let ended : c.args.end ≤ c.loop-number.number = omega (arith, c.loop-number-test.false) in
    record {
      at_len = before.at_len;
      busy_len = before.busy_len;
      open_ingress = before.open_ingress;
      open_egress = before.open_egress;
      granting = λ line k next so_far. coflow_ends c.args.flows.now line (λ f. get_or c.args.owing.now.left f 0) k c.args.first c.args.end c.loop-number.number
          c.loop-number.at c.loop-number.busy next ended (before.granting line k next so_far);
    }
