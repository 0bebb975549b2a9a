-- Each flow is passed over or granted.
use Rattle.std.proofs.Common.{get_or, length, length-set, Some, true, arith, refl, ◌≤◌, ◌<◌, ◌∙◌, sym}
use Rattle.coflow_units.specs.Flows.{ingress_of, egress_of}
use Rattle.greedy_rates.specs.Room.{flow_at_ingress}
use Rattle.greedy_rates.proofs.LineSteps.{coflow_begins, coflow_ends}
use Rattle.greedy_rates.proofs.PassSteps.{not_some, skip_flow, skip_sent, skip_received, grant_flow}
use Rattle.greedy_rates.proofs.pass.grant_coflow.Goals as goal

pub loop-number-init : goal.loop-number-init
loop-number-init c = record {
  at_len = refl;
  busy_len = refl;
  from = omega arith;
  granting = λ line k next so_far. coflow_begins c.args.flows.now line (λ f. get_or c.args.left.now f 0) k c.args.first c.args.end c.args.at.now c.args.busy.now next so_far;
}

pub loop-number-preserved-then-left-number-eq0 : goal.loop-number-preserved-then-left-number-eq0
loop-number-preserved-then-left-number-eq0 c =
    let before = c.loop-number.invariant in
    record {
      at_len = before.at_len;
      busy_len = before.busy_len;
      from = omega (arith, before.from);
      granting = λ line k next so_far. skip_flow c.args.flows.now line (λ f. get_or c.args.left.now f 0) k c.loop-number.number c.loop-number.at c.loop-number.busy
          (next.placed c.loop-number.number before.from c.loop-number-test.true) (λ some. absurd (omega (arith, some, c.if-left-number-eq0.true)))
          (before.granting line k next so_far);
    }

pub loop-number-preserved-then-is_some : goal.loop-number-preserved-then-is_some
loop-number-preserved-then-is_some c =
    let before = c.loop-number.invariant in
    record {
      at_len = before.at_len;
      busy_len = before.busy_len;
      from = omega (arith, before.from);
      granting = λ line k next so_far. skip_sent c.args.flows.now line (λ f. get_or c.args.left.now f 0) k c.loop-number.number c.loop-number.at c.loop-number.busy
          (next.placed c.loop-number.number before.from c.loop-number-test.true)
          (sym c.is_some.ensures ∙ c.if-is_some.true) (before.granting line k next so_far);
    }

pub loop-number-preserved-then-busy-flow : goal.loop-number-preserved-then-busy-flow
loop-number-preserved-then-busy-flow c =
    let before = c.loop-number.invariant in
    record {
      at_len = before.at_len;
      busy_len = before.busy_len;
      from = omega (arith, before.from);
      granting = λ line k next so_far. skip_received c.args.flows.now line (λ f. get_or c.args.left.now f 0) k c.loop-number.number c.loop-number.at c.loop-number.busy
          (next.placed c.loop-number.number before.from c.loop-number-test.true) c.if-busy-flow.true
          (before.granting line k next so_far);
    }

pub loop-number-preserved : goal.loop-number-preserved
loop-number-preserved c =
    let before = c.loop-number.invariant in
    let n = c.loop-number.number in
    let lt : n < length c.args.flows.now = omega (arith, c.requires.end, c.loop-number-test.true) in
    let in_range : ingress_of c.args.flows.now n < length c.loop-number.at =
    omega (arith, before.at_len, c.requires.ingress_in_range n record { coflow = 0; ingress = 0; egress = 0; units = 0 } lt) in
    let out_range : egress_of c.args.flows.now n < length c.loop-number.busy =
    omega (arith, before.busy_len, c.requires.egress_in_range n record { coflow = 0; ingress = 0; egress = 0; units = 0 } lt) in
    record {
      at_len = length-set c.loop-number.at (ingress_of c.args.flows.now n) (Some n) ∙ before.at_len;
      busy_len = length-set c.loop-number.busy (egress_of c.args.flows.now n) true ∙ before.busy_len;
      from = omega (arith, before.from);
      granting = λ line k next so_far. grant_flow c.args.flows.now line (λ f. get_or c.args.left.now f 0) k n c.loop-number.at c.loop-number.busy lt
          (next.placed n before.from c.loop-number-test.true) (omega (arith, c.if-left-number-eq0.false)) in_range out_range
          (not_some (flow_at_ingress c.loop-number.at (ingress_of c.args.flows.now n)) (sym c.is_some.ensures ∙ c.if-is_some.false)) c.if-busy-flow.false
          (before.granting line k next so_far);
    }

pub returns : goal.returns
returns c =
    let before = c.loop-number.invariant in
    let ended : c.args.end ≤ c.loop-number.number = omega (arith, c.loop-number-test.false) in
    record {
      at_len = before.at_len;
      busy_len = before.busy_len;
      granting = λ line k next so_far. coflow_ends c.args.flows.now line (λ f. get_or c.args.left.now f 0) k c.args.first c.args.end c.loop-number.number c.loop-number.at
          c.loop-number.busy next ended (before.granting line k next so_far);
    }
