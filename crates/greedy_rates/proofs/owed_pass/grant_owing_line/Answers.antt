-- One coflow after another, until no port is open.
use Rattle.std.proofs.Common.{◌+◌, get_or, sym, ap, ◌∙◌, arith}
use Rattle.greedy_rates.proofs.LineSteps.{next_coflow}
use Rattle.greedy_rates.proofs.OwedSteps.{rest_is_cut, no_ingress_open, no_egress_open, coflow_owes_nothing, coflow_is_empty, number_of_coflow}
use Rattle.greedy_rates.proofs.OpenPortSteps.{how_many_owe, all_ingresses_open, all_egresses_open}
use Rattle.greedy_rates.proofs.PassSteps.{nothing_stands}
use Rattle.greedy_rates.proofs.owed_pass.grant_owing_line.Goals as goal

pub loop-coflow-init : goal.loop-coflow-init
loop-coflow-init c = record {
  at_len = c.clear.ensures.at_len;
  busy_len = c.clear.ensures.busy_len;
  open_ingress = c.owing_ports.ensures ∙ (ap (how_many_owe) c.at_ingress.ensures ∙ all_ingresses_open c.args.owing.now.at_ingress c.clear.new.at c.clear.ensures.none);
  open_egress = c.owing_ports-2.ensures ∙ (ap (how_many_owe) c.at_egress.ensures ∙ all_egresses_open c.args.owing.now.at_egress c.clear.new.busy c.clear.ensures.free);
  granting = nothing_stands c.args.flows.now c.args.line.now (λ f. get_or c.args.owing.now.left f 0) c.clear.new.at c.clear.new.busy c.clear.ensures.none c.clear.ensures.free;
}

pub returns-then-ports-eq0-clause-granting : goal.returns-then-ports-eq0-clause-granting
returns-then-ports-eq0-clause-granting c =
    let before = c.loop-coflow.invariant in
    let owed = c.requires.owed in
    rest_is_cut c.args.flows.now c.args.line.now (λ f. get_or c.args.owing.now.left f 0) c.loop-coflow.coflow-index c.loop-coflow.at c.loop-coflow.busy
    (omega (arith, c.loop-coflow-test.true))
    (no_ingress_open c.args.flows.now c.args.line.now c.args.owing.now.left c.loop-coflow.coflow-index 0 c.args.owing.now.at_ingress c.loop-coflow.at c.loop-coflow.busy
    owed.ingresses owed.count (sym before.open_ingress ∙ c.if-ports-eq0.true) before.granting)
    before.granting

pub returns-then-ports-eq0-2-clause-granting : goal.returns-then-ports-eq0-2-clause-granting
returns-then-ports-eq0-2-clause-granting c =
    let before = c.loop-coflow.invariant in
    let owed = c.requires.owed in
    rest_is_cut c.args.flows.now c.args.line.now (λ f. get_or c.args.owing.now.left f 0) c.loop-coflow.coflow-index c.loop-coflow.at c.loop-coflow.busy
    (omega (arith, c.loop-coflow-test.true))
    (no_egress_open c.args.flows.now c.args.line.now c.args.owing.now.left c.loop-coflow.coflow-index 0 c.args.owing.now.at_egress c.loop-coflow.at c.loop-coflow.busy owed.egresses
    owed.count (sym before.open_egress ∙ c.if-ports-eq0-2.true) before.granting)
    before.granting

pub loop-coflow-preserved-then-of_coflow-eq0 : goal.loop-coflow-preserved-then-of_coflow-eq0
loop-coflow-preserved-then-of_coflow-eq0 c =
    let before = c.loop-coflow.invariant in
    let k = c.loop-coflow.coflow-index in
    let flows = c.args.flows.now in
    let coflow = get_or c.args.line.now k 0 in
    let next = next_coflow flows c.args.line.now c.args.starts.now k c.requires.starts c.requires.distinct c.loop-coflow-test.true (c.requires.coflows k 0 c.loop-coflow-test.true)
    in
    record {
      at_len = before.at_len;
      busy_len = before.busy_len;
      open_ingress = before.open_ingress;
      open_egress = before.open_egress;
      granting = coflow_owes_nothing flows c.args.line.now (λ f. get_or c.args.owing.now.left f 0) k (get_or c.args.starts.now coflow 0) (get_or c.args.starts.now (coflow + 1) 0)
          c.loop-coflow.at c.loop-coflow.busy next
          (λ f from to. coflow_is_empty flows c.args.owing.now coflow f c.requires.owed
          (number_of_coflow flows c.args.starts.now coflow f c.requires.starts (c.requires.coflows k 0 c.loop-coflow-test.true) from to)
          (c.requires.starts.own coflow f (c.requires.coflows k 0 c.loop-coflow-test.true) from to) (sym c.of_coflow.ensures ∙ c.if-of_coflow-eq0.true)) before.granting;
    }

pub loop-coflow-preserved : goal.loop-coflow-preserved
loop-coflow-preserved c =
    let before = c.loop-coflow.invariant in
    let k = c.loop-coflow.coflow-index in
    record {
      at_len = c.grant_owing_coflow.ensures.at_len ∙ before.at_len;
      busy_len = c.grant_owing_coflow.ensures.busy_len ∙ before.busy_len;
      open_ingress = c.grant_owing_coflow.ensures.open_ingress;
      open_egress = c.grant_owing_coflow.ensures.open_egress;
      granting = c.grant_owing_coflow.ensures.granting c.args.line.now k
          (next_coflow c.args.flows.now c.args.line.now c.args.starts.now k c.requires.starts c.requires.distinct c.loop-coflow-test.true
          (c.requires.coflows k 0 c.loop-coflow-test.true)) before.granting;
    }
