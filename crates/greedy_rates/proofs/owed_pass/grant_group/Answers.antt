-- The first flow that owes and finds its egress free is granted.
use Rattle.std.proofs.Common.{◌≡◌, ℕ, Bool, true, false, List, Option, Some, get_or, set, sym, ap, subst, ◌∙◌, arith}
use Rattle.coflow_units.specs.Flows.{ingress_of, egress_of}
use Rattle.greedy_rates.specs.Pass.{IsGranting}
use Rattle.greedy_rates.specs.OpenPorts.{open_ingresses, open_egresses}
use Rattle.greedy_rates.proofs.PassSteps.{skip_flow, skip_received}
use Rattle.greedy_rates.proofs.OwedSteps.{found_at, found_closes_ingress, found_closes_egress, found_is_granted, owes, owes_not, ends_at}
use Rattle.greedy_rates.proofs.owed_pass.grant_group.Goals as goal

pub loop-number-preserved-then-left-number-eq0 : goal.loop-number-preserved-then-left-number-eq0
loop-number-preserved-then-left-number-eq0 c =
    let before = c.loop-number.invariant in
    record {
      from = omega (arith, before.from);
      at_is = before.at_is;
      busy_is = before.busy_is;
      ports_are = before.ports_are;
      granting = λ line k placed so_far. skip_flow c.args.flows.now line (λ f. get_or c.args.owing.now.left f 0) k c.loop-number.number c.args.at.now c.args.busy.now
          (placed c.loop-number.number before.from c.loop-number-test.true)
          (λ some. absurd (owes_not c.args.owing.now.left c.left-left.result.now c.loop-number.number c.left-left.ensures c.if-left-number-eq0.true some))
          (before.granting line k placed so_far);
    }

pub loop-number-preserved : goal.loop-number-preserved
loop-number-preserved c =
    let before = c.loop-number.invariant in
    record {
      from = omega (arith, before.from);
      at_is = before.at_is;
      busy_is = before.busy_is;
      ports_are = before.ports_are;
      granting = λ line k placed so_far. skip_received c.args.flows.now line (λ f. get_or c.args.owing.now.left f 0) k c.loop-number.number c.args.at.now c.args.busy.now
          (placed c.loop-number.number before.from c.loop-number-test.true)
          (ap (λ (bs : List Bool). get_or bs (egress_of c.args.flows.now c.loop-number.number) false) (sym before.busy_is) ∙ c.if-busy-flow.true)
          (before.granting line k placed so_far);
    }

pub overflow_sub-ports : goal.overflow_sub-ports
overflow_sub-ports c =
    let found = found_at c.args.flows.now c.args.owing.now c.args.at.now c.args.busy.now c.loop-number.busy c.args.first c.args.behind c.loop-number.number c.requires.owed
    c.requires.first c.requires.behind c.loop-number.invariant.from c.loop-number-test.true
    (owes c.args.owing.now.left c.left-left.result.now c.loop-number.number c.left-left.ensures c.if-left-number-eq0.false) c.requires.ingress_in_range
    c.requires.egress_in_range c.requires.free c.loop-number.invariant.busy_is c.if-busy-flow.false in
    omega (
      arith,
      found_closes_ingress c.args.flows.now c.args.owing.now c.args.at.now c.args.busy.now c.args.first c.args.behind c.loop-number.number found,
      c.requires.open_ingress,
      ap (λ p. p.ingress) c.loop-number.invariant.ports_are,
    )

pub overflow_sub-ports-in-loop-number : goal.overflow_sub-ports-in-loop-number
overflow_sub-ports-in-loop-number c =
    let found = found_at c.args.flows.now c.args.owing.now c.args.at.now c.args.busy.now c.loop-number.busy c.args.first c.args.behind c.loop-number.number c.requires.owed
    c.requires.first c.requires.behind c.loop-number.invariant.from c.loop-number-test.true
    (owes c.args.owing.now.left c.left-left.result.now c.loop-number.number c.left-left.ensures c.if-left-number-eq0.false) c.requires.ingress_in_range
    c.requires.egress_in_range c.requires.free c.loop-number.invariant.busy_is c.if-busy-flow.false in
    omega (
      arith,
      found_closes_egress c.args.flows.now c.args.owing.now c.args.at.now c.args.busy.now c.args.first c.args.behind c.loop-number.number found,
      c.requires.open_egress,
      ap (λ p. p.egress) c.loop-number.invariant.ports_are,
    )

pub returns-in-loop-number-clause-open_ingress : goal.returns-in-loop-number-clause-open_ingress
returns-in-loop-number-clause-open_ingress c =
    let found = found_at c.args.flows.now c.args.owing.now c.args.at.now c.args.busy.now c.loop-number.busy c.args.first c.args.behind c.loop-number.number c.requires.owed
    c.requires.first c.requires.behind c.loop-number.invariant.from c.loop-number-test.true
    (owes c.args.owing.now.left c.left-left.result.now c.loop-number.number c.left-left.ensures c.if-left-number-eq0.false) c.requires.ingress_in_range
    c.requires.egress_in_range c.requires.free c.loop-number.invariant.busy_is c.if-busy-flow.false in
    omega (
      arith,
      found_closes_ingress c.args.flows.now c.args.owing.now c.args.at.now c.args.busy.now c.args.first c.args.behind c.loop-number.number found,
      c.requires.open_ingress,
      ap (λ p. p.ingress) c.loop-number.invariant.ports_are,
      ap (λ (a : List (Option ℕ)). open_ingresses c.args.owing.now.at_ingress (set a (ingress_of c.args.flows.now c.loop-number.number) (Some c.loop-number.number)))
          c.loop-number.invariant.at_is,
    )

pub returns-in-loop-number-clause-open_egress : goal.returns-in-loop-number-clause-open_egress
returns-in-loop-number-clause-open_egress c =
    let found = found_at c.args.flows.now c.args.owing.now c.args.at.now c.args.busy.now c.loop-number.busy c.args.first c.args.behind c.loop-number.number c.requires.owed
    c.requires.first c.requires.behind c.loop-number.invariant.from c.loop-number-test.true
    (owes c.args.owing.now.left c.left-left.result.now c.loop-number.number c.left-left.ensures c.if-left-number-eq0.false) c.requires.ingress_in_range
    c.requires.egress_in_range c.requires.free c.loop-number.invariant.busy_is c.if-busy-flow.false in
    omega (
      arith,
      found_closes_egress c.args.flows.now c.args.owing.now c.args.at.now c.args.busy.now c.args.first c.args.behind c.loop-number.number found,
      c.requires.open_egress,
      ap (λ p. p.egress) c.loop-number.invariant.ports_are,
      ap (λ (b : List Bool). open_egresses c.args.owing.now.at_egress (set b (egress_of c.args.flows.now c.loop-number.number) true)) c.loop-number.invariant.busy_is,
    )

pub returns-in-loop-number-clause-granting : goal.returns-in-loop-number-clause-granting
returns-in-loop-number-clause-granting c = λ line k placed so_far.
    let found = found_at c.args.flows.now c.args.owing.now c.args.at.now c.args.busy.now c.loop-number.busy c.args.first c.args.behind c.loop-number.number c.requires.owed
    c.requires.first c.requires.behind c.loop-number.invariant.from c.loop-number-test.true
    (owes c.args.owing.now.left c.left-left.result.now c.loop-number.number c.left-left.ensures c.if-left-number-eq0.false) c.requires.ingress_in_range
    c.requires.egress_in_range c.requires.free c.loop-number.invariant.busy_is c.if-busy-flow.false in
    let i = ingress_of c.args.flows.now c.loop-number.number in
    let e = egress_of c.args.flows.now c.loop-number.number in
    subst (λ (a : List (Option ℕ)). IsGranting c.args.flows.now line (λ f. get_or c.args.owing.now.left f 0) k c.args.behind (set a i (Some c.loop-number.number))
    (set c.loop-number.busy e true)) (sym c.loop-number.invariant.at_is)
    (subst (λ (b : List Bool). IsGranting c.args.flows.now line (λ f. get_or c.args.owing.now.left f 0) k c.args.behind (set c.args.at.now i (Some c.loop-number.number))
    (set b e true)) (sym c.loop-number.invariant.busy_is)
    (found_is_granted c.args.flows.now line c.args.owing.now k c.args.at.now c.args.busy.now c.args.first c.args.behind c.loop-number.number found placed
    (c.loop-number.invariant.granting line k placed so_far)))

pub returns-clause-granting : goal.returns-clause-granting
returns-clause-granting c = λ line k placed so_far.
    let ended : c.loop-number.number ≡ c.args.behind =
    ends_at c.args.flows.now c.args.owing.now c.args.first c.args.behind c.loop-number.number c.requires.owed c.requires.first c.requires.behind c.loop-number.auto.number-end
    c.loop-number-test.false in
    subst (λ (a : List (Option ℕ)). IsGranting c.args.flows.now line (λ f. get_or c.args.owing.now.left f 0) k c.args.behind a c.loop-number.busy)
    (sym c.loop-number.invariant.at_is)
    (subst (λ (b : List Bool). IsGranting c.args.flows.now line (λ f. get_or c.args.owing.now.left f 0) k c.args.behind c.args.at.now b) (sym c.loop-number.invariant.busy_is)
    (subst (λ (n : ℕ). IsGranting c.args.flows.now line (λ f. get_or c.args.owing.now.left f 0) k n c.args.at.now c.args.busy.now) ended
    (c.loop-number.invariant.granting line k placed so_far)))
