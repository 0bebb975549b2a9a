-- All sums are 0.
use Rattle.std.proofs.Common.{ℕ, ◌+◌, List, length, ap, ◌∙◌, arith}
use Rattle.std.proofs.lemmas.List.{length-replicate}
use Rattle.coflow_units.specs.Flows.{coflow_of, ingress_of, egress_of}
use Rattle.greedy_rates.proofs.Tallies.{zeros_tally}
use Rattle.greedy_rates.proofs.owing.Owing.nothing.Goals as goal

pub returns-clause-owed : goal.returns-clause-owed
returns-clause-owed c =
    let flows = c.args.flows.now in
    let left = c.in_ok-left.ensures.items_if_clones_equal (λ y same. same) in
    let groups = c.in_ok-behind.ensures in
    record {
      count = ap (λ (xs : List ℕ). length xs) left ∙ length-replicate {A = ℕ} (length flows) 0;
      coflows = zeros_tally (coflow_of flows) c.in_ok-left.left.items c.in_ok-of_coflow.of_coflow.items (length flows) c.args.coflows left
          (c.in_ok-of_coflow.ensures.items_if_clones_equal (λ y same. same)) (λ f lt. c.requires.coflow_in_range f _ lt);
      ingresses = zeros_tally (ingress_of flows) c.in_ok-left.left.items c.in_ok-at_ingress.at_ingress.items (length flows) c.args.ports left
          (c.in_ok-at_ingress.ensures.items_if_clones_equal (λ y same. same)) (λ f lt. c.requires.ingress_in_range f _ lt);
      egresses = zeros_tally (egress_of flows) c.in_ok-left.left.items c.in_ok-at_egress.at_egress.items (length flows) c.args.ports left
          (c.in_ok-at_egress.ensures.items_if_clones_equal (λ y same. same)) (λ f lt. c.requires.egress_in_range f _ lt);
      groups = groups;
      group_sums = zeros_tally _ c.in_ok-left.left.items c.in_ok-of_group.of_group.items (length flows) (length flows + 1) left
          (c.in_ok-of_group.ensures.items_if_clones_equal (λ y same. same)) (λ f lt. omega (arith, groups.within f lt));
    }
