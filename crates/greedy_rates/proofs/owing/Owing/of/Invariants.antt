-- the flows so far owe their units, and the others nothing
use Rattle.std.proofs.Common.{◌≡◌, ℕ, ◌<◌, ◌≤◌, get_or, length}
use Rattle.coflow_units.specs.Flows.{units_of}
use Rattle.greedy_rates.specs.Owed.{IsOwed}
use Rattle.greedy_rates.proofs.owing.Owing.of.Given as goal

abbrev pub invariant-loop-number : goal.invariant-loop-number
invariant-loop-number l = record {
  owed : IsOwed l.flows l.owing;
  done : (f : ℕ) → f < l.number → get_or l.owing.left f 0 ≡ units_of l.flows f;
  rest : (f : ℕ) → l.number ≤ f → get_or l.owing.left f 0 ≡ 0;
  coflows_are : length l.owing.of_coflow ≡ l.fn.coflows;
  ingresses_are : length l.owing.at_ingress ≡ l.fn.ports;
  egresses_are : length l.owing.at_egress ≡ l.fn.ports;
}
