-- no flow of the group so far could be granted
use Rattle.std.proofs.Common.{◌≡◌, ℕ, ◌≤◌, ◌<◌, List, get_or}
use Rattle.coflow_units.specs.Flows.{coflow_of}
use Rattle.coflow_units.specs.Grants.{place_in}
use Rattle.greedy_rates.specs.Pass.{IsGranting}
use Rattle.greedy_rates.proofs.owed_pass.grant_group.Given as goal

abbrev pub invariant-loop-number : goal.invariant-loop-number
invariant-loop-number l = record {
  from : l.first ≤ l.number;
  at_is : l.at ≡ l.fn.at;
  busy_is : l.busy ≡ l.fn.busy;
  ports_are : l.ports ≡ l.fn.ports;
  granting : (line : List ℕ) (k : ℕ) → ((f : ℕ) → l.first ≤ f → f < l.behind → place_in line (coflow_of l.flows f) ≡ k) →
      IsGranting l.flows line (λ f. get_or l.owing.left f 0) k l.first l.fn.at l.fn.busy → IsGranting l.flows line (λ f. get_or l.owing.left f 0) k l.number l.fn.at l.fn.busy;
}
