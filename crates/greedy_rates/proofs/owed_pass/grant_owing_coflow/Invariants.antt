-- the groups so far were looked at
use Rattle.std.proofs.Common.{◌≡◌, ℕ, ◌-◌, ◌≤◌, List, get_or, length}
use Rattle.greedy_rates.specs.OpenPorts.{open_ingresses, open_egresses}
use Rattle.greedy_rates.specs.Pass.{IsGranting, IsNext}
use Rattle.greedy_rates.proofs.owed_pass.grant_owing_coflow.Given as goal

abbrev pub invariant-loop-number : goal.invariant-loop-number
invariant-loop-number l = record {
  from : l.first ≤ l.number;
  at_len : length l.at ≡ length l.fn.at;
  busy_len : length l.busy ≡ length l.fn.busy;
  open_ingress : l.ports.ingress ≡ open_ingresses l.owing.at_ingress l.at;
  open_egress : l.ports.egress ≡ open_egresses l.owing.at_egress l.busy;
  granting : (line : List ℕ) (k : ℕ) → IsNext l.flows line k l.first l.end → IsGranting l.flows line (λ f. get_or l.owing.left f 0) k 0 l.fn.at l.fn.busy →
      IsGranting l.flows line (λ f. get_or l.owing.left f 0) k l.number l.at l.busy;
}

abbrev pub decreases-loop-number : goal.decreases-loop-number
decreases-loop-number l = l.end - l.number
