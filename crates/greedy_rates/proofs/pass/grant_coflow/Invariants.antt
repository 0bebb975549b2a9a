-- the flows below the number were looked at
use Rattle.std.proofs.Common.{◌≡◌, ℕ, ◌≤◌, List, length, get_or}
use Rattle.greedy_rates.specs.Pass.{IsGranting, IsNext}
use Rattle.greedy_rates.proofs.pass.grant_coflow.Given as goal

abbrev pub invariant-loop-number : goal.invariant-loop-number
invariant-loop-number l = record {
  at_len : length l.at ≡ length l.fn.at;
  busy_len : length l.busy ≡ length l.fn.busy;
  from : l.first ≤ l.number;
  granting : (line : List ℕ) (k : ℕ) → IsNext l.flows line k l.first l.end → IsGranting l.flows line (λ f. get_or l.left f 0) k 0 l.fn.at l.fn.busy →
      IsGranting l.flows line (λ f. get_or l.left f 0) k l.number l.at l.busy;
}
