-- the flows of the coflows so far were looked at
use Rattle.std.proofs.Common.{◌≡◌, length, get_or}
use Rattle.greedy_rates.specs.Pass.{IsGranting}
use Rattle.greedy_rates.proofs.pass.grant_line.Given as goal

abbrev pub invariant-loop-coflow : goal.invariant-loop-coflow
invariant-loop-coflow l = record {
  at_len : length l.at ≡ length l.fn.at;
  busy_len : length l.busy ≡ length l.fn.busy;
  granting : IsGranting l.flows l.line (λ f. get_or l.left f 0) l.coflow-index 0 l.at l.busy;
}
