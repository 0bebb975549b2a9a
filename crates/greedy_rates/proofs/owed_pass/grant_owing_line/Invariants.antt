-- the coflows so far were looked at
use Rattle.std.proofs.Common.{◌≡◌, get_or, length}
use Rattle.greedy_rates.specs.OpenPorts.{open_ingresses, open_egresses}
use Rattle.greedy_rates.specs.Pass.{IsGranting}
use Rattle.greedy_rates.proofs.owed_pass.grant_owing_line.Given as goal

abbrev pub invariant-loop-coflow : goal.invariant-loop-coflow
invariant-loop-coflow l = record {
  at_len : length l.at ≡ length l.fn.at;
  busy_len : length l.busy ≡ length l.fn.busy;
  open_ingress : l.ports.ingress ≡ open_ingresses l.owing.at_ingress l.at;
  open_egress : l.ports.egress ≡ open_egresses l.owing.at_egress l.busy;
  granting : IsGranting l.flows l.line (λ f. get_or l.owing.left f 0) l.coflow-index 0 l.at l.busy;
}
