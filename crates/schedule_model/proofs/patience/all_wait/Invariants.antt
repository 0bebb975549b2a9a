-- the flows so far wait or have no units left
use Rattle.std.proofs.Common.{◌≤◌, ◌<◌, ◌⊎◌, ℕ, get_or}
use Rattle.coflow_units.specs.Flows.{egress_of, ingress_of, units_of}
use Rattle.schedule_model.proofs.patience.all_wait.Given as goal

abbrev pub invariant-loop-number : goal.invariant-loop-number
invariant-loop-number l = (f : ℕ) → f < l.number → get_or l.counts f 0 < units_of l.flows f →
    (get_or l.ingress (ingress_of l.flows f) 0 ≤ get_or l.places f 0) ⊎ (get_or l.egress (egress_of l.flows f) 0 ≤ get_or l.places f 0)
