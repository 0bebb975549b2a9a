-- What is asked of the order is asked of the table's coflows.
use Rattle.std.proofs.Common.{ℕ, ◌+◌, ◌<◌, List, Contains, length, sym, ap, subst, arith}
use Rattle.std.proofs.lemmas.List.Elements.{All-weaker}
use Rattle.coflow_units.specs.declared.fabric.Flow.{Flow}
use Rattle.coflow_units.specs.Flows.{coflow_of}
use Rattle.slot_switch.proofs.simulation.simulate.Goals as goal

pub serve-requires-clause-known : goal.serve-requires-clause-known
serve-requires-clause-known c =
    All-weaker (λ x. x < length c.args.table.now.ids) (λ x. x + 1 < length c.starts.result.now)
    (λ x lt. omega (arith, lt, ap (λ (xs : List ℕ). length xs) c.starts.ensures.starts, c.starts.ensures.table.starts_len)) c.args.order.now c.requires.known

pub serve-requires-clause-all : goal.serve-requires-clause-all
serve-requires-clause-all c =
    let table = c.args.table.now in
    subst (λ (xs : List Flow). (f : ℕ) → f < length xs → Contains c.args.order.now (coflow_of xs f)) (sym c.flows.ensures.flows)
    (λ f lt. c.requires.all (coflow_of table.flows f) (c.flows.ensures.table.coflow f record { coflow = 0; ingress = 0; egress = 0; units = 0 } lt))
