use Rattle.std.proofs.Common.{◌∙◌, ◌≡◌, reverse, sym, subst, ap}
use Rattle.std.specs.Prelude.{slice_index}
use Rattle.flow_table.specs.Table.{instance_of}
use Rattle.port_load.specs.LoadTable.{HasLoads}
use Rattle.release_bound.specs.Release.{IsReleasedFeasible, released_total}
use Rattle.release_bound.specs.ReleaseOrder.{IsReleasedBy}
use Rattle.release_bound.proofs.ReleasedTables.{budget_of, certificate_of, has_arrivals, has_loads, of_table}
use Rattle.release_bound.proofs.best.released_by.Goals as goal

pub released_total-total-requires-clause-certificate : goal.released_total-total-requires-clause-certificate
released_total-total-requires-clause-certificate c =
    let t = c.args.table.now in
    let weights = c.args.weights.now in
    let arrivals = c.args.arrivals.now in
    let first = c.in_ok-loads.loads in
    let has = subst (λ fs. HasLoads fs first) c.flows.ensures.flows c.in_ok-loads.ensures.loads_are in
    let of = of_table t weights arrivals first (c.in_ok-loads.ensures.coflows_are ∙ c.coflows.ensures.coflows) (c.in_ok-loads.ensures.ports_are ∙ c.ports.ensures.ports) has in
    let order = c.run.ensures.order (instance_of t weights) (slice_index arrivals) of in
    let same : c.run.new.self.places ≡ c.deref.result.now = sym (c.deref.ensures.value ∙ c.in_ok-places.ensures.items ∙ c.places.ensures) in
    let second = c.in_ok-loads-2.loads in
    let has' = subst (λ fs. HasLoads fs second) c.flows-2.ensures.flows c.in_ok-loads-2.ensures.loads_are in
    certificate_of t weights arrivals second (c.in_ok-loads-2.ensures.coflows_are ∙ c.coflows-3.ensures.coflows) (c.in_ok-loads-2.ensures.ports_are ∙ c.ports-3.ensures.ports)
    has' c.args.by c.deref.result.now (subst (λ l. IsReleasedBy c.args.by (instance_of t weights) (slice_index arrivals) (reverse l)) same order)

pub released_total-total-requires-clause-feasible : goal.released_total-total-requires-clause-feasible
released_total-total-requires-clause-feasible c =
    let t = c.args.table.now in
    let weights = c.args.weights.now in
    let arrivals = c.args.arrivals.now in
    let first = c.in_ok-loads.loads in
    let has = subst (λ fs. HasLoads fs first) c.flows.ensures.flows c.in_ok-loads.ensures.loads_are in
    let of = of_table t weights arrivals first (c.in_ok-loads.ensures.coflows_are ∙ c.coflows.ensures.coflows) (c.in_ok-loads.ensures.ports_are ∙ c.ports.ensures.ports) has in
    let order = c.run.ensures.order (instance_of t weights) (slice_index arrivals) of in
    let feasible = c.run.ensures.feasible (instance_of t weights) (slice_index arrivals) of in
    let same : c.run.new.self.places ≡ c.deref.result.now = sym (c.deref.ensures.value ∙ c.in_ok-places.ensures.items ∙ c.places.ensures) in
    let second = c.in_ok-loads-2.loads in
    let has' = subst (λ fs. HasLoads fs second) c.flows-2.ensures.flows c.in_ok-loads-2.ensures.loads_are in
    budget_of t weights arrivals second (c.in_ok-loads-2.ensures.coflows_are ∙ c.coflows-3.ensures.coflows) (c.in_ok-loads-2.ensures.ports_are ∙ c.ports-3.ensures.ports)
    has' c.args.by c.deref.result.now (subst (λ l. IsReleasedBy c.args.by (instance_of t weights) (slice_index arrivals) (reverse l)) same order)
    (subst (λ l. IsReleasedFeasible t.flows (slice_index weights) (reverse l)) same feasible)

pub returns-clause-certificate : goal.returns-clause-certificate
returns-clause-certificate c =
    let t = c.args.table.now in
    let weights = c.args.weights.now in
    let arrivals = c.args.arrivals.now in
    let first = c.in_ok-loads.loads in
    let has = subst (λ fs. HasLoads fs first) c.flows.ensures.flows c.in_ok-loads.ensures.loads_are in
    let of = of_table t weights arrivals first (c.in_ok-loads.ensures.coflows_are ∙ c.coflows.ensures.coflows) (c.in_ok-loads.ensures.ports_are ∙ c.ports.ensures.ports) has in
    subst (λ l. IsReleasedBy c.args.by (instance_of t weights) (slice_index arrivals) (reverse l)) (sym (c.in_ok-places.ensures.items ∙ c.places.ensures))
    (c.run.ensures.order (instance_of t weights) (slice_index arrivals) of)

pub returns-clause-total : goal.returns-clause-total
returns-clause-total c =
    let t = c.args.table.now in
    let weights = c.args.weights.now in
    let arrivals = c.args.arrivals.now in
    let first = c.in_ok-loads.loads in
    let has = subst (λ fs. HasLoads fs first) c.flows.ensures.flows c.in_ok-loads.ensures.loads_are in
    let of = of_table t weights arrivals first (c.in_ok-loads.ensures.coflows_are ∙ c.coflows.ensures.coflows) (c.in_ok-loads.ensures.ports_are ∙ c.ports.ensures.ports) has in
    let order = c.run.ensures.order (instance_of t weights) (slice_index arrivals) of in
    let same : c.run.new.self.places ≡ c.deref.result.now = sym (c.deref.ensures.value ∙ c.in_ok-places.ensures.items ∙ c.places.ensures) in
    let order' = subst (λ l. IsReleasedBy c.args.by (instance_of t weights) (slice_index arrivals) (reverse l)) same order in
    let second = c.in_ok-loads-2.loads in
    let coflows = c.in_ok-loads-2.ensures.coflows_are ∙ c.coflows-3.ensures.coflows in
    let ports = c.in_ok-loads-2.ensures.ports_are ∙ c.ports-3.ensures.ports in
    let has' = subst (λ fs. HasLoads fs second) c.flows-2.ensures.flows c.in_ok-loads-2.ensures.loads_are in
    c.released_total-total.ensures t.flows (slice_index arrivals)
    (has_loads t weights arrivals second coflows ports has' c.args.by c.deref.result.now order')
    (has_arrivals t weights arrivals second coflows ports has' c.args.by c.deref.result.now order') ∙
    ap (λ n. released_total t.flows (slice_index arrivals) n (reverse c.deref.result.now)) ports ∙
    ap (λ l. released_total t.flows (slice_index arrivals) t.ports (reverse l)) c.deref.ensures.value
