use Rattle.std.proofs.Common.{◌≡◌, ◌∙◌, ℕ, ◌<◌, List, true, ap, arith, length, subst, sym}
use Rattle.std.specs.Prelude.{slice_index}
use Rattle.coflow_units.specs.Certificate.{bound}
use Rattle.bssi_order.specs.Order.{entries_of}
use Rattle.journal.specs.Chosen.{the_ordering}
use Rattle.coflow_units.specs.declared.fabric.Flow.{Flow}
use Rattle.coflow_units.specs.declared.fabric.Port.{Port}
use Rattle.coflow_units.specs.Flows.{with_units}
use Rattle.coflow_units.specs.Load.{load}
use Rattle.port_load.specs.LoadTable.{is_present, load_at}
use Rattle.dual_cert.specs.TableCertificate.{HasLoadsOf, IsCertificateOf, StaysInBudget}
use Rattle.online_runs.proofs.Bounds.{certificate, in_budget, is_ordering, loads}
use Rattle.online_runs.proofs.orders.bound_of.Goals as goal

pub bound-least-requires-clause-certificate : goal.bound-least-requires-clause-certificate
bound-least-requires-clause-certificate c =
    let (i, weights, inst, order, is, small) = c.requires.order in
    let t = c.fill_by_coflow.new.self in
    let coflows : t.coflows ≡ length c.args.present.now = c.fill_by_coflow.ensures.size.coflows ∙ c.requires.coflows ∙ sym c.requires.each_present in
    let ports : t.ports ≡ c.args.table.now.ports = c.fill_by_coflow.ensures.size.ports ∙ c.requires.ports in
    let filled : (x : ℕ) (port : Port) → x < t.coflows → port.number < t.ports → is_present c.args.present.now x ≡ true →
    load_at t x port ≡ load (with_units (λ f. slice_index c.args.left.now f) c.args.table.now.flows) x port =
    λ x port lt lt' yes. c.fill_by_coflow.ensures.present_are x port
    (omega (arith, lt, c.fill_by_coflow.ensures.size.coflows)) (omega (arith, lt', c.fill_by_coflow.ensures.size.ports)) yes ∙
    ap (λ (fs : List Flow). load (with_units (λ f. slice_index c.args.left.now f) fs) x port) c.flows.ensures.flows in
    subst (IsCertificateOf t) (sym c.in_ok-cert.ensures.from_last)
    (certificate i c.args.table.now.flows c.args.left.now weights c.args.present.now c.args.table.now.ports c.args.places.now inst order is t coflows ports filled)

pub bound-least-requires-clause-feasible : goal.bound-least-requires-clause-feasible
bound-least-requires-clause-feasible c =
    let (i, weights, inst, order, is, small) = c.requires.order in
    let t = c.fill_by_coflow.new.self in
    let coflows : t.coflows ≡ length c.args.present.now = c.fill_by_coflow.ensures.size.coflows ∙ c.requires.coflows ∙ sym c.requires.each_present in
    let ports : t.ports ≡ c.args.table.now.ports = c.fill_by_coflow.ensures.size.ports ∙ c.requires.ports in
    let filled : (x : ℕ) (port : Port) → x < t.coflows → port.number < t.ports → is_present c.args.present.now x ≡ true →
    load_at t x port ≡ load (with_units (λ f. slice_index c.args.left.now f) c.args.table.now.flows) x port =
    λ x port lt lt' yes. c.fill_by_coflow.ensures.present_are x port
    (omega (arith, lt, c.fill_by_coflow.ensures.size.coflows)) (omega (arith, lt', c.fill_by_coflow.ensures.size.ports)) yes ∙
    ap (λ (fs : List Flow). load (with_units (λ f. slice_index c.args.left.now f) fs) x port) c.flows.ensures.flows in (
      weights,
      small,
      subst (StaysInBudget t weights) (sym c.in_ok-cert.ensures.from_last)
          (in_budget i c.args.table.now.flows c.args.left.now weights c.args.present.now c.args.table.now.ports c.args.places.now inst order is t coflows ports filled),
    )

pub returns-clause-bound : goal.returns-clause-bound
returns-clause-bound c = λ i weights inst order is.
    let t = c.fill_by_coflow.new.self in
    let coflows : t.coflows ≡ length c.args.present.now = c.fill_by_coflow.ensures.size.coflows ∙ c.requires.coflows ∙ sym c.requires.each_present in
    let ports : t.ports ≡ c.args.table.now.ports = c.fill_by_coflow.ensures.size.ports ∙ c.requires.ports in
    let filled : (x : ℕ) (port : Port) → x < t.coflows → port.number < t.ports → is_present c.args.present.now x ≡ true →
    load_at t x port ≡ load (with_units (λ f. slice_index c.args.left.now f) c.args.table.now.flows) x port =
    λ x port lt lt' yes. c.fill_by_coflow.ensures.present_are x port
    (omega (arith, lt, c.fill_by_coflow.ensures.size.coflows)) (omega (arith, lt', c.fill_by_coflow.ensures.size.ports)) yes ∙
    ap (λ (fs : List Flow). load (with_units (λ f. slice_index c.args.left.now f) fs) x port) c.flows.ensures.flows in
    let same : entries_of c.args.places.now ≡ the_ordering i = is_ordering i c.args.table.now.flows c.args.left.now weights c.args.present.now c.args.table.now.ports
    c.args.places.now inst order is in
    let has = loads i c.args.table.now.flows c.args.left.now weights c.args.present.now c.args.table.now.ports c.args.places.now inst order is t coflows ports filled in
    c.bound-least.ensures i.flows (subst (HasLoadsOf i.flows t) (sym c.in_ok-cert.ensures.from_last) has) ∙ ap (bound i.flows) (c.in_ok-cert.ensures.from_last ∙ same)
