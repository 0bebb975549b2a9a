use Rattle.std.proofs.Common.{ℕ, length, reverse, ap, refl, subst, ◌∙◌, arith}
use Rattle.std.specs.Prelude.{slice_index}
use Rattle.coflow_units.specs.Certificate.{IsCertificate, IsFeasible, bound, slack}
use Rattle.dual_cert.specs.TableCertificate.{IsLeastInfeasible}
use Rattle.dual_cert.proofs.OfInstance.{stays_of}
use Rattle.flow_table.specs.Table.{instance_of}
use Rattle.cert_check.specs.Places.{certificate_in}
use Rattle.cert_check.specs.Stated.{AreRealIfAny}
use Rattle.cert_check.proofs.Firsts.{first_high_bound, first_infeasible, first_wrong_slack}
use Rattle.cert_check.proofs.InstanceFacts.{few_places, settled, totals_fit, values_fit}
use Rattle.cert_check.proofs.certificate.wrong_certificate.Goals as goal

pub out_of_range-requires : goal.out_of_range-requires
out_of_range-requires c = omega (
  arith,
  ap length c.as_slice-places.ensures,
  few_places c.args.table.now.ids c.args.report.now.places c.requires.names,
  c.ports.ensures.table.few_coflows,
)

pub infeasible-requires-clause-certificate : goal.infeasible-requires-clause-certificate
infeasible-requires-clause-certificate c =
    let s = settled c.args.table.now c.args.loads.now c.args.weights.now c.args.coflows.now c.as_slice-places.result.now c.args.report.now.places c.ports.result c.in_ok-cert.cert
    c.requires.loads c.requires.names c.as_slice-places.ensures c.ports.ensures.ports
    c.in_default.ensures c.requires.coflows c.in_ok-cert.ensures in
    s.beside

pub returns-in-Some-infeasible : goal.returns-in-Some-infeasible
returns-in-Some-infeasible c =
    let s = settled c.args.table.now c.args.loads.now c.args.weights.now c.args.coflows.now c.as_slice-places.result.now c.args.report.now.places c.ports.result c.in_ok-cert.cert
    c.requires.loads c.requires.names c.as_slice-places.ensures c.ports.ensures.ports
    c.in_default.ensures c.requires.coflows c.in_ok-cert.ensures in
    let weights = subst (λ l. AreRealIfAny l c.args.report.now.weights (slice_index c.args.weights.now)) c.requires.coflows c.in_default-least_wrong_if_any.ensures in
    let least = c.in-Some-infeasible.ensures.least c.args.table.now.flows (λ (k : ℕ). slice_index c.args.weights.now k) s.loads_are (λ k has. refl) in
    first_infeasible _ c.args.table.now.ids c.args.report.now c.in-Some-infeasible.coflow s.ports weights
    (subst (λ e. IsLeastInfeasible c.args.table.now.flows (λ (k : ℕ). slice_index c.args.weights.now k) e c.in-Some-infeasible.coflow) s.entries_are least)

pub bound-real-requires-clause-totals_fit : goal.bound-real-requires-clause-totals_fit
bound-real-requires-clause-totals_fit c = totals_fit c.args.table.now c.args.loads.now c.ports.ensures.table c.requires.loads

pub bound-real-requires-clause-certificate : goal.bound-real-requires-clause-certificate
bound-real-requires-clause-certificate c =
    let s = settled c.args.table.now c.args.loads.now c.args.weights.now c.args.coflows.now c.as_slice-places.result.now c.args.report.now.places c.ports.result c.in_ok-cert.cert
    c.requires.loads c.requires.names c.as_slice-places.ensures c.ports.ensures.ports
    c.in_default.ensures c.requires.coflows c.in_ok-cert.ensures in
    s.beside

pub bound-real-requires-clause-feasible : goal.bound-real-requires-clause-feasible
bound-real-requires-clause-feasible c =
    let s = settled c.args.table.now c.args.loads.now c.args.weights.now c.args.coflows.now c.as_slice-places.result.now c.args.report.now.places c.ports.result c.in_ok-cert.cert
    c.requires.loads c.requires.names c.as_slice-places.ensures c.ports.ensures.ports
    c.in_default.ensures c.requires.coflows c.in_ok-cert.ensures in
    let feasible = c.in_default-infeasible.ensures.none c.args.table.now.flows (λ (k : ℕ). slice_index c.args.weights.now k) s.loads_are (λ k has. refl) refl in (
      c.args.weights.now,
      c.requires.weight_range,
      stays_of c.args.table.now.flows (λ (k : ℕ). slice_index c.args.weights.now k) c.args.loads.now c.args.weights.now
          (reverse c.in_ok-cert.cert) s.loads_are (λ k has. refl) feasible,
    )

pub returns-then-stated-real : goal.returns-then-stated-real
returns-then-stated-real c =
    let s = settled c.args.table.now c.args.loads.now c.args.weights.now c.args.coflows.now c.as_slice-places.result.now c.args.report.now.places c.ports.result c.in_ok-cert.cert
    c.requires.loads c.requires.names c.as_slice-places.ensures c.ports.ensures.ports
    c.in_default.ensures c.requires.coflows c.in_ok-cert.ensures in
    let weights = subst (λ l. AreRealIfAny l c.args.report.now.weights (slice_index c.args.weights.now)) c.requires.coflows c.in_default-least_wrong_if_any.ensures in
    let feasible = c.in_default-infeasible.ensures.none c.args.table.now.flows (λ (k : ℕ). slice_index c.args.weights.now k) s.loads_are (λ k has. refl) refl in
    let real = c.bound-real.ensures c.args.table.now.flows s.loads_are ∙ ap (bound c.args.table.now.flows) s.entries_are in
    first_high_bound _ c.args.table.now.ids c.args.report.now c.bound-real.result s.ports weights
    (subst (IsFeasible c.args.table.now.flows (λ (k : ℕ). slice_index c.args.weights.now k)) s.entries_are feasible) real c.if-stated-real.true

pub slack-real-requires-clause-totals_fit : goal.slack-real-requires-clause-totals_fit
slack-real-requires-clause-totals_fit c = totals_fit c.args.table.now c.args.loads.now c.ports.ensures.table c.requires.loads

pub slack-real-requires-clause-certificate : goal.slack-real-requires-clause-certificate
slack-real-requires-clause-certificate c =
    let s = settled c.args.table.now c.args.loads.now c.args.weights.now c.args.coflows.now c.as_slice-places.result.now c.args.report.now.places c.ports.result c.in_ok-cert.cert
    c.requires.loads c.requires.names c.as_slice-places.ensures c.ports.ensures.ports
    c.in_default.ensures c.requires.coflows c.in_ok-cert.ensures in
    s.beside

pub slack-real-requires-clause-feasible : goal.slack-real-requires-clause-feasible
slack-real-requires-clause-feasible c =
    let s = settled c.args.table.now c.args.loads.now c.args.weights.now c.args.coflows.now c.as_slice-places.result.now c.args.report.now.places c.ports.result c.in_ok-cert.cert
    c.requires.loads c.requires.names c.as_slice-places.ensures c.ports.ensures.ports
    c.in_default.ensures c.requires.coflows c.in_ok-cert.ensures in
    let feasible = c.in_default-infeasible.ensures.none c.args.table.now.flows (λ (k : ℕ). slice_index c.args.weights.now k) s.loads_are (λ k has. refl) refl in
    stays_of c.args.table.now.flows (λ (k : ℕ). slice_index c.args.weights.now k) c.args.loads.now c.args.weights.now (reverse c.in_ok-cert.cert) s.loads_are (λ k has. refl)
    feasible

pub returns-then-stated-real-2 : goal.returns-then-stated-real-2
returns-then-stated-real-2 c =
    let s = settled c.args.table.now c.args.loads.now c.args.weights.now c.args.coflows.now c.as_slice-places.result.now c.args.report.now.places c.ports.result c.in_ok-cert.cert
    c.requires.loads c.requires.names c.as_slice-places.ensures c.ports.ensures.ports
    c.in_default.ensures c.requires.coflows c.in_ok-cert.ensures in
    let weights = subst (λ l. AreRealIfAny l c.args.report.now.weights (slice_index c.args.weights.now)) c.requires.coflows c.in_default-least_wrong_if_any.ensures in
    let feasible = c.in_default-infeasible.ensures.none c.args.table.now.flows (λ (k : ℕ). slice_index c.args.weights.now k) s.loads_are (λ k has. refl) refl in
    let real = c.bound-real.ensures c.args.table.now.flows s.loads_are ∙ ap (bound c.args.table.now.flows) s.entries_are in
    let left = c.slack-real.ensures c.args.table.now.flows (λ (k : ℕ). slice_index c.args.weights.now k) s.loads_are (λ k has. refl) ∙
    ap (slack c.args.table.now.flows (λ (k : ℕ). slice_index c.args.weights.now k)) s.entries_are in
    let within = subst (IsFeasible c.args.table.now.flows (λ (k : ℕ). slice_index c.args.weights.now k)) s.entries_are feasible in
    first_wrong_slack _ c.args.table.now.ids c.args.report.now c.slack-real.result s.ports weights within (omega (arith, c.if-stated-real.false, real)) left c.if-stated-real-2.true

pub returns : goal.returns
returns c =
    let s = settled c.args.table.now c.args.loads.now c.args.weights.now c.args.coflows.now c.as_slice-places.result.now c.args.report.now.places c.ports.result c.in_ok-cert.cert
    c.requires.loads c.requires.names c.as_slice-places.ensures c.ports.ensures.ports
    c.in_default.ensures c.requires.coflows c.in_ok-cert.ensures in
    let weights = subst (λ l. AreRealIfAny l c.args.report.now.weights (slice_index c.args.weights.now)) c.requires.coflows c.in_default-least_wrong_if_any.ensures in
    let feasible = c.in_default-infeasible.ensures.none c.args.table.now.flows (λ (k : ℕ). slice_index c.args.weights.now k) s.loads_are (λ k has. refl) refl in
    let real = c.bound-real.ensures c.args.table.now.flows s.loads_are ∙ ap (bound c.args.table.now.flows) s.entries_are in
    let left = c.slack-real.ensures c.args.table.now.flows (λ (k : ℕ). slice_index c.args.weights.now k) s.loads_are (λ k has. refl) ∙
    ap (slack c.args.table.now.flows (λ (k : ℕ). slice_index c.args.weights.now k)) s.entries_are in
    let within = subst (IsFeasible c.args.table.now.flows (λ (k : ℕ). slice_index c.args.weights.now k)) s.entries_are feasible in
    record {
      port = s.ports;
      weights = weights;
      feasible = within;
      bound_is_low = omega (arith, c.if-stated-real.false, real);
      slack_is = c.if-stated-real-2.false ∙ left;
      fits = values_fit c.args.table.now c.args.weights.now (certificate_in c.args.table.now.ids c.args.report.now.places) c.args.report.now.bound c.args.report.now.slack
          c.ports.ensures.table (subst (IsCertificate (instance_of c.args.table.now c.args.weights.now)) s.entries_are s.certificate) c.requires.weight_range within
          (omega (arith, c.if-stated-real.false, real)) (c.if-stated-real-2.false ∙ left);
    }
