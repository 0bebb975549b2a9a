use Rattle.std.proofs.Common.{refl, subst, sym, ap, ◌∙◌}
use Rattle.std.specs.Prelude.{slice_index}
use Rattle.coflow_units.specs.Certificate.{bound, slack}
use Rattle.dual_cert.specs.TableCertificate.{HasLoadsOf, IsCertificateOf, StaysInBudget}
use Rattle.plans.proofs.CertificateFacts.{in_budget, loads_of, table_certificate}
use Rattle.plans.proofs.planning.values_of.Goals as goal

pub bound-bound-requires-clause-certificate : goal.bound-bound-requires-clause-certificate
bound-bound-requires-clause-certificate c =
    subst (IsCertificateOf c.in_ok-loads.loads) (sym c.in_ok-cert.ensures.from_last)
    (table_certificate c.args.table.now c.args.weights.now c.args.places.now c.in_ok-loads.loads c.requires.order c.in_ok-loads.ensures.coflows_are
    c.in_ok-loads.ensures.ports_are)

pub bound-bound-requires-clause-feasible : goal.bound-bound-requires-clause-feasible
bound-bound-requires-clause-feasible c = (
  c.args.weights.now,
  c.requires.weights,
  subst (StaysInBudget c.in_ok-loads.loads c.args.weights.now) (sym c.in_ok-cert.ensures.from_last)
      (in_budget c.args.table.now c.args.weights.now c.args.places.now c.in_ok-loads.loads c.requires.order c.in_ok-loads.ensures.coflows_are c.in_ok-loads.ensures.loads_are),
)

pub slack-slack-requires-clause-certificate : goal.slack-slack-requires-clause-certificate
slack-slack-requires-clause-certificate c =
    subst (IsCertificateOf c.in_ok-loads.loads) (sym c.in_ok-cert.ensures.from_last)
    (table_certificate c.args.table.now c.args.weights.now c.args.places.now c.in_ok-loads.loads c.requires.order c.in_ok-loads.ensures.coflows_are
    c.in_ok-loads.ensures.ports_are)

pub slack-slack-requires-clause-feasible : goal.slack-slack-requires-clause-feasible
slack-slack-requires-clause-feasible c =
    subst (StaysInBudget c.in_ok-loads.loads c.args.weights.now) (sym c.in_ok-cert.ensures.from_last)
    (in_budget c.args.table.now c.args.weights.now c.args.places.now c.in_ok-loads.loads c.requires.order c.in_ok-loads.ensures.coflows_are c.in_ok-loads.ensures.loads_are)

pub returns-clause-bound : goal.returns-clause-bound
returns-clause-bound c =
    let loads = subst (HasLoadsOf c.args.table.now.flows c.in_ok-loads.loads) (sym c.in_ok-cert.ensures.from_last)
    (loads_of c.args.table.now c.args.weights.now c.args.places.now c.in_ok-loads.loads c.requires.order c.in_ok-loads.ensures.coflows_are c.in_ok-loads.ensures.loads_are) in
    c.bound-bound.ensures c.args.table.now.flows loads ∙ ap (bound c.args.table.now.flows) c.in_ok-cert.ensures.from_last

pub returns-clause-slack : goal.returns-clause-slack
returns-clause-slack c =
    let loads = subst (HasLoadsOf c.args.table.now.flows c.in_ok-loads.loads) (sym c.in_ok-cert.ensures.from_last)
    (loads_of c.args.table.now c.args.weights.now c.args.places.now c.in_ok-loads.loads c.requires.order c.in_ok-loads.ensures.coflows_are c.in_ok-loads.ensures.loads_are) in
    c.slack-slack.ensures c.args.table.now.flows (λ coflow. slice_index c.args.weights.now coflow) loads (λ coflow has. refl) ∙
    ap (slack c.args.table.now.flows (λ coflow. slice_index c.args.weights.now coflow)) c.in_ok-cert.ensures.from_last
