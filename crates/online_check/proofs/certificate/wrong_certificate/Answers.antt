use Rattle.std.proofs.Common.{ℕ, reverse, ap, refl, subst, ◌∙◌, arith}
use Rattle.std.specs.Prelude.{slice_index}
use Rattle.flow_table.specs.Table.{instance_of}
use Rattle.cert_check.proofs.InstanceFacts.{totals_fit}
use Rattle.release_bound.specs.Release.{IsReleasedFeasible, released_total}
use Rattle.release_bound.specs.ReleaseTable.{IsLeastReleasedInfeasible}
use Rattle.online_check.proofs.Firsts.{first_high_total, first_infeasible}
use Rattle.online_check.proofs.ReleasedSteps.{settled}
use Rattle.online_check.proofs.certificate.wrong_certificate.Goals as goal

pub released_infeasible-requires-clause-certificate : goal.released_infeasible-requires-clause-certificate
released_infeasible-requires-clause-certificate c =
    (settled c.args.table.now c.args.loads.now c.args.weights.now c.args.online.now c.args.places.now c.requires.loads c.requires.placed c.requires.places).beside

pub returns-in-Some : goal.returns-in-Some
returns-in-Some c =
    let s = settled c.args.table.now c.args.loads.now c.args.weights.now c.args.online.now c.args.places.now c.requires.loads c.requires.placed c.requires.places in
    let weight = λ (k : ℕ). slice_index c.args.weights.now k in
    let least = c.in-Some.ensures.least c.args.table.now.flows weight s.loads_are (λ k has. refl) in
    first_infeasible (instance_of c.args.table.now c.args.weights.now) (slice_index c.args.arrivals.now) c.args.table.now.ids c.args.online.now c.in-Some.coflow
    (omega (arith, c.in-Some.ensures.within, c.requires.loads.coflows))
    (subst (λ p. IsLeastReleasedInfeasible c.args.table.now.flows weight p c.in-Some.coflow) s.is least)

pub released_total-real-requires-clause-totals_fit : goal.released_total-real-requires-clause-totals_fit
released_total-real-requires-clause-totals_fit c = totals_fit c.args.table.now c.args.loads.now c.requires.table c.requires.loads

pub released_total-real-requires-clause-certificate : goal.released_total-real-requires-clause-certificate
released_total-real-requires-clause-certificate c =
    (settled c.args.table.now c.args.loads.now c.args.weights.now c.args.online.now c.args.places.now c.requires.loads c.requires.placed c.requires.places).beside

pub released_total-real-requires-clause-feasible : goal.released_total-real-requires-clause-feasible
released_total-real-requires-clause-feasible c =
    let s = settled c.args.table.now c.args.loads.now c.args.weights.now c.args.online.now c.args.places.now c.requires.loads c.requires.placed c.requires.places in
    let weight = λ (k : ℕ). slice_index c.args.weights.now k in
    record {
      flows = c.args.table.now.flows;
      weight = weight;
      has_loads = s.loads_are;
      has_weights = λ k has. refl;
      feasible = c.in_default.ensures.none c.args.table.now.flows weight s.loads_are (λ k has. refl) refl;
    }

pub returns-then-stated-real : goal.returns-then-stated-real
returns-then-stated-real c =
    let s = settled c.args.table.now c.args.loads.now c.args.weights.now c.args.online.now c.args.places.now c.requires.loads c.requires.placed c.requires.places in
    let flows = c.args.table.now.flows in
    let weight = λ (k : ℕ). slice_index c.args.weights.now k in
    let arrival = slice_index c.args.arrivals.now in
    let feasible = subst (IsReleasedFeasible flows weight) s.is (c.in_default.ensures.none flows weight s.loads_are (λ k has. refl) refl) in
    let real = c.released_total-real.ensures flows arrival s.loads_are (λ k has. refl) ∙ ap (λ n. released_total flows arrival n (reverse c.args.places.now)) c.requires.loads.ports
    ∙ ap (released_total flows arrival c.args.table.now.ports) s.is in
    first_high_total (instance_of c.args.table.now c.args.weights.now) arrival c.args.table.now.ids c.args.online.now c.released_total-real.result feasible real
    c.if-stated-real.true

pub returns : goal.returns
returns c =
    let s = settled c.args.table.now c.args.loads.now c.args.weights.now c.args.online.now c.args.places.now c.requires.loads c.requires.placed c.requires.places in
    let flows = c.args.table.now.flows in
    let weight = λ (k : ℕ). slice_index c.args.weights.now k in
    let arrival = slice_index c.args.arrivals.now in
    let real = c.released_total-real.ensures flows arrival s.loads_are (λ k has. refl) ∙ ap (λ n. released_total flows arrival n (reverse c.args.places.now)) c.requires.loads.ports
    ∙ ap (released_total flows arrival c.args.table.now.ports) s.is in
    record {
      feasible = subst (IsReleasedFeasible flows weight) s.is (c.in_default.ensures.none flows weight s.loads_are (λ k has. refl) refl);
      total_is_low = omega (arith, c.if-stated-real.false, real);
    }
