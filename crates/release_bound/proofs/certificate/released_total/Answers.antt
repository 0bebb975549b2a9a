use Rattle.std.proofs.Common.{◌≡◌, ◌+◌, ◌*◌, length, reverse, take, sym, ap, subst, ◌∙◌, arith}
use Rattle.std.proofs.lemmas.List.{take_all}
use Rattle.coflow_units.specs.Certificate.{div_up, scale}
use Rattle.dual_cert.specs.TableCertificate.{IsCertificateOf}
use Rattle.dual_cert.proofs.FirstPlaces.{named_in}
use Rattle.dual_cert.proofs.ValueSteps.{div_ceil_is}
use Rattle.release_bound.specs.Release.{entries_of, released_value}
use Rattle.release_bound.proofs.ChargeSteps.{entries_charged, in_front, named_at, place_at}
use Rattle.release_bound.proofs.TotalSteps.{total_fits, total_step}
use Rattle.release_bound.proofs.certificate.released_total.Goals as goal

pub places_of-stands-requires : goal.places_of-stands-requires
places_of-stands-requires c = record {
  certificate = subst (λ l. IsCertificateOf c.args.loads.now l)
      (sym (entries_charged (take (length c.args.places.now) c.charges_of-charges.result) c.args.places.now c.charges_of-charges.ensures.charges)) c.requires.certificate;
}

pub front_value-front-requires-clause-certificate : goal.front_value-front-requires-clause-certificate
front_value-front-requires-clause-certificate c = subst (λ l. IsCertificateOf c.args.loads.now l)
    (sym (entries_charged (take (length c.args.places.now) c.charges_of-charges.result) c.args.places.now c.charges_of-charges.ensures.charges)) c.requires.certificate

pub earliest_end-end-requires-clause-coflow_in : goal.earliest_end-end-requires-clause-coflow_in
earliest_end-end-requires-clause-coflow_in c =
    let places = c.args.places.now in
    let r = place_at places c.loop-place.place in
    named_in c.args.loads.now (entries_of (reverse places)) c.requires.certificate r.coflow
    (in_front (reverse places) r (named_at places c.loop-place.place (omega (arith, c.loop-place-test.true))))

pub loop-place-preserved : goal.loop-place-preserved
loop-place-preserved c =
    total_step c.args.loads.now c.args.arrivals.now (take (length c.args.places.now) c.charges_of-charges.result) c.args.places.now c.loop-place.value c.loop-place.place
    c.front_value-front.result c.earliest_end-end.result c.charges_of-charges.ensures.charges c.loop-place.invariant c.front_value-front.ensures c.earliest_end-end.ensures
    (omega (arith, c.loop-place-test.true))

pub overflow_mul-value : goal.overflow_mul-value
overflow_mul-value c =
    omega (
      arith,
      total_fits c.args.loads.now c.args.weights.now c.args.arrivals.now c.args.places.now _ (c.loop-place.place + 1) c.requires.certificate c.coflows.ensures.limit
          c.requires.totals_fit c.requires.weights_fit c.requires.arrivals_fit c.requires.feasible (loop-place-preserved c),
    )

pub overflow_mul-value-in-loop-place : goal.overflow_mul-value-in-loop-place
overflow_mul-value-in-loop-place c =
    omega (
      arith,
      total_fits c.args.loads.now c.args.weights.now c.args.arrivals.now c.args.places.now _ (c.loop-place.place + 1) c.requires.certificate c.coflows.ensures.limit
          c.requires.totals_fit c.requires.weights_fit c.requires.arrivals_fit c.requires.feasible (loop-place-preserved c),
    )

pub overflow_mul-value-in-loop-place-2 : goal.overflow_mul-value-in-loop-place-2
overflow_mul-value-in-loop-place-2 c =
    omega (
      arith,
      total_fits c.args.loads.now c.args.weights.now c.args.arrivals.now c.args.places.now _ (c.loop-place.place + 1) c.requires.certificate c.coflows.ensures.limit
          c.requires.totals_fit c.requires.weights_fit c.requires.arrivals_fit c.requires.feasible (loop-place-preserved c),
    )

pub overflow_add-value : goal.overflow_add-value
overflow_add-value c =
    omega (
      arith,
      total_fits c.args.loads.now c.args.weights.now c.args.arrivals.now c.args.places.now _ (c.loop-place.place + 1) c.requires.certificate c.coflows.ensures.limit
          c.requires.totals_fit c.requires.weights_fit c.requires.arrivals_fit c.requires.feasible (loop-place-preserved c),
    )

pub overflow_add-value-in-loop-place : goal.overflow_add-value-in-loop-place
overflow_add-value-in-loop-place c =
    omega (
      arith,
      total_fits c.args.loads.now c.args.weights.now c.args.arrivals.now c.args.places.now _ (c.loop-place.place + 1) c.requires.certificate c.coflows.ensures.limit
          c.requires.totals_fit c.requires.weights_fit c.requires.arrivals_fit c.requires.feasible (loop-place-preserved c),
    )

pub returns : goal.returns
returns c = λ flows arrival has arrives.
    let is : c.loop-place.value ≡ released_value flows arrival c.args.loads.now.ports (reverse c.args.places.now) =
    c.loop-place.invariant.is flows arrival has arrives ∙
    ap (λ l. released_value flows arrival c.args.loads.now.ports (reverse l)) (take_all c.loop-place.place c.args.places.now (omega arith)) in
    c.div_ceil.ensures ∙ div_ceil_is c.loop-place.value (2 * scale) (omega arith) ∙ ap (λ n. div_up n (2 * scale)) is
