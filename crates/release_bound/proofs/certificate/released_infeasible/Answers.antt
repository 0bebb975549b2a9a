use Rattle.std.proofs.Common.{◌≡◌, ◌+◌, ◌^◌, ◌<◌, length, min, reverse, take, sym, subst, ◌∙◌, arith}
use Rattle.std.specs.Prelude.{slice_index}
use Rattle.dual_cert.specs.TableCertificate.{IsCertificateOf}
use Rattle.dual_cert.proofs.BudgetSteps.{most}
use Rattle.dual_cert.proofs.FirstPlaces.{named_in}
use Rattle.release_bound.specs.Release.{entries_of}
use Rattle.release_bound.proofs.ChargeSteps.{IsOver, IsPaidBy, LeastSoFar, entries_charged, in_front, least_in, least_over, least_within, named_at, none_over, place_at}
use Rattle.release_bound.proofs.ChargeSteps.{least_told}
use Rattle.release_bound.proofs.certificate.released_infeasible.Goals.{else-pays-weights, then-pays-weights}
use Rattle.release_bound.proofs.certificate.released_infeasible.Goals as goal

pub places_of-requires : goal.places_of-requires
places_of-requires c = record {
  certificate = subst (λ l. IsCertificateOf c.args.loads.now l)
      (sym (entries_charged (take (length c.args.places.now) c.charges_of-charges.result) c.args.places.now c.charges_of-charges.ensures.charges)) c.requires.certificate;
}

pub payments-paid-requires-clause-certificate : goal.payments-paid-requires-clause-certificate
payments-paid-requires-clause-certificate c = subst (λ l. IsCertificateOf c.args.loads.now l)
    (sym (entries_charged (take (length c.args.places.now) c.charges_of-charges.result) c.args.places.now c.charges_of-charges.ensures.charges)) c.requires.certificate

pub bounds-paid-place : goal.bounds-paid-place
bounds-paid-place c =
    let places = c.args.places.now in
    let k = c.loop-place.place-index in
    let inside = named_in c.args.loads.now (entries_of (reverse places)) c.requires.certificate (place_at places k).coflow
    (in_front (reverse places) (place_at places k) (named_at places k (omega (arith, c.loop-place-test.true)))) in
    omega (arith, inside, c.charges_of-charges.ensures.coflows)

pub bounds-weights-place : goal.bounds-weights-place
bounds-weights-place c =
    let places = c.args.places.now in
    let k = c.loop-place.place-index in
    let inside = named_in c.args.loads.now (entries_of (reverse places)) c.requires.certificate (place_at places k).coflow
    (in_front (reverse places) (place_at places k) (named_at places k (omega (arith, c.loop-place-test.true)))) in
    omega (arith, inside, c.requires.weights_len)

pub loop-place-preserved : goal.loop-place-preserved
loop-place-preserved c =
    let paid = c.payments-paid.result in
    let weights = c.args.weights.now in
    let places = c.args.places.now in
    let k = c.loop-place.place-index in
    let r = place_at places k in
    let small : slice_index weights r.coflow < 2 ^ 64 = omega (arith, c.type_inv.weights r.coflow) in
    let pays : c.saturating_add-pays.result ≡ min (slice_index paid r.coflow + r.z) most = c.saturating_add-pays.ensures in
    elim c.if-pays-weights.branch [
      | then-pays-weights w ↦
          let over : IsOver paid weights r = omega (arith, w.if-pays-weights.true, pays) in
          subst (λ least. LeastSoFar paid weights places (k + 1) least) (sym (w.least-is ∙ w.lesser-least.ensures))
          (least_over paid weights places k c.loop-place.least c.loop-place.invariant small over)
      | else-pays-weights w ↦ subst (λ least. LeastSoFar paid weights places (k + 1) least) (sym w.least-is)
          (least_within paid weights places k c.loop-place.least c.loop-place.invariant small (λ over. omega (arith, w.if-pays-weights.false, pays, over)))
    ]

pub returns-clause-none : goal.returns-clause-none
returns-clause-none c = λ flows weight has hasw none.
    let places = c.args.places.now in
    let same = entries_charged (take (length places) c.charges_of-charges.result) places c.charges_of-charges.ensures.charges in
    let paid = subst (λ l. IsPaidBy c.args.loads.now l c.payments-paid.result) same c.payments-paid.ensures in
    none_over c.args.loads.now c.args.weights.now c.payments-paid.result places c.loop-place.place-index c.requires.certificate paid
    (subst (λ least. LeastSoFar c.payments-paid.result c.args.weights.now places c.loop-place.place-index least) none c.loop-place.invariant) (omega arith) flows weight has hasw

pub returns-clause-least : goal.returns-clause-least
returns-clause-least c = λ flows weight has hasw.
    let places = c.args.places.now in
    let same = entries_charged (take (length places) c.charges_of-charges.result) places c.charges_of-charges.ensures.charges in
    let paid = subst (λ l. IsPaidBy c.args.loads.now l c.payments-paid.result) same c.payments-paid.ensures in
    least_told c.args.loads.now c.args.weights.now c.payments-paid.result places c.loop-place.place-index c.loop-place.least c.requires.certificate paid c.loop-place.invariant
    (omega arith) flows weight has hasw

pub returns-clause-within : goal.returns-clause-within
returns-clause-within c =
    least_in c.args.loads.now c.args.weights.now c.payments-paid.result c.args.places.now c.loop-place.place-index c.loop-place.least c.requires.certificate c.loop-place.invariant
    (omega arith)
