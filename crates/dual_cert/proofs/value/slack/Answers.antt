use Rattle.std.proofs.Common.{◌≡◌, ◌+◌, ◌-◌, ◌*◌, ◌^◌, ◌<◌, length, reverse, refl, sym, ap, subst, ◌∙◌, arith}
use Rattle.std.specs.Prelude.{slice_index}
use Rattle.coflow_units.specs.Certificate.{div_up, over_places, rest, scale, unspent}
use Rattle.dual_cert.specs.TableCertificate.{HasLoadsOf, HasWeightsOf, IsCertificateOf, StaysInBudget, all_entries, coflow_at}
use Rattle.dual_cert.proofs.BudgetSteps.{rest_kept, stays_within}
use Rattle.dual_cert.proofs.FirstPlaces.{coflow_in, entries_whole}
use Rattle.dual_cert.proofs.ValueSteps.{div_ceil_is, unspent_fits_so_far, unspent_step}
use Rattle.dual_cert.proofs.value.slack.Goals as goal

pub bounds-weights-coflow : goal.bounds-weights-coflow
bounds-weights-coflow c =
    let t = c.args.loads.now in
    let charges = c.charges-charges.result.now in
    let same : all_entries charges ≡ reverse c.args.cert.now = ap reverse c.charges-charges.ensures in
    let certificate = subst (λ l. IsCertificateOf t l) (sym same) c.requires.certificate in
    omega (arith, coflow_in t charges c.loop-place.place certificate (omega arith), c.requires.weights_len)

pub bounds-paid-coflow : goal.bounds-paid-coflow
bounds-paid-coflow c =
    let t = c.args.loads.now in
    let charges = c.charges-charges.result.now in
    let same : all_entries charges ≡ reverse c.args.cert.now = ap reverse c.charges-charges.ensures in
    let certificate = subst (λ l. IsCertificateOf t l) (sym same) c.requires.certificate in
    omega (arith, coflow_in t charges c.loop-place.place certificate (omega arith), c.coflows.ensures.limit)

pub overflow_sub-rest : goal.overflow_sub-rest
overflow_sub-rest c =
    let t = c.args.loads.now in
    let charges = c.charges-charges.result.now in
    let same : all_entries charges ≡ reverse c.args.cert.now = ap reverse c.charges-charges.ensures in
    let stays = subst (λ l. StaysInBudget t c.args.weights.now l) (sym same) c.requires.feasible in
    let certificate = subst (λ l. IsCertificateOf t l) (sym same) c.requires.certificate in
    omega (
      arith,
      stays_within t c.args.weights.now charges c.payments-paid.result c.loop-place.place (slice_index c.args.weights.now (coflow_at charges c.loop-place.place)) certificate
          c.payments-paid.ensures (omega arith) refl
          stays.flows stays.weight stays.has_loads stays.has_weights stays.feasible,
    )

pub loop-place-preserved : goal.loop-place-preserved
loop-place-preserved c =
    let t = c.args.loads.now in
    let weights = c.args.weights.now in
    let charges = c.charges-charges.result.now in
    let paid = c.payments-paid.result in
    let k = c.loop-place.place in
    let same : all_entries charges ≡ reverse c.args.cert.now = ap reverse c.charges-charges.ensures in
    let stays = subst (λ l. StaysInBudget t weights l) (sym same) c.requires.feasible in
    let certificate = subst (λ l. IsCertificateOf t l) (sym same) c.requires.certificate in
    let lt : k < length charges = omega arith in
    let w = slice_index weights (coflow_at charges k) in
    let p = slice_index paid (coflow_at charges k) in
    let small : w < 2 ^ 64 = omega (arith, c.requires.weights_fit (coflow_at charges k) 0 (omega (arith, coflow_in t charges k certificate lt, c.requires.weights_len))) in
    let le = stays_within t weights charges paid k w certificate c.payments-paid.ensures lt refl stays.flows stays.weight stays.has_loads stays.has_weights stays.feasible in
    unspent_step t weights charges c.loop-place.unspent k (w * 2 ^ 40 - p) c.total.result c.loop-place.invariant
    (rest_kept t weights charges paid k w p certificate c.payments-paid.ensures lt refl refl small le) c.total.ensures.load lt

pub overflow_add-unspent : goal.overflow_add-unspent
overflow_add-unspent c =
    let t = c.args.loads.now in
    let charges = c.charges-charges.result.now in
    let same : all_entries charges ≡ reverse c.args.cert.now = ap reverse c.charges-charges.ensures in
    omega (
      arith,
      unspent_fits_so_far t c.args.weights.now charges _ (c.loop-place.place + 1) (subst (λ l. IsCertificateOf t l) (sym same) c.requires.certificate)
          c.coflows.ensures.limit c.requires.totals_fit c.requires.weights_fit (subst (λ l. StaysInBudget t c.args.weights.now l) (sym same) c.requires.feasible)
          (loop-place-preserved c),
    )

pub overflow_mul-unspent : goal.overflow_mul-unspent
overflow_mul-unspent c = omega (arith, overflow_add-unspent c)

pub overflow_mul-unspent-2 : goal.overflow_mul-unspent-2
overflow_mul-unspent-2 c =
    let t = c.args.loads.now in
    let charges = c.charges-charges.result.now in
    let same : all_entries charges ≡ reverse c.args.cert.now = ap reverse c.charges-charges.ensures in
    omega (
      arith,
      unspent_fits_so_far t c.args.weights.now charges c.loop-place.unspent c.loop-place.place (subst (λ l. IsCertificateOf t l) (sym same) c.requires.certificate)
          c.coflows.ensures.limit c.requires.totals_fit c.requires.weights_fit (subst (λ l. StaysInBudget t c.args.weights.now l) (sym same) c.requires.feasible)
          c.loop-place.invariant,
    )

pub returns : goal.returns
returns c = λ flows weight has hasw.
    let t = c.args.loads.now in
    let charges = c.charges-charges.result.now in
    let same : all_entries charges ≡ reverse c.args.cert.now = ap reverse c.charges-charges.ensures in
    let told = c.loop-place.invariant.is flows weight (subst (λ l. HasLoadsOf flows t l) (sym same) has) (subst (λ l. HasWeightsOf weight c.args.weights.now l) (sym same) hasw) in
    let whole : c.loop-place.unspent ≡ unspent flows weight (all_entries charges) =
    told ∙ ap (over_places flows (rest flows weight (all_entries charges))) (entries_whole c.loop-place.place charges (omega arith)) in
    let is : c.loop-place.unspent ≡ unspent flows weight (reverse c.args.cert.now) = whole ∙ ap (unspent flows weight) same in
    c.div_ceil.ensures ∙ div_ceil_is (2 * c.loop-place.unspent) scale (omega arith) ∙ ap (λ n. div_up (2 * n) scale) is
