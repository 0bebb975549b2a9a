use Rattle.std.proofs.Common.{◌≡◌, ◌+◌, ◌*◌, reverse, sym, ap, subst, ◌∙◌, arith}
use Rattle.coflow_units.specs.Certificate.{div_up, dual_value, scale}
use Rattle.dual_cert.specs.TableCertificate.{HasLoadsOf, IsCertificateOf, all_entries}
use Rattle.dual_cert.proofs.FirstPlaces.{entries_whole}
use Rattle.dual_cert.proofs.ValueSteps.{IsPaidFor, div_ceil_is, value_fits_so_far, value_step}
use Rattle.dual_cert.proofs.value.bound.Goals as goal

pub loop-place-preserved : goal.loop-place-preserved
loop-place-preserved c = value_step c.args.loads.now c.charges-charges.result.now c.loop-place.value c.loop-place.place c.squares.result c.loop-place.invariant
    c.squares.ensures.value
    (omega arith)

pub overflow_add-value : goal.overflow_add-value
overflow_add-value c =
    let t = c.args.loads.now in
    let charges = c.charges-charges.result.now in
    let same : all_entries charges ≡ reverse c.args.cert.now = ap reverse c.charges-charges.ensures in
    omega (
      arith,
      value_fits_so_far t charges _ (c.loop-place.place + 1) (subst (λ l. IsCertificateOf t l) (sym same) c.requires.certificate) c.coflows.ensures.limit
          c.requires.totals_fit (subst (λ l. IsPaidFor t l) (sym same) c.requires.feasible) (loop-place-preserved c),
    )

pub overflow_mul-value : goal.overflow_mul-value
overflow_mul-value c = omega (arith, overflow_add-value c)

pub returns : goal.returns
returns c = λ flows has.
    let t = c.args.loads.now in
    let charges = c.charges-charges.result.now in
    let same : all_entries charges ≡ reverse c.args.cert.now = ap reverse c.charges-charges.ensures in
    let is : c.loop-place.value ≡ dual_value flows (reverse c.args.cert.now) =
    c.loop-place.invariant.is flows (subst (λ l. HasLoadsOf flows t l) (sym same) has) ∙ ap (dual_value flows) (entries_whole c.loop-place.place charges (omega arith) ∙ same) in
    c.div_ceil.ensures ∙ div_ceil_is c.loop-place.value (2 * scale) (omega arith) ∙ ap (λ n. div_up n (2 * scale)) is
