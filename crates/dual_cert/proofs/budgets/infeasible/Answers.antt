use Rattle.std.proofs.Common.{◌≡◌, reverse, refl, sym, ap, subst, arith}
use Rattle.std.specs.Prelude.{slice_index}
use Rattle.coflow_units.specs.Certificate.{IsFeasible}
use Rattle.dual_cert.specs.TableCertificate.{HasLoadsOf, HasWeightsOf, IsCertificateOf, IsLeastInfeasible, all_entries}
use Rattle.dual_cert.proofs.BudgetSteps.{least_infeasible, none_infeasible}
use Rattle.dual_cert.proofs.budgets.infeasible.Goals as goal

pub returns-then-paid-coflow-clause-least : goal.returns-then-paid-coflow-clause-least
returns-then-paid-coflow-clause-least c = λ flows weight has hasw.
    let t = c.args.loads.now in
    let weights = c.args.weights.now in
    let charges = c.charges-charges.result.now in
    let paid = c.payments-paid.result in
    let k = c.loop-coflow.coflow in
    let same : all_entries charges ≡ reverse c.args.cert.now = ap reverse c.charges-charges.ensures in
    let certificate = subst (λ l. IsCertificateOf t l) (sym same) c.requires.certificate in
    subst (λ l. IsLeastInfeasible flows weight l k) same
    (least_infeasible t weights charges paid k (slice_index paid k) (slice_index weights k) certificate c.payments-paid.ensures c.loop-coflow.invariant
    (omega (arith, c.coflows-coflow-end.ensures.coflows_are)) refl refl
    (omega (arith, c.if-paid-coflow.true)) flows weight (subst (λ l. HasLoadsOf flows t l) (sym same) has) (subst (λ l. HasWeightsOf weight weights l) (sym same) hasw))

pub returns-clause-none : goal.returns-clause-none
returns-clause-none c = λ flows weight has hasw none.
    let t = c.args.loads.now in
    let weights = c.args.weights.now in
    let charges = c.charges-charges.result.now in
    let same : all_entries charges ≡ reverse c.args.cert.now = ap reverse c.charges-charges.ensures in
    let certificate = subst (λ l. IsCertificateOf t l) (sym same) c.requires.certificate in
    subst (λ l. IsFeasible flows weight l) same
    (none_infeasible t weights charges c.payments-paid.result c.loop-coflow.coflow certificate c.payments-paid.ensures c.loop-coflow.invariant
    (omega (arith, c.coflows-coflow-end.ensures.coflows_are)) flows weight
    (subst (λ l. HasLoadsOf flows t l) (sym same) has) (subst (λ l. HasWeightsOf weight weights l) (sym same) hasw))
