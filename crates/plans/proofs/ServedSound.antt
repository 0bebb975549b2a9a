-- The report of a line that is served is right, as a checker of reports defines it, but for the ratio of the cost to the bound.
use Rattle.std.proofs.Common.{◌≡◌, ℕ, ◌+◌, ◌*◌, ◌<◌, ◌⊎◌, inl, inr, List, sym, ap, subst, ◌∙◌, arith}
use Rattle.std.specs.Prelude.{Option, map}
use Rattle.std.proofs.lemmas.Bool.{cases_lt}
use Rattle.coflow_units.specs.declared.plan.Place.{Place}
use Rattle.coflow_units.specs.Certificate.{IsCertificate, IsFeasible, bound, slack}
use Rattle.coflow_units.specs.Completion.{completion, cost}
use Rattle.coflow_units.specs.Flows.{Instance, IsDistinct}
use Rattle.coflow_units.specs.Schedule.{IsValid}
use Rattle.coflow_units.proofs.OrderingLaws.{ordering_feasible}
use Rattle.coflow_units.proofs.ServedLaws.{served_valid}
use Rattle.bssi_order.specs.Order.{entries_of}
use Rattle.flow_table.specs.Table.{TableFacts, instance_of}
use Rattle.report_text.specs.declared.value.Report.{Report}
use Rattle.schedule_model.specs.RunList.{slots_in}
use Rattle.cert_check.specs.declared.verdict.Reason.TheVariants.{RatioBroken}
use Rattle.cert_check.specs.declared.verdict.Verdict.{Verdict}
use Rattle.cert_check.specs.declared.verdict.Verdict.TheVariants.{No, Yes}
use Rattle.cert_check.specs.Parts.{HasSoundCertificate}
use Rattle.cert_check.specs.Places.{certificate_in, coflows_in, ends_in}
use Rattle.cert_check.specs.Reasons.{IsVerdict}
use Rattle.cert_check.specs.Sound.{IsSound}
use Rattle.cert_check.specs.Stated.{AreReal, AreRealIfAny}
use Rattle.cert_check.proofs.Firsts.{first_broken_ratio, first_of_schedule}
use Rattle.cert_check.proofs.InstanceFacts.{values_fit}
use Rattle.cert_check.proofs.OneVerdict.{one_verdict}
use Rattle.cert_check.proofs.Verdicts.{names_each, ports_in_range, yes_where_sound}
use Rattle.plans.specs.PlanReport.{coflows_of}
use Rattle.plans.specs.ServedReport.{IsServedReport}
use Rattle.plans.specs.Totals.{IsWithinFour}
use Rattle.plans.specs.Weighed.{IsWeighed}
use Rattle.plans.proofs.CertificateFacts.{each_place_within}
use Rattle.plans.proofs.PlannedPlaces.{certificate_again, coflows_again, ends_again, real_along}

module _ (t : TableFacts) (weights line : List ℕ) (r : Report) (once : IsDistinct t.ids) (s : IsServedReport (instance_of t weights) t.ids line r) where
  abbrev i : Instance
  i = instance_of t weights

  -- ---- the places, as a checker reads them

  certificate_is : certificate_in t.ids r.places ≡ entries_of s.order
  certificate_is = ap (certificate_in t.ids) s.places ∙ certificate_again t.ids t.flows s.slots once s.order (each_place_within t weights s.order s.ordering)

  coflows_are : coflows_in t.ids r.places ≡ coflows_of s.order
  coflows_are = ap (coflows_in t.ids) s.places ∙ coflows_again t.ids t.flows s.slots once s.order (each_place_within t weights s.order s.ordering)

  ends_are : ends_in r.places ≡ map (λ (x : Place). completion t.flows s.slots x.coflow) s.order
  ends_are = ap ends_in s.places ∙ ends_again t.ids t.flows s.slots s.order

  slots_are : slots_in r.runs ≡ s.slots
  slots_are = s.runs.same

  -- ---- the parts of a right report

  certificate : IsCertificate i (certificate_in t.ids r.places)
  certificate = subst (IsCertificate i) (sym certificate_is) s.ordering.ordering.certificate

  weights_real : AreRealIfAny (coflows_in t.ids r.places) r.weights i.weight
  weights_real =
      subst (λ (l : List ℕ). AreRealIfAny l r.weights i.weight) (sym coflows_are)
      (subst (λ (o : Option (List ℕ)). AreRealIfAny (coflows_of s.order) o i.weight) (sym s.weights) (real_along i.weight s.order))

  feasible : IsFeasible t.flows i.weight (certificate_in t.ids r.places)
  feasible = subst (IsFeasible t.flows i.weight) (sym certificate_is) (ordering_feasible i (entries_of s.order) s.ordering.ordering)

  bound_real : r.bound ≡ bound t.flows (certificate_in t.ids r.places)
  bound_real = s.bound_is ∙ sym (ap (bound t.flows) certificate_is)

  slack_real : r.slack ≡ slack t.flows i.weight (certificate_in t.ids r.places)
  slack_real = s.slack_is ∙ sym (ap (slack t.flows i.weight) certificate_is)

  valid : IsValid t.flows (slots_in r.runs)
  valid = subst (IsValid t.flows) (sym slots_are) (served_valid t.flows line s.slots s.served)

  ends_real : AreReal (coflows_in t.ids r.places) (ends_in r.places) (completion t.flows (slots_in r.runs))
  ends_real =
      let of_slots : AreReal (coflows_in t.ids r.places) (ends_in r.places) (completion t.flows s.slots) =
      subst (λ (l : List ℕ). AreReal l (ends_in r.places) (completion t.flows s.slots)) (sym coflows_are)
      (subst (λ (l : List ℕ). AreReal (coflows_of s.order) l (completion t.flows s.slots)) (sym ends_are) (real_along (completion t.flows s.slots) s.order)) in
      subst (λ (l : List (List ℕ)). AreReal (coflows_in t.ids r.places) (ends_in r.places) (completion t.flows l)) (sym slots_are) of_slots

  cost_real : r.cost ≡ cost t.flows i.weight i.coflows (slots_in r.runs)
  cost_real = s.cost_is ∙ sym (ap (cost t.flows i.weight i.coflows) slots_are)

  -- ---- the verdict

  -- a report within the ratio is right
  pub served_is_sound : IsWithinFour r → IsSound i t.ids r
  served_is_sound within = record {
    certificate = certificate;
    weights = weights_real;
    feasible = feasible;
    bound_is_low = omega (arith, bound_real);
    slack_is = slack_real;
    valid = valid;
    ends = ends_real;
    cost_is = cost_real;
    within_four = within;
  }

  pub served_has_yes : (verdict : Verdict) → IsWithinFour r → IsVerdict i t.ids r verdict → verdict ≡ Yes
  served_has_yes verdict within is = (yes_where_sound t weights r verdict is).1 (served_is_sound within)

  certificate_is_sound : IsWeighed t weights → HasSoundCertificate i t.ids r
  certificate_is_sound is = record {
    port = ports_in_range t weights r.places certificate;
    weights = weights_real;
    feasible = feasible;
    bound_is_low = omega (arith, bound_real);
    slack_is = slack_real;
    fits = values_fit t weights (certificate_in t.ids r.places) r.bound r.slack is.table certificate is.most feasible (omega (arith, bound_real)) slack_real;
  }

  -- where the cost is above the ratio, that is the first reason, and a report has one verdict
  ratio_is_broken : (verdict : Verdict) → IsWeighed t weights → 4 * r.bound + r.slack < r.cost → IsVerdict i t.ids r verdict →
      verdict ≡ No (RatioBroken r.cost (4 * r.bound + r.slack))
  ratio_is_broken verdict is above stated =
      let reason = RatioBroken r.cost (4 * r.bound + r.slack) in
      let first = first_of_schedule i t.ids r reason (names_each t weights r.places certificate) (certificate_is_sound is)
      (first_broken_ratio i t.ids r valid ends_real cost_real above) in
      one_verdict t weights r verdict (No reason) stated first

  pub right_but_for_ratio : (verdict : Verdict) → IsWeighed t weights → IsVerdict i t.ids r verdict →
      (verdict ≡ Yes) ⊎ (verdict ≡ No (RatioBroken r.cost (4 * r.bound + r.slack)))
  right_but_for_ratio verdict is stated = elim (cases_lt (4 * r.bound + r.slack) r.cost) [
    | inl above ↦ inr (ratio_is_broken verdict is above stated)
    | inr within ↦ inl (served_has_yes verdict within stated)
  ]
