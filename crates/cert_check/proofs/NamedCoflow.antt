-- The coflow that a reason names is one of the table's.
use Rattle.std.proofs.Common.{ℕ, ◌<◌, inl, inr, List, length, subst, arith, Contains}
use Rattle.std.specs.Prelude.{All, None, Option, Some}
use Rattle.std.proofs.lemmas.Bool.{cases_lt}
use Rattle.std.proofs.lemmas.List.Elements.{All-contains}
use Rattle.coflow_units.specs.declared.fabric.Flow.{Flow}
use Rattle.coflow_units.specs.Flows.{Instance}
use Rattle.coflow_units.proofs.CertificateSteps.{used_outside}
use Rattle.coflow_units.proofs.Lists.{in_reverse}
use Rattle.dual_cert.specs.TableCertificate.{IsLeastInfeasible}
use Rattle.report_text.specs.declared.value.PlaceLine.{PlaceLine}
use Rattle.report_text.specs.declared.value.Report.{Report}
use Rattle.cert_check.specs.declared.verdict.Reason.{Reason}
use Rattle.cert_check.specs.declared.verdict.Reason.TheVariants.{BoundTooHigh, ClashIn, CostWrong, DoneWrong, Infeasible, NoFlow, NotPermutation, PortRange, RatioBroken}
use Rattle.cert_check.specs.declared.verdict.Reason.TheVariants.{SlackWrong, UnitsOf, WeightWrong}
use Rattle.cert_check.specs.Places.{NamesEach, certificate_in, coflows_in}
use Rattle.cert_check.specs.Reasons.{HasReason, NamesCoflow}
use Rattle.cert_check.specs.Stated.{IsLeastWrong, IsLeastWrongOfAny}
use Rattle.cert_check.proofs.InstanceFacts.{front_is}

wrong_within : (coflows stated : List ℕ) (real : ℕ → ℕ) (count coflow said is : ℕ) → All (λ c. c < count) coflows → IsLeastWrong coflows stated real coflow said is → coflow < count
wrong_within coflows stated real count coflow said is within wrong = omega (arith, wrong.of_coflow, within wrong.place 0 wrong.inside)

wrong_weight_within : (coflows : List ℕ) (stated : Option (List ℕ)) (real : ℕ → ℕ) (count coflow said is : ℕ) → All (λ c. c < count) coflows →
    IsLeastWrongOfAny coflows stated real coflow said is → coflow < count
wrong_weight_within coflows None real count coflow said is within wrong = absurd wrong
wrong_weight_within coflows (Some stated) real count coflow said is within wrong = wrong_within coflows stated real count coflow said is within wrong

infeasible_within : (flows : List Flow) (weight : ℕ → ℕ) (ids : List ℕ) (places : List PlaceLine) (coflow : ℕ) → All (λ c. c < length ids) (coflows_in ids places) →
    IsLeastInfeasible flows weight (certificate_in ids places) coflow → coflow < length ids
infeasible_within flows weight ids places coflow within least = elim (cases_lt coflow (length ids)) [
  | inl lt ↦ lt
  | inr le ↦
      let outside = used_outside flows (certificate_in ids places) coflow
      (λ has. let in_places = All-contains (λ c. c < length ids) (coflows_in ids places) coflow within
      (in_reverse (coflows_in ids places) coflow (subst (λ l. Contains l coflow) (front_is ids places) has)) in omega arith) in
      omega (arith, least.above, outside)
]

pub names_coflow : (i : Instance) (ids : List ℕ) (r : Report) (reason : Reason) → NamesEach (length ids) (coflows_in ids r.places) → HasReason i ids r reason →
    NamesCoflow (length ids) reason
names_coflow i ids r (WeightWrong coflow stated real) names has = wrong_weight_within (coflows_in ids r.places) r.weights i.weight (length ids) coflow stated real names.coflow has
names_coflow i ids r (Infeasible coflow) names has = infeasible_within i.flows i.weight ids r.places coflow names.coflow has
names_coflow i ids r (DoneWrong coflow stated real) names has = wrong_within (coflows_in ids r.places) _ _ (length ids) coflow stated real names.coflow has
names_coflow i ids r (NotPermutation place) names has = tt
names_coflow i ids r (PortRange place number) names has = tt
names_coflow i ids r (BoundTooHigh stated real) names has = tt
names_coflow i ids r (SlackWrong stated real) names has = tt
names_coflow i ids r (NoFlow slot flow) names has = tt
names_coflow i ids r (ClashIn slot port) names has = tt
names_coflow i ids r (UnitsOf flow have want) names has = tt
names_coflow i ids r (CostWrong stated real) names has = tt
names_coflow i ids r (RatioBroken cost most) names has = tt
