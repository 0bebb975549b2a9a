use Rattle.std.proofs.Common.{◌≡◌, ℕ, List, ◌∙◌, ap, arith, length, subst, sym}
use Rattle.coflow_stats.specs.Summary.{IsSummary}
use Rattle.picture.specs.declared.policies_value.Policy.{Policy}
use Rattle.picture.specs.declared.value.Step.{Step}
use Rattle.picture.specs.Curve.{IsCurve}
use Rattle.picture.specs.Policies.{served_ends}
use Rattle.picture.proofs.PolicySteps.{few_served, is_ready}
use Rattle.picture.proofs.policies.policy_of.Goals as goal

pub summary_of-requires : goal.summary_of-requires
summary_of-requires c =
    let is : c.deref-2.result.now ≡ served_ends c.args.ends.now = c.deref-2.ensures.value ∙ c.in_ok-served.ensures in
    omega (arith, ap length is, few_served c.args.ends.now, c.requires.few)

pub returns-clause-ready : goal.returns-clause-ready
returns-clause-ready c =
    let ends = c.args.ends.now in
    let first : c.deref.result.now ≡ served_ends ends = c.deref.ensures.value ∙ c.in_ok-served.ensures in
    let second : c.deref-2.result.now ≡ served_ends ends = c.deref-2.ensures.value ∙ c.in_ok-served.ensures in
    let x : Policy = record { name = c.args.name; cost = c.args.cost; steps = c.from_vec.result; times = c.in_ok-times.times } in
    let drawn : IsCurve (served_ends ends) c.in_ok-steps.steps.items = subst (λ (l : List ℕ). IsCurve l c.in_ok-steps.steps.items) first c.in_ok-steps.ensures in
    let curve : IsCurve (served_ends ends) x.steps = subst (λ (l : List Step). IsCurve (served_ends ends) l) (sym c.from_vec.ensures) drawn in
    let times : IsSummary (served_ends ends) x.times = subst (λ (l : List ℕ). IsSummary l x.times) second c.in_ok-times.ensures.summary in
    is_ready ends x c.requires.short c.requires.some curve times c.in_ok-times.ensures.small
