use Rattle.std.proofs.Common.{List, subst, sym}
use Rattle.picture.specs.declared.policies_value.PoliciesPicture.{PoliciesPicture}
use Rattle.picture.specs.declared.policies_value.Policy.{Policy}
use Rattle.picture.specs.Policies.{IsGreatestOf, IsPoliciesDrawable, costs_of, step_slots}
use Rattle.picture.proofs.PolicySteps.{drawable}
use Rattle.picture.proofs.policies.policies_picture_of.Goals as goal

pub returns-clause-drawable : goal.returns-clause-drawable
returns-clause-drawable c =
    let most = subst (λ (l : List Policy). IsGreatestOf (costs_of l) c.most_of-most.result) c.deref.ensures.value c.most_of-most.ensures in
    let last = subst (λ (l : List Policy). IsGreatestOf (step_slots l) c.last_of-last.result) c.deref-2.ensures.value c.last_of-last.ensures in
    let p : List Policy → PoliciesPicture =
    λ ps. record { coflows = c.args.coflows; bound = c.args.bound; most = c.most_of-most.result; last = c.last_of-last.result; policies = ps } in
    subst (λ (ps : List Policy). IsPoliciesDrawable (p ps)) (sym c.from_vec.ensures)
    (drawable (p c.args.policies.items)
    c.requires.some c.requires.few c.requires.coflows c.requires.few_coflows c.requires.ready c.requires.above c.requires.small most last)
