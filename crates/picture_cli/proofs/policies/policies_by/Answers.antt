use Rattle.std.proofs.Common.{List, [], ◌∷◌, ◌++◌, ◌∙◌, ap, append_assoc, subst, sym}
use Rattle.std.specs.Vec.Iter.{into_iter_items}
use Rattle.picture.specs.declared.policies_value.Policy.{Policy}
use Rattle.picture_cli.specs.Policies.{AreShown}
use Rattle.picture_cli.proofs.PolicyFacts.{shown_more}
use Rattle.picture_cli.proofs.policies.policies_by.Goals as goal

pub loop-row-preserved : goal.loop-row-preserved
loop-row-preserved c = record {
  items = c.loop-row.invariant.items ∙ ap (λ xs. c.loop-row.yielded ++ xs) c.in-Some.ensures.steps.0 ∙
      sym (append_assoc c.loop-row.yielded (c.in-Some.row ∷ []) (into_iter_items c.next.new.self));
  shown = subst (λ (xs : List Policy). AreShown c.args.weights.now (c.loop-row.yielded ++ c.in-Some.row ∷ []) xs) (sym c.in_ok-push.ensures.items)
      (shown_more c.args.weights.now c.loop-row.yielded c.loop-row.policies.items c.in-Some.row c.in_ok-policy_by.field-0 c.loop-row.invariant.shown c.in_ok-policy_by.ensures);
}
