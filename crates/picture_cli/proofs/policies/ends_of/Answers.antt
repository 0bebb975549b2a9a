use Rattle.std.proofs.Common.{◌≡◌, ◌∙◌, ◌++◌, ◌∷◌, [], IfOk, ap, map, refl, replicate, subst}
use Rattle.flow_table.specs.Table.{instance_of}
use Rattle.rankers.specs.declared.kinds.Attained.{Attained}
use Rattle.rankers.specs.Ends.{AreSecondEnds}
use Rattle.rankers.specs.Kinds.{attained}
use denote.Param.Object.{read_made}
use Rattle.picture_cli.proofs.PolicyFacts.{five_same, target}
use Rattle.picture_cli.proofs.policies.ends_of.OwnLists.{own-1}
use Rattle.picture_cli.proofs.policies.ends_of.Goals as goal

pub returns-clause-ends : goal.returns-clause-ends
returns-clause-ends c =
    let one = c.into_dyn_box.result in
    let two = c.into_dyn_box-in_ok-new-2.result in
    let three = c.into_dyn_box-in_ok-new-3.result in
    let four = c.into_dyn_box-in_ok-new-4.result in
    let five = c.into_dyn_box-in_ok-new-5.result in
    let seated : c.push-5.new.self.items ≡ one ∷ two ∷ three ∷ four ∷ five ∷ [] = c.in_ok-push-5.ensures.items ∙
    ap (λ bs. bs ++ five ∷ []) (c.in_ok-push-4.ensures.items ∙ ap (λ bs. bs ++ four ∷ []) (c.in_ok-push-3.ensures.items ∙
    ap (λ bs. bs ++ three ∷ []) (c.in_ok-push-2.ensures.items ∙
    ap (λ bs. bs ++ two ∷ []) (c.in_ok-push.ensures.items ∙ ap (λ bs. bs ++ one ∷ []) c.new-bench.ensures.items)))) in
    let room = c.in_ok-attained.ensures.slots ∙ ap (λ n. replicate n 0) (c.coflows.ensures.coflows ∙ c.requires) in
    subst (λ ms. IfOk c.second_ends.result (λ rows. AreSecondEnds (instance_of c.args.table.now c.args.facts.now.weights) c.args.facts.now ms rows.items))
    (ap (map _) seated ∙ five_same
    (read_made own-1 (own-1.entry (target c.into_dyn_box.ensures.0)) (target c.into_dyn_box.ensures.0) refl _ (λ e y. e.1.meaning y) one.vtable one.value
    c.in_ok-new.field-0.value c.into_dyn_box.ensures.1)
    (read_made own-1 (own-1.entry (target c.into_dyn_box-in_ok-new-2.ensures.0)) (target c.into_dyn_box-in_ok-new-2.ensures.0) refl _ (λ e y. e.1.meaning y) two.vtable two.value
    c.in_ok-new-2.field-0.value c.into_dyn_box-in_ok-new-2.ensures.1)
    (read_made own-1 (own-1.entry (target c.into_dyn_box-in_ok-new-3.ensures.0)) (target c.into_dyn_box-in_ok-new-3.ensures.0) refl _ (λ e y. e.1.meaning y)
    three.vtable three.value c.in_ok-new-3.field-0.value c.into_dyn_box-in_ok-new-3.ensures.1)
    (read_made own-1 (own-1.entry (target c.into_dyn_box-in_ok-new-4.ensures.0)) (target c.into_dyn_box-in_ok-new-4.ensures.0) refl _ (λ e y. e.1.meaning y) four.vtable four.value
    c.in_ok-new-4.field-0.value c.into_dyn_box-in_ok-new-4.ensures.1)
    (read_made own-1 (own-1.entry (target c.into_dyn_box-in_ok-new-5.ensures.0)) (target c.into_dyn_box-in_ok-new-5.ensures.0) refl _ (λ e y. e.1.meaning y) five.vtable five.value
    c.in_ok-new-5.field-0.value c.into_dyn_box-in_ok-new-5.ensures.1 ∙ ap (λ (a : Attained). attained a.slots.items) c.in_ok-new-5.ensures.ok ∙ ap attained room))
    c.second_ends.ensures
