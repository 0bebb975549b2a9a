-- The bench has these three rankers, and each weight is 1.
use Rattle.std.proofs.Common.{◌≡◌, ◌∙◌, ◌++◌, ◌∷◌, [], ap, refl, subst, sym}
use Rattle.std.specs.Prelude.{map, replicate}
use Rattle.std.proofs.lemmas.Result.{IfOk-weaker}
use Rattle.flow_table.specs.Table.{instance_of}
use Rattle.plans.specs.Totals.{IsPlanBound}
use Rattle.rankers.specs.Kinds.{bssi, fifo}
use Rattle.ranker_example.specs.Lifo.{IsTextOf, lifo}
use Rattle.ranker_example.proofs.Texts.{by_vtable, text_of_three, three_same}
use Rattle.ranker_example.proofs.compared.OwnLists.{own-1}
use Rattle.ranker_example.proofs.compared.Goals as goal

pub returns : goal.returns
returns c =
    let one = c.into_dyn_box.result in
    let two = c.into_dyn_box-in_ok-new-2.result in
    let three = c.into_dyn_box-in_ok-new-3.result in
    let seated : c.push-3.new.self.items ≡ one ∷ two ∷ three ∷ [] = c.in_ok-push-3.ensures.items ∙
    ap (λ bs. bs ++ three ∷ []) (c.in_ok-push-2.ensures.items ∙
    ap (λ bs. bs ++ two ∷ []) (c.in_ok-push.ensures.items ∙ ap (λ bs. bs ++ one ∷ []) c.new-bench.ensures.items)) in
    record {
      text = IfOk-weaker c.comparison_text.result _ (λ text. IsTextOf c.args.table.now text.items) (λ text is. text_of_three c.args.table.now c.deref-2.result.now _ _ text.items
          (c.deref-2.ensures.value ∙ (c.in_ok-weights.ensures.items_if_clones_equal (λ y same. same) ∙ ap (λ n. replicate n 1) c.coflows.ensures.coflows)) (ap (map _) seated ∙ three_same
          (by_vtable (λ v x. (own-1.entry v).1.meaning x) bssi _ one.vtable one.value c.into_dyn_box.ensures.0 (λ _. refl)) (by_vtable (λ v x. (own-1.entry v).1.meaning x) fifo _ two.vtable two.value c.into_dyn_box-in_ok-new-2.ensures.0 (λ _. refl))
          (by_vtable (λ v x. (own-1.entry v).1.meaning x) lifo _ three.vtable three.value c.into_dyn_box-in_ok-new-3.ensures.0 (λ _. refl)))
          (subst (λ ws. IsPlanBound (instance_of c.args.table.now ws) c.in_ok-bound.bound) (c.deref.ensures.value ∙ sym c.deref-2.ensures.value) c.in_ok-bound.ensures) is)
          c.comparison_text.ensures.text;
    }
