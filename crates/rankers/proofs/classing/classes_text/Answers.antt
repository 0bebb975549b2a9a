use Rattle.std.proofs.Common.{◌≡◌, List, ℕ, length, sym, ap, subst, ◌∙◌}
use Rattle.class_rates.specs.Classes.{IsPermutation}
use Rattle.report_text.specs.declared.classed.ClassText.{ClassText}
use Rattle.rankers.proofs.ClassFacts.{as_many, folded_facts, listed}
use Rattle.rankers.proofs.classing.classes_text.Goals as goal

pub fold_order-requires-clause-permutation : goal.fold_order-requires-clause-permutation
fold_order-requires-clause-permutation c = subst IsPermutation (sym c.order.ensures.order) c.order.ensures.facts.order_is

pub fold_order-requires-clause-loads : goal.fold_order-requires-clause-loads
fold_order-requires-clause-loads c = ap (λ (xs : List ℕ). length xs) c.bottlenecks.ensures ∙ c.order.ensures.facts.bottlenecks_len ∙ sym c.order.ensures.facts.order_len ∙
    ap (λ (xs : List ℕ). length xs) (sym c.order.ensures.order)

pub class_list-requires-clause-classes : goal.class_list-requires-clause-classes
class_list-requires-clause-classes c = c.in_ok-folded.ensures.length_is ∙ ap (λ (xs : List ℕ). length xs) c.order.ensures.order ∙
    as_many c.args.table.now c.args.weights.now c.in_ok-facts.facts c.requires.count c.order.ensures.facts c.in_ok-facts.ensures

pub returns : goal.returns
returns c =
    let list : ClassText = c.in_ok-list.list in
    let fold = folded_facts c.args.table.now c.args.weights.now c.args.by c.args.classes c.in_ok-facts.facts c.in_ok-folded.folded list
    c.order.result.now c.bottlenecks.result.now c.order.ensures.order c.bottlenecks.ensures c.in_ok-folded.ensures in (
      list,
      listed c.args.table.now c.args.weights.now c.args.by c.args.classes c.in_ok-facts.facts c.in_ok-folded.folded list
          c.in_ok-list.ensures.table c.requires.count c.requires.least c.order.ensures.facts c.in_ok-facts.ensures fold c.in_ok-list.ensures.list,
      c.in_ok-text.ensures.text,
    )
