use Rattle.std.proofs.Common.{ℕ, ◌≤◌, List, get_or, length, refl, subst, sym}
use Rattle.std.specs.Prelude.{All}
use Rattle.std.specs.List.{range_with_len}
use Rattle.class_rates.specs.Classes.{IsClassOrder, class_by, size_by}
use Rattle.class_rates.proofs.FoldSteps.{all_within, order_folded}
use Rattle.class_rates.proofs.folding.fold_order.Goals as goal

pub class_order_of-requires-clause-class : goal.class_order_of-requires-clause-class
class_order_of-requires-clause-class c =
    let size : ℕ → ℕ = size_by c.args.by (λ k. get_or c.args.loads.now k 0) in
    subst (All (λ (q : ℕ). (1 ≤ q) × (q ≤ c.args.classes))) (sym c.deref.ensures.value)
    (all_within size c.args.order.now c.in_ok-numbers.numbers.items c.args.classes c.requires.permutation c.requires.some c.in_ok-numbers.ensures.length
    c.in_ok-numbers.ensures.class)

pub invariant_of-result : goal.invariant_of-result
invariant_of-result c =
    let size : ℕ → ℕ = size_by c.args.by (λ k. get_or c.args.loads.now k 0) in
    record {
      some = c.requires.some;
      few = c.requires.few;
      class = all_within size c.args.order.now c.in_ok-numbers.numbers.items c.args.classes c.requires.permutation c.requires.some c.in_ok-numbers.ensures.length
          c.in_ok-numbers.ensures.class;
      order_is = subst (λ (xs : List ℕ). IsClassOrder (range_with_len 0 (length xs)) (λ k. get_or xs k 0) c.in_ok-by_class.by_class.items) c.deref.ensures.value
          c.in_ok-by_class.ensures;
    }

pub returns : goal.returns
returns c =
    let size : ℕ → ℕ = size_by c.args.by (λ k. get_or c.args.loads.now k 0) in
    record {
      count_is = refl;
      length_is = c.in_ok-numbers.ensures.length;
      class_is = c.in_ok-numbers.ensures.class;
      order_is = order_folded c.args.order.now c.in_ok-numbers.numbers.items c.in_ok-by_class.by_class.items (class_by size c.args.order.now c.args.classes) c.requires.permutation
          c.in_ok-numbers.ensures.length c.in_ok-numbers.ensures.class
          (subst (λ (xs : List ℕ). IsClassOrder (range_with_len 0 (length xs)) (λ k. get_or xs k 0) c.in_ok-by_class.by_class.items) c.deref.ensures.value
          c.in_ok-by_class.ensures);
    }
