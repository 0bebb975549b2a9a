use Rattle.std.proofs.Common.{◌≡◌, ℕ, ◌<◌, ◌≤◌, List, ap, arith, get_or, length, refl, ◌∙◌}
use Rattle.std.specs.Prelude.{◌^◌, sum_by}
use Rattle.std.proofs.Math.ListN.{length-set}
use Rattle.std.proofs.lemmas.List.Sums.{sum_by_more, sum_by_more_le}
use Rattle.class_rates.specs.Classes.{class_behind, size_by}
use Rattle.class_rates.proofs.FoldSteps.{class_at_place, class_more, class_of_place, few_numbers}
use Rattle.class_rates.proofs.Parts.{sizes_fit}
use Rattle.class_rates.proofs.folding.numbers_of.Goals as goal

pub class_behind-requires-clause-small : goal.class_behind-requires-clause-small
class_behind-requires-clause-small c =
    let few : length c.args.order.now ≤ 2 ^ 32 = few_numbers c.args.order.now c.requires.permutation (λ k. omega (arith, c.type_inv.order k)) in
    omega (arith, c.size_of_all-all.ensures, sizes_fit c.args.by c.args.loads.now c.args.order.now (λ k. omega (arith, c.type_inv.loads k)) few)

pub overflow_add-before : goal.overflow_add-before
overflow_add-before c =
    let few : length c.args.order.now ≤ 2 ^ 32 = few_numbers c.args.order.now c.requires.permutation (λ k. omega (arith, c.type_inv.order k)) in
    omega (
      arith,
      c.loop-coflow.invariant.before_is,
      c.size_of-before.ensures,
      sum_by_more_le (size_by c.args.by (λ k. get_or c.args.loads.now k 0)) c.args.order.now c.loop-coflow.coflow-index 0 c.loop-coflow-test.true,
      sizes_fit c.args.by c.args.loads.now c.args.order.now (λ k. omega (arith, c.type_inv.loads k)) few,
    )

pub loop-coflow-preserved : goal.loop-coflow-preserved
loop-coflow-preserved c =
    let size : ℕ → ℕ = size_by c.args.by (λ k. get_or c.args.loads.now k 0) in
    let order : List ℕ = c.args.order.now in
    let place : ℕ = c.loop-coflow.coflow-index in
    let before = c.loop-coflow.invariant.before_is in
    let is : c.class_behind.result ≡ class_of_place size order c.args.classes place = c.class_behind.ensures ∙
    ap (λ n. class_behind n c.args.classes c.loop-coflow.before) c.size_of_all-all.ensures ∙ ap (class_behind (sum_by size order) c.args.classes) before in
    record {
      length_is = omega (arith, length-set {A = ℕ}, c.loop-coflow.invariant.length_is);
      before_is = omega (arith, before, c.size_of-before.ensures, sum_by_more size order place 0 c.loop-coflow-test.true);
      written = class_more size order c.loop-coflow.numbers.items c.args.classes place (get_or order place 0) c.class_behind.result c.requires.permutation
          c.loop-coflow.invariant.length_is c.loop-coflow-test.true refl is c.loop-coflow.invariant.written;
    }

pub returns-clause-class : goal.returns-clause-class
returns-clause-class c = λ k has. class_at_place (size_by c.args.by (λ k. get_or c.args.loads.now k 0)) c.args.order.now c.loop-coflow.numbers.items c.args.classes k
    (λ j lt. c.loop-coflow.invariant.written j (omega (arith, lt, c.loop-coflow-test.false))) has
