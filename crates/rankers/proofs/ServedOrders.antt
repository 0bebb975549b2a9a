-- What comes of an answer, and what it is worth.
use Rattle.std.proofs.Common.{◌≡◌, ℕ, List, length, sym, subst, ◌∙◌}
use Rattle.std.specs.Prelude.{map}
use Rattle.std.specs.List.{range_with_len}
use Rattle.std.proofs.lemmas.List.FromFn.{length-range_with_len}
use Rattle.coflow_units.specs.declared.fabric.Flow.{Flow}
use Rattle.coflow_units.specs.Completion.{completion}
use Rattle.coflow_units.specs.Served.{IsServed}
use Rattle.coflow_units.proofs.ServedLaws.{served_valid}
use Rattle.class_rates.specs.Classes.{IsPermutation}
use Rattle.flow_table.specs.Table.{TableFacts, instance_of}
use Rattle.schedule_model.specs.RunList.{NamesFlows}
use Rattle.schedule_model.proofs.ValidSteps.{valid_names}
use Rattle.schedule_model.specs.Weights.{weighted_cost}
use Rattle.rankers.specs.declared.row.Scored.TheVariants as scored
use Rattle.rankers.specs.declared.scoring.Came.TheVariants as came
use Rattle.rankers.specs.Scores.{IsCame, IsFirstUnfit, IsScore, IsServedOrder}
use Rattle.rankers.proofs.TableEnds.{ends_cost}

pub served_names : (t : TableFacts) (order : List ℕ) (slots : List (List ℕ)) (flows : List Flow) → flows ≡ t.flows → IsServed t.flows order slots →
    NamesFlows (length flows) slots
served_names t order slots flows same served = subst (λ fs. NamesFlows (length fs) slots) (sym same) (valid_names t.flows slots (served_valid t.flows order slots served))

pub served_order : (t : TableFacts) (weights order : List ℕ) (slots : List (List ℕ)) → length order ≡ length t.ids → IsPermutation order → IsServed t.flows order slots →
    IsServedOrder (instance_of t weights) order slots
served_order t weights order slots count permutation served = record {
  count = count ∙ sym (length-range_with_len 0 (length t.ids));
  permutation = permutation;
  served = served;
}

pub unfit_of_table : (t : TableFacts) (n : ℕ) (order : List ℕ) (place : ℕ) → n ≡ length t.ids → IsFirstUnfit n order place →
    IsFirstUnfit (length (range_with_len 0 (length t.ids))) order place
unfit_of_table t n order place count unfit = subst (λ k. IsFirstUnfit k order place) (count ∙ sym (length-range_with_len 0 (length t.ids))) unfit

pub came_score : (t : TableFacts) (weights order ends : List ℕ) (total : ℕ) → length weights ≡ length t.ids → IsCame (instance_of t weights) order (came.Ends ends) →
    ((flows : List Flow) (ss : List (List ℕ)) → ends ≡ map (λ c. completion flows ss c) (range_with_len 0 (length weights)) → total ≡ weighted_cost flows weights ss) →
    IsScore (instance_of t weights) order (scored.Cost total)
came_score t weights order ends total each (slots, served, are) costs = (slots, served, ends_cost t weights slots ends total each are costs)
