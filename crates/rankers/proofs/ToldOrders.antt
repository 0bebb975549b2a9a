-- A ranker is told what came of its order, and is asked again.
use Rattle.std.proofs.Common.{◌≡◌, ℕ, inl, inr, List, length, refl, sym, subst, ap, ◌∙◌}
use Rattle.std.specs.Prelude.{map}
use Rattle.std.specs.List.{range_with_len}
use Rattle.std.proofs.lemmas.List.FromFn.{length-range_with_len}
use Rattle.coflow_units.specs.declared.fabric.Flow.{Flow}
use Rattle.coflow_units.specs.Completion.{completion}
use Rattle.coflow_units.specs.Flows.{Instance}
use Rattle.flow_table.specs.Table.{TableFacts, instance_of}
use Rattle.rankers.specs.declared.scoring.Came.{Came}
use Rattle.rankers.specs.declared.scoring.Came.TheVariants as came
use Rattle.rankers.specs.Ends.{IsSecondEnds}
use Rattle.rankers.specs.FactsTold.{FactsTold}
use Rattle.rankers.specs.Meaning.{Meaning, after_question, answer_of}
use Rattle.rankers.specs.Rounds.{IsToldOf, after_completions}
use Rattle.rankers.specs.Scores.{IsCame}
use Rattle.rankers.proofs.TableEnds.{ends_told}

pub came_told : (t : TableFacts) (weights order ends : List ℕ) (m later : Meaning) → IsCame (instance_of t weights) order (came.Ends ends) →
    ((flows : List Flow) (ss : List (List ℕ)) → ends ≡ map (λ c. completion flows ss c) (range_with_len 0 (length ends)) → later ≡ after_completions flows (length ends) m ss) →
    IsToldOf (instance_of t weights) order m later
came_told t weights order ends m later (slots, served, are) told =
    inl (slots, served, ends_told t slots ends m later are told ∙ ap (λ n. after_completions t.flows n m slots) (sym (length-range_with_len 0 (length t.ids))))

pub unfit_told : (i : Instance) (order : List ℕ) (place : ℕ) (m : Meaning) → IsCame i order (came.Unfit place) → IsToldOf i order m m
unfit_told i order place m unfit = inr (place, unfit, refl)

-- what came of the second answer, by the steps that lead to it
pub second_ends_are : (i : Instance) (facts : FactsTold) (m asked later : Meaning) (first second : List ℕ) (came : Came) → first ≡ answer_of m facts →
    asked ≡ after_question m facts → IsToldOf i first asked later → second ≡ answer_of later facts → IsCame i second came → IsSecondEnds i facts m came
second_ends_are i facts m asked later first second came answer question told again is = record {
  later = later;
  told = subst (λ o. IsToldOf i o (after_question m facts) later) answer (subst (λ a. IsToldOf i first a later) question told);
  came_is = subst (λ o. IsCame i o came) again is;
}
