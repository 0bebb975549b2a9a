-- The second round of a ranker.
use Rattle.std.proofs.Common.{◌≡◌, ℕ, ◌++◌, List, [], ◌∷◌, append_assoc, append-nil, map, refl, sym, ap, subst, ◌∙◌}
use Rattle.coflow_units.specs.Completion.{cost}
use Rattle.coflow_units.specs.Flows.{Instance}
use Rattle.coflow_units.specs.Schedule.{IsValid}
use Rattle.coflow_units.proofs.ServedLaws.{served_valid}
use Rattle.rankers.specs.declared.ending.Ended.{Ended}
use Rattle.rankers.specs.declared.row.Scored.{Scored}
use Rattle.rankers.specs.declared.row.Scored.TheVariants as scored
use Rattle.rankers.specs.declared.scoring.Came.{Came}
use Rattle.rankers.specs.Ends.{AreSecondEnds, IsSecondEnds, IsSecondRound}
use Rattle.rankers.specs.FactsTold.{FactsTold}
use Rattle.rankers.specs.Meaning.{Meaning, after_question, answer_of}
use Rattle.rankers.specs.Rounds.{IsRounds}
use Rattle.rankers.specs.Scores.{IsScore}
use Rattle.rankers.proofs.OneRow.{score_one, told_one}

-- ---- it is that of a comparison

pub round_valid : (i : Instance) (facts : FactsTold) (m : Meaning) (slots : List (List ℕ)) → IsSecondRound i facts m slots → IsValid i.flows slots
round_valid i facts m slots round = served_valid i.flows (answer_of round.later facts) slots round.served.served

pub round_cost : (i : Instance) (facts : FactsTold) (m : Meaning) (first second : Scored) (slots : List (List ℕ)) → IsRounds i facts m first second →
    IsSecondRound i facts m slots → second ≡ scored.Cost (cost i.flows i.weight i.coflows slots)
round_cost i facts m first second slots rounds round =
    let same : rounds.later ≡ round.later = told_one i (answer_of m facts) (after_question m facts) rounds.later round.later rounds.told round.told in
    score_one i (answer_of round.later facts) second (scored.Cost (cost i.flows i.weight i.coflows slots))
    (subst (λ l. IsScore i (answer_of l facts) second) same rounds.at_last) (slots, round.served, refl)

-- ---- the rows of a bench

pub ends_step : {X : Type 0} (meaning : X → Meaning) (i : Instance) (facts : FactsTold) (all now new : List X) (x : X) (rows more : List Ended) (name : List ℕ) (came : Came) →
    now ≡ x ∷ new → name ≡ (meaning x).name → IsSecondEnds i facts (meaning x) came →
    ((tail : List Ended) → AreSecondEnds i facts (map meaning now) tail → AreSecondEnds i facts (map meaning all) (rows ++ tail)) →
    more ≡ rows ++ record { name = name; came = came } ∷ [] →
    (tail : List Ended) → AreSecondEnds i facts (map meaning new) tail → AreSecondEnds i facts (map meaning all) (more ++ tail)
ends_step meaning i facts all now new x rows more name came taken named is goes_on e tail rest =
    let row : Ended = record { name = name; came = came } in
    let named_row : row ≡ record { name = (meaning x).name; came = came } = ap (λ n. record { name = n; came = came }) named in
    let first : AreSecondEnds i facts (map meaning (x ∷ new)) (row ∷ tail) = (came, tail, is, ap (λ r. r ∷ tail) named_row, rest) in
    subst (AreSecondEnds i facts (map meaning all)) (sym (append_assoc rows (row ∷ []) tail) ∙ ap (λ xs. xs ++ tail) (sym e))
    (goes_on (row ∷ tail) (subst (λ xs. AreSecondEnds i facts (map meaning xs) (row ∷ tail)) (sym taken) first))

pub ends_done : {X : Type 0} (meaning : X → Meaning) (i : Instance) (facts : FactsTold) (all now : List X) (rows : List Ended) → now ≡ [] →
    ((tail : List Ended) → AreSecondEnds i facts (map meaning now) tail → AreSecondEnds i facts (map meaning all) (rows ++ tail)) →
    AreSecondEnds i facts (map meaning all) rows
ends_done meaning i facts all now rows none goes_on =
    subst (AreSecondEnds i facts (map meaning all)) (append-nil rows) (goes_on [] (subst (λ xs. AreSecondEnds i facts (map meaning xs) []) (sym none) refl))
