-- The ends of a table's coflows, what they cost, and what a ranker is told of them.
use Rattle.std.proofs.Common.{◌≡◌, ℕ, List, length, sym, ap, ◌∙◌}
use Rattle.std.specs.Prelude.{map, slice_index}
use Rattle.std.specs.List.{range_with_len}
use Rattle.std.proofs.lemmas.List.{length-map}
use Rattle.std.proofs.lemmas.List.FromFn.{length-range_with_len}
use Rattle.coflow_units.specs.declared.fabric.Flow.{Flow}
use Rattle.coflow_units.specs.Completion.{completion, cost}
use Rattle.flow_table.specs.Table.{TableFacts}
use Rattle.schedule_model.specs.Weights.{weighted_cost}
use Rattle.rankers.specs.Meaning.{Meaning}
use Rattle.rankers.specs.Rounds.{after_completions}

-- each coflow has its completion
abbrev pub AreEnds : TableFacts → List (List ℕ) → List ℕ → Type 0
AreEnds t slots ends = ends ≡ map (λ c. completion t.flows slots c) (range_with_len 0 (length t.ids))

pub ends_are : (t : TableFacts) (flows : List Flow) (slots : List (List ℕ)) (n : ℕ) (filled ends : List ℕ) → flows ≡ t.flows → n ≡ length t.ids →
    filled ≡ map (λ c. completion flows slots c) (range_with_len 0 n) → ends ≡ filled → AreEnds t slots ends
ends_are t flows slots n filled ends same count are read =
    read ∙ are ∙ ap (λ (fs : List Flow). map (λ c. completion fs slots c) (range_with_len 0 n)) same ∙
    ap (λ k. map (λ c. completion t.flows slots c) (range_with_len 0 k)) count

pub ends_count : (t : TableFacts) (slots : List (List ℕ)) (ends : List ℕ) → AreEnds t slots ends → length ends ≡ length t.ids
ends_count t slots ends are =
    ap (λ (xs : List ℕ). length xs) are ∙ length-map (range_with_len 0 (length t.ids)) (λ c. completion t.flows slots c) ∙ length-range_with_len 0 (length t.ids)

pub ends_cost : (t : TableFacts) (weights : List ℕ) (slots : List (List ℕ)) (ends : List ℕ) (total : ℕ) → length weights ≡ length t.ids → AreEnds t slots ends →
    ((flows : List Flow) (ss : List (List ℕ)) → ends ≡ map (λ c. completion flows ss c) (range_with_len 0 (length weights)) → total ≡ weighted_cost flows weights ss) →
    total ≡ cost t.flows (λ c. slice_index weights c) (range_with_len 0 (length t.ids)) slots
ends_cost t weights slots ends total each are costs =
    costs t.flows slots (are ∙ ap (λ n. map (λ c. completion t.flows slots c) (range_with_len 0 n)) (sym each)) ∙
    ap (λ n. cost t.flows (λ c. slice_index weights c) (range_with_len 0 n) slots) each

pub ends_told : (t : TableFacts) (slots : List (List ℕ)) (ends : List ℕ) (m later : Meaning) → AreEnds t slots ends →
    ((flows : List Flow) (ss : List (List ℕ)) → ends ≡ map (λ c. completion flows ss c) (range_with_len 0 (length ends)) → later ≡ after_completions flows (length ends) m ss) →
    later ≡ after_completions t.flows (length t.ids) m slots
ends_told t slots ends m later are told =
    let count : length ends ≡ length t.ids = ends_count t slots ends are in
    told t.flows slots (are ∙ ap (λ n. map (λ c. completion t.flows slots c) (range_with_len 0 n)) (sym count)) ∙ ap (λ n. after_completions t.flows n m slots) count
