-- What callers need of the coflows of a schedule.
use Rattle.std.proofs.Common.{◌≡◌, ℕ, ◌≤◌, ◌<◌, ◌∙◌, List, length, get_or, subst, sym, arith}
use Rattle.std.specs.Prelude.{All}
use Rattle.flow_table.specs.Table.{TableFacts}
use Rattle.coflow_stats.specs.declared.value.Finished.{Finished}
use Rattle.coflow_stats.specs.Finished.{AreFinished, IsFinished}

-- their weights are those of the list
pub weights_are_small : (t : TableFacts) (weights : List ℕ) (arrival : ℕ → ℕ) (slots : List (List ℕ)) (xs : List Finished) (most : ℕ) → AreFinished t weights arrival slots xs →
    length weights ≡ length t.ids → All (λ w. w ≤ most) weights → All (λ (x : Finished). x.weight ≤ most) xs
weights_are_small t weights arrival slots xs most are each small k d lt =
    let known : k < length t.ids = omega (arith, lt, are.count) in
    subst (λ n. n ≤ most) (sym (are.each_is k d known).weight_is) (small k 0 (omega (arith, known, each)))

same_arrival : (t : TableFacts) (weights : List ℕ) (f g : ℕ → ℕ) (slots : List (List ℕ)) (c : ℕ) (x : Finished) → f c ≡ g c →
    IsFinished t weights f slots c x → IsFinished t weights g slots c x
same_arrival t weights f g slots c x e is = record {
  id_is = is.id_is;
  arrival_is = is.arrival_is ∙ e;
  flows_is = is.flows_is;
  units_is = is.units_is;
  longest_is = is.longest_is;
  bottleneck_is = is.bottleneck_is;
  weight_is = is.weight_is;
  completion_is = is.completion_is;
}

-- arrivals that are the same for each coflow
pub same_arrivals : (t : TableFacts) (weights : List ℕ) (f g : ℕ → ℕ) (slots : List (List ℕ)) (xs : List Finished) → ((c : ℕ) → c < length t.ids → f c ≡ g c) →
    AreFinished t weights f slots xs → AreFinished t weights g slots xs
same_arrivals t weights f g slots xs same are = record {
  count = are.count;
  each_is = λ c d lt. same_arrival t weights f g slots c (get_or xs c d) (same c lt) (are.each_is c d lt);
}
