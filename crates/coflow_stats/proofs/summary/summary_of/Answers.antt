use Rattle.std.proofs.Common.{ℕ, subst, sym, rules}
use Rattle.std.specs.Prelude.{IsPermutation}
use Rattle.std.specs.List.Sorted.{IsNonDecreasingBy}
use Rattle.std.proofs.lemmas.List.Sorted.{IsNonDecreasingBy-from_sort}
use Rattle.coflow_stats.specs.Summary.{AreRanks}
use Rattle.coflow_stats.proofs.SummarySteps.{other_ranks}
use Rattle.coflow_stats.proofs.summary.summary_of.Goals as goal

pub ranks_of-requires-clause-sorted : goal.ranks_of-requires-clause-sorted
ranks_of-requires-clause-sorted c =
    subst (IsNonDecreasingBy (λ (number : ℕ). number)) (sym c.deref.ensures.value)
    (IsNonDecreasingBy-from_sort (λ number. number) c.sort_unstable.new.self.items c.sort_unstable.ensures.sorted)

pub returns-clause-summary : goal.returns-clause-summary
returns-clause-summary c =
    let xs = c.args.numbers.now in
    let sorted = c.sort_unstable.new.self.items in
    let moved : IsPermutation xs sorted = subst (λ l. IsPermutation l sorted) c.in_ok-sorted.ensures.items c.sort_unstable.ensures.permutation in
    record {
      count_is = search rules;
      total_is = c.total_of.ensures.sum;
      ranks_are = other_ranks xs sorted c.ranks_of.result moved (subst (λ l. AreRanks l c.ranks_of.result) c.deref.ensures.value c.ranks_of.ensures);
    }
