use Rattle.std.proofs.Common.{ℕ, ◌≤◌, arith}
use Rattle.std.specs.Prelude.{All}
use Rattle.std.proofs.lemmas.List.Elements.{All-from_get_or}
use Rattle.std.proofs.lemmas.List.Sums.{sum_by-le, sum_by-take-le, sum_by_more_le}
use Rattle.coflow_stats.proofs.summary.total_of.Goals as goal

pub overflow_add-total : goal.overflow_add-total
overflow_add-total c =
    let xs = c.args.numbers.now in
    let short : All (λ (x : ℕ). x ≤ 18446744073709551615) xs = All-from_get_or (λ (x : ℕ). x ≤ 18446744073709551615) xs 0 (λ i lt. omega (arith, c.type_inv.numbers i)) in
    omega (
      arith,
      c.requires,
      c.loop-number.invariant,
      c.from-total.ensures,
      sum_by_more_le (λ (x : ℕ). x) xs c.loop-number.number-index 0 (omega arith),
      sum_by-le (λ (x : ℕ). x) 18446744073709551615 xs short,
    )

pub returns-clause-small : goal.returns-clause-small
returns-clause-small c =
    let xs = c.args.numbers.now in
    let short : All (λ (x : ℕ). x ≤ 18446744073709551616) xs = All-from_get_or (λ (x : ℕ). x ≤ 18446744073709551616) xs 0 (λ i lt. omega (arith, c.type_inv.numbers i)) in
    omega (arith, c.loop-number.invariant, sum_by-take-le (λ (x : ℕ). x) xs c.loop-number.number-index, sum_by-le (λ (x : ℕ). x) 18446744073709551616 xs short)
