-- The numbers of the coflows of a table differ.
use Rattle.std.proofs.Common.{ℕ, arith}
use Rattle.std.specs.List.{range_with_len}
use Rattle.std.proofs.lemmas.List.FromFn.{get_or-range_with_len, length-range_with_len}
use Rattle.coflow_units.specs.Flows.{IsDistinct}

pub numbers_differ : (n : ℕ) → IsDistinct (range_with_len 0 n)
numbers_differ n i j d lt in' =
    λ e. omega (
      arith,
      e,
      get_or-range_with_len 0 n i d (omega (arith, lt, in', length-range_with_len 0 n)),
      get_or-range_with_len 0 n j d (omega (arith, in', length-range_with_len 0 n)),
    )
