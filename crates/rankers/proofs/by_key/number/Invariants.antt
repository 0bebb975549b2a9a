-- the places so far are numbered
use Rattle.std.proofs.Common.{◌≡◌, ℕ, ◌<◌, get_or, length}
use Rattle.rankers.proofs.by_key.number.Given as goal

abbrev pub invariant-loop-place : goal.invariant-loop-place
invariant-loop-place l = record {
  count : length l.out ≡ length l.fn.out;
  numbered : (k : ℕ) → k < l.place → get_or l.out k 0 ≡ k;
}
