-- the coflows of the places so far are written
use Rattle.std.proofs.Common.{◌≡◌, ℕ, ◌<◌, get_or, length}
use Rattle.std.specs.Prelude.{map}
use Rattle.coflow_units.specs.declared.plan.Place.{Place}
use Rattle.rankers.proofs.facts.copy_coflows.Given as goal

abbrev pub invariant-loop-place : goal.invariant-loop-place
invariant-loop-place l = record {
  count : length l.order ≡ length l.fn.order;
  copied : (k : ℕ) → k < l.place → get_or l.order k 0 ≡ get_or (map (λ (x : Place). x.coflow) l.places) k 0;
}
