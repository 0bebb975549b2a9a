-- the least so far is reached
use Rattle.std.proofs.Common.{◌≡◌, ℕ, ◌≤◌, get_or, take}
use Rattle.std.specs.Prelude.{All, Any}
use Rattle.greedy_rates.proofs.pass.least_left.Given as goal

abbrev pub invariant-loop-flow : goal.invariant-loop-flow
invariant-loop-flow l = record {
  below : All (λ (f : ℕ). l.least ≤ get_or l.left f 0) (take l.flow-index l.granted);
  reached : Any (λ (f : ℕ). get_or l.left f 0 ≡ l.least) l.granted;
}
