use Rattle.std.proofs.Common.{◌≡◌, ℕ, ◌*◌, ◌^◌, ◌<◌, slice_index}
use Rattle.bssi_order.proofs.bssi.give_budgets.Given as goal

abbrev pub invariant-loop-coflow : goal.invariant-loop-coflow
invariant-loop-coflow l = (k : ℕ) → k < l.coflow → slice_index l.residuals k ≡ slice_index l.weights k * 2 ^ 40
