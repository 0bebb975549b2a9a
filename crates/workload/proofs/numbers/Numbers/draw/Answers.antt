use Rattle.std.proofs.Common.{◌*◌, ◌^◌, ap, ◌/◌, ◌%◌}
use Rattle.std.proofs.Math.Nat.{mod-add-mod}
use Rattle.workload.specs.Draws.{draw, next}
use Rattle.workload.proofs.numbers.Numbers.draw.Goals as goal

pub returns-clause-state : goal.returns-clause-state
unfolding next
returns-clause-state c = mod-add-mod (c.args.self.now.state * 6364136223846793005) (2 ^ 64) 1442695040888963407

pub returns-clause-drawn : goal.returns-clause-drawn
unfolding draw next
returns-clause-drawn c = ap (λ x. (x / 2 ^ 33) % c.args.below) (mod-add-mod (c.args.self.now.state * 6364136223846793005) (2 ^ 64) 1442695040888963407)
