-- the targets so far, up to a location
use Rattle.std.proofs.Common.{ℕ, ◌-◌, length}
use Rattle.flow_table.specs.Targets.{whole_to}
use Rattle.flow_table.proofs.TargetSteps.{TargetsSoFar}
use Rattle.flow_table.proofs.targets.targets_of.Given as goal

abbrev pub invariant-targets : goal.invariant-targets
invariant-targets l = (egress : ℕ) × TargetsSoFar l.rests (whole_to l.fn.unit.megabytes l.line) egress l.first l.targets.items

abbrev pub decreases-targets : goal.decreases-targets
decreases-targets l = length l.rests - l.first
