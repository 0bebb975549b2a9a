-- the flows from the first number on have their groups
use Rattle.std.proofs.Common.{◌≤◌, length}
use Rattle.greedy_rates.proofs.Groups.{IsGroupsFrom}
use Rattle.greedy_rates.proofs.owing.groups_of.Given as goal

abbrev pub invariant-loop-first : goal.invariant-loop-first
invariant-loop-first l = (l.first ≤ length l.flows) × IsGroupsFrom l.flows l.behind.items l.first

abbrev pub decreases-loop-first : goal.decreases-loop-first
decreases-loop-first l = l.first
