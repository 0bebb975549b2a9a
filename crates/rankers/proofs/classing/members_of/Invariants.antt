-- the members so far
use Rattle.std.proofs.Common.{◌≡◌, take}
use Rattle.std.specs.Prelude.{map}
use Rattle.class_rates.specs.Classes.{class_of}
use Rattle.rankers.specs.ClassList.{member_of}
use Rattle.rankers.proofs.classing.members_of.Given as goal

abbrev pub invariant-loop-coflow : goal.invariant-loop-coflow
invariant-loop-coflow l = l.members.items ≡ map (member_of (class_of l.classes) l.table.ids) (take l.coflow-index l.coflow-items)
