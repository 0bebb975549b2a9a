-- what was made of the rows so far
use Rattle.std.proofs.Common.{◌≡◌, ◌++◌}
use Rattle.std.specs.Vec.Iter.{into_iter_items}
use Rattle.picture_cli.specs.Policies.{AreShown}
use Rattle.picture_cli.proofs.policies.policies_by.Given as goal

pub record Made (l : goal.Live-loop-row) : Type 0 where
  pub items : l.fn.rows.items ≡ l.yielded ++ into_iter_items l.row-iterator
  pub shown : AreShown l.weights l.yielded l.policies.items

abbrev pub invariant-loop-row : goal.invariant-loop-row
invariant-loop-row l = Made l
