use Rattle.std.proofs.Common.{◌≡◌, ◌++◌, drop, take}
use Rattle.std.specs.Prelude.{vec_capacity}
use Rattle.client_session.proofs.granted.write_over.Given as goal

abbrev pub invariant-loop-element : goal.invariant-loop-element
invariant-loop-element g l = (l.to.items ≡ take l.over l.from ++ take l.element-index (drop l.over l.from)) × (vec_capacity l.to ≡ vec_capacity l.fn.to)
