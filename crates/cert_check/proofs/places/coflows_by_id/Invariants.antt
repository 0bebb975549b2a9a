-- the first of the coflows so far with each id
use Rattle.std.proofs.Common.{◌≡◌, ◌==◌, ℕ, nat_eq, position, take}
use Rattle.indexmap.specs.IndexMap.{get}
use Rattle.cert_check.proofs.places.coflows_by_id.Given as goal

abbrev pub invariant-loop-coflow : goal.invariant-loop-coflow
invariant-loop-coflow l = (id : ℕ) → get nat_eq l.coflows id ≡ position (λ x. x == id) (take l.coflow l.table.ids)
