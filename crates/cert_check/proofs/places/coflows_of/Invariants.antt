-- the coflows of the places so far, and the ids that are left
use Rattle.std.proofs.Common.{ℕ, nat_eq}
use Rattle.indexmap.specs.IndexMap.{get}
use Rattle.cert_check.specs.Places.{ids_in}
use Rattle.cert_check.proofs.NameSteps.{NamedSoFar}
use Rattle.cert_check.proofs.places.coflows_of.Given as goal

abbrev pub invariant-loop-place : goal.invariant-loop-place
invariant-loop-place l = NamedSoFar l.table.ids (ids_in l.places) l.place-index (λ (id : ℕ). get nat_eq l.unplaced id) l.coflows.items
