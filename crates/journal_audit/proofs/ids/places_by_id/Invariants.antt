-- the first place so far of each id
use Rattle.std.proofs.Common.{◌≡◌, ◌==◌, ℕ, nat_eq, position, take}
use Rattle.indexmap.specs.IndexMap.{get}
use Rattle.journal_audit.proofs.ids.places_by_id.Given as goal

abbrev pub invariant-loop-place : goal.invariant-loop-place
invariant-loop-place l = (id : ℕ) → get nat_eq l.places id ≡ position (λ x. x == id) (take l.place l.ids)
