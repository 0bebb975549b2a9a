use Rattle.std.proofs.Common.{◌≡◌, ℕ, nat_eq, take}
use Rattle.indexmap.specs.IndexMap.{get}
use Rattle.text_fields.specs.Numbers.{AreIds}
use Rattle.orders.proofs.Places.{number_in}
use Rattle.orders.proofs.coflows.Coflows.of.Given as goal

-- The map tells the numbers of the ids up to here.
abbrev pub invariant-loop-coflow : goal.invariant-loop-coflow
invariant-loop-coflow l = ((id : ℕ) → get nat_eq l.numbers id ≡ number_in (take l.coflow l.table.ids) id) × AreIds (take l.coflow l.table.ids)
