use Rattle.std.proofs.Common.{◌≡◌, ℕ, nat_eq, take}
use Rattle.text_fields.specs.Numbers.{AreIds}
use Rattle.workload.specs.Operands.{coflow_with}
use Rattle.indexmap.specs.IndexMap.{get}
use Rattle.workload.proofs.coflows.Coflows.of.Given as goal

-- The map tells the places of the ids up to here.
abbrev pub invariant-loop-coflow : goal.invariant-loop-coflow
invariant-loop-coflow l = ((id : ℕ) → get nat_eq l.numbers id ≡ coflow_with id (take l.coflow l.table.ids)) × AreIds (take l.coflow l.table.ids)
