use Rattle.std.proofs.Common.{◌≡◌, ℕ, ◌+◌, length, take}
use Rattle.std.specs.Prelude.{if◌then◌else◌, slice_index}
use Rattle.journal.specs.State.{has}
use Rattle.master_core.proofs.runs.credit_equally.Given as goal

abbrev pub invariant-loop-flow : goal.invariant-loop-flow
invariant-loop-flow l = record {
  units : l.ledger.units ≡ l.fn.ledger.units;
  owed_len : length l.ledger.owed ≡ length l.fn.ledger.owed;
  so_far : (f : ℕ) → slice_index l.ledger.owed f + (if has (take l.flow-index l.granted) f then l.slots else 0) ≡ slice_index l.fn.ledger.owed f;
}
