use Rattle.std.proofs.Common.{◌≡◌, ℕ, ◌+◌, length, take}
use Rattle.std.specs.Prelude.{slice_index}
use Rattle.master_core.specs.OpenRun.{credit_of}
use Rattle.master_core.proofs.runs.credit_all.Given as goal

abbrev pub invariant-loop-flow : goal.invariant-loop-flow
invariant-loop-flow l = record {
  units : l.ledger.units ≡ l.fn.ledger.units;
  owed_len : length l.ledger.owed ≡ length l.fn.ledger.owed;
  so_far : (f : ℕ) → slice_index l.ledger.owed f + credit_of l.flows (take l.flow-index l.granted) l.noted l.slots f ≡ slice_index l.fn.ledger.owed f;
}
