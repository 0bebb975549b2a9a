-- A wire of a job.
use Rattle.std.specs.Prelude.{◌≡◌, []}
use Rattle.outside.specs.declared.mem_wire.MemWire.{MemWire}

-- it has accepted no run, has refused none, and has room for eight
pub record IsFresh (wire : MemWire) : Type 0 where
  pub runs : wire.runs.items ≡ []
  pub faults : wire.faults ≡ 0
  pub room : wire.room ≡ 8
