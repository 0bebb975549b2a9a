-- Units of a coflow that are not in a table of loads yet.
use Rattle.std.specs.Prelude.{ℕ, ◌==◌, ◌&&◌, if◌then◌else◌}
use Rattle.coflow_units.specs.declared.fabric.Port.{Port}
use Rattle.coflow_units.specs.declared.fabric.Side.{Side}
use Rattle.coflow_units.specs.declared.fabric.Side.TheVariants.{Ingress, Egress}
use Rattle.port_load.specs.declared.filling.Pending.{Pending}

-- what is pending of one coflow, as a coflow has it at a port of a side: it is at its ingress port alone
abbrev pub pending_on : Side → ℕ → Pending → ℕ → ℕ → ℕ
pending_on Ingress of pending coflow number =
    if ((of == coflow) && (pending.ingress == number)) then pending.units else 0
pending_on Egress of pending coflow number = 0

-- the same at a port
abbrev pub pending_at : ℕ → Pending → ℕ → Port → ℕ
pending_at of pending coflow port = pending_on port.side of pending coflow port.number
