-- The greatest load of a coflow.
use Rattle.std.specs.Prelude.{◌≡◌, ℕ, ◌<◌, ◌≤◌}
use Rattle.coflow_units.specs.declared.fabric.Port.{Port}
use Rattle.coflow_units.specs.declared.fabric.Side.{Side}
use Rattle.port_load.specs.LoadTable.{LoadTable, load_at}

-- the number is the greatest of the coflow's loads
pub record IsBottleneck (t : LoadTable) (coflow number : ℕ) : Type 0 where
  pub most : (port : Port) → port.number < t.ports → load_at t coflow port ≤ number
  pub some : (port : Port) × (port.number < t.ports) × (load_at t coflow port ≡ number)

-- the number is the greatest of the coflow's loads on the first ports of the side
pub record IsGreatestOn (t : LoadTable) (coflow : ℕ) (side : Side) (ports number : ℕ) : Type 0 where
  pub most : (p : ℕ) → p < ports → load_at t coflow (record { side = side; number = p }) ≤ number
  pub some : (p : ℕ) × (p < ports) × (load_at t coflow (record { side = side; number = p }) ≡ number)
