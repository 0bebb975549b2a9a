-- The load of a port: the units that begin or end there.
use Rattle.std.specs.Prelude.{ℕ, ◌*◌, ◌==◌, ◌&&◌, Bool, if◌then◌else◌, List, sum_by}
use Rattle.coflow_units.specs.declared.fabric.Flow.{Flow}
use Rattle.coflow_units.specs.declared.fabric.Port.{Port}
use Rattle.coflow_units.specs.Flows.{uses}

-- the flow is of the coflow and uses the port
abbrev pub loads : ℕ → Port → Flow → Bool
loads coflow port x = (x.coflow == coflow) && uses port x

-- the units of the coflow's flows that use the port
abbrev pub load : List Flow → ℕ → Port → ℕ
load flows coflow port = sum_by (λ (x : Flow). if loads coflow port x then x.units else 0) flows

-- the units of all flows of these coflows that use the port
abbrev pub load_of_all : List Flow → List ℕ → Port → ℕ
load_of_all flows coflows port = sum_by (λ coflow. load flows coflow port) coflows

-- the sum of the squares of the coflows' loads on the port
abbrev pub squares_of_loads : List Flow → List ℕ → Port → ℕ
squares_of_loads flows coflows port = sum_by (λ coflow. load flows coflow port * load flows coflow port) coflows
