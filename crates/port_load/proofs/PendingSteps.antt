-- Units are pending at an ingress port.
use Rattle.std.proofs.Common.{◌≡◌, ℕ, ◌<◌, ap, ◌∙◌, arith}
use Rattle.std.specs.Prelude.{sum_by}
use Rattle.std.specs.List.{range_with_len}
use Rattle.coflow_units.specs.declared.fabric.Side.TheVariants.{Ingress, Egress}
use Rattle.coflow_units.proofs.Ranges.{in_range}
use Rattle.coflow_units.proofs.Sums.{sum_same}
use Rattle.port_load.specs.LoadTable.{LoadTable, load_at, total_at}
use Rattle.port_load.proofs.FlowSteps.{AddsAt, port_of}

-- the total of an ingress port is as it was where units were added at an egress port
pub ingress_total : (old new : LoadTable) (of number units n : ℕ) → AddsAt old new of (port_of Egress number) units → n < old.ports →
    total_at new (port_of Ingress n) ≡ total_at old (port_of Ingress n)
ingress_total old new of number units n adds lp =
    ap (λ k. sum_by (λ c. load_at new c (port_of Ingress n)) (range_with_len 0 k)) adds.size.coflows
    ∙ sum_same (λ c. load_at new c (port_of Ingress n)) (λ c. load_at old c (port_of Ingress n)) (range_with_len 0 old.coflows)
    (λ c has. adds.elsewhere c (port_of Ingress n) (in_range old.coflows c has) lp (λ e. omega (arith, e, lp)))
