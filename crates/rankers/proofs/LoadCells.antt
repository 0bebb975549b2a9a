-- A table of loads keeps its loads in its cells.
use Rattle.std.proofs.Common.{◌≡◌, ℕ, ◌+◌, ◌*◌, ◌<◌, List, length, refl, sym, ap, ◌∙◌, arith}
use Rattle.std.specs.Prelude.{slice_index}
use Rattle.std.specs.List.{range_with_len}
use Rattle.std.proofs.lemmas.List.FromFn.{get_or-map-range_with_len, length-map-range_with_len}
use Rattle.coflow_units.specs.declared.fabric.Flow.{Flow}
use Rattle.coflow_units.specs.declared.fabric.Port.{Port}
use Rattle.coflow_units.specs.declared.fabric.Side.{Side}
use Rattle.coflow_units.specs.declared.fabric.Side.TheVariants.{Egress, Ingress}
use Rattle.coflow_units.specs.Ordering.{port_place, port_place_on}
use Rattle.port_load.specs.Bottleneck.{IsBottleneck}
use Rattle.port_load.specs.LoadTable.{HasLoads, LoadTable, load_at}
use Rattle.port_load.proofs.Grid.{in_table}
use Rattle.rankers.specs.FactsTold.{cells_of}

place_below : (side : Side) (ports number : ℕ) → number < ports → port_place_on side ports number < ports + ports
place_below Ingress ports number lt = omega (arith, lt)
place_below Egress ports number lt = omega (arith, lt)

-- the number of the cell of a coflow on a port
pub cell_below : (ports coflows c : ℕ) (port : Port) → c < coflows → port.number < ports → port_place ports port * coflows + c < (ports + ports) * coflows
cell_below ports coflows c port lt low = in_table coflows (port_place ports port) c (ports + ports) (place_below port.side ports port.number low) lt

pub cells_count : (t : LoadTable) → length (cells_of t).cells ≡ (t.ports + t.ports) * t.coflows
cells_count t = length-map-range_with_len (slice_index t.cells) 0 ((t.ports + t.ports) * t.coflows)

pub same_load : (t : LoadTable) (c : ℕ) (port : Port) → c < t.coflows → port.number < t.ports → load_at (cells_of t) c port ≡ load_at t c port
same_load t c port lt low =
    let k = port_place t.ports port * t.coflows + c in
    get_or-map-range_with_len (slice_index t.cells) 0 ((t.ports + t.ports) * t.coflows) k k 0 (cell_below t.ports t.coflows c port lt low) (omega arith)

pub same_bottleneck : (t : LoadTable) (c number : ℕ) → c < t.coflows → IsBottleneck t c number → IsBottleneck (cells_of t) c number
same_bottleneck t c number lt is =
    let (port, low, at) = is.some in
    record { most = λ p inside. omega (arith, same_load t c p lt inside, is.most p inside); some = (port, low, same_load t c port lt low ∙ at) }

pub same_has_loads : (flows : List Flow) (t : LoadTable) → HasLoads flows t → HasLoads flows (cells_of t)
same_has_loads flows t has c port lt low = same_load t c port lt low ∙ has c port lt low
