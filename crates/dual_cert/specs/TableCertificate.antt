-- Certificates beside a table of loads and a list of weights. As in all definitions on certificates, entries stand from
-- the last place to the first.
use Rattle.std.specs.Prelude.{◌≡◌, ℕ, ◌<◌, ◌≤◌, List, All, Contains, map, reverse, slice_index, take}
use Rattle.std.specs.List.{slice_index_or}
use Rattle.coflow_units.specs.declared.fabric.Flow.{Flow}
use Rattle.coflow_units.specs.declared.fabric.Side.TheVariants.{Ingress}
use Rattle.coflow_units.specs.declared.fabric.Port.{Port}
use Rattle.coflow_units.specs.Flows.{IsDistinct}
use Rattle.coflow_units.specs.Load.{load}
use Rattle.coflow_units.specs.Certificate.{Entry, IsFeasible, budget, front, used}
use Rattle.port_load.specs.LoadTable.{LoadTable, load_at}
use Rattle.dual_cert.specs.declared.cert.Charge.{Charge}

-- the entries name coflows of the table, none twice, and their ports are in range
pub record IsCertificateOf (t : LoadTable) (entries : List Entry) : Type 0 where
  pub once : IsDistinct (front entries)
  pub coflow : All (λ (e : Entry). e.coflow < t.coflows) entries
  pub port : All (λ (e : Entry). e.port.number < t.ports) entries

-- the flows have the loads of the table, for each coflow of the entries and each port
abbrev pub HasLoadsOf : List Flow → LoadTable → List Entry → Type 0
HasLoadsOf flows t entries = (coflow : ℕ) (port : Port) → Contains (front entries) coflow → port.number < t.ports →
    load_at t coflow port ≡ load flows coflow port

-- the weights are those of the list, for each coflow of the entries
abbrev pub HasWeightsOf : (ℕ → ℕ) → List ℕ → List Entry → Type 0
HasWeightsOf weight weights entries = (coflow : ℕ) → Contains (front entries) coflow →
    weight coflow ≡ slice_index weights coflow

-- the entries are feasible for some flows with the loads of the table and the weights of the list
pub record StaysInBudget (t : LoadTable) (weights : List ℕ) (entries : List Entry) : Type 0 where
  pub flows : List Flow
  pub weight : ℕ → ℕ
  pub has_loads : HasLoadsOf flows t entries
  pub has_weights : HasWeightsOf weight weights entries
  pub feasible : IsFeasible flows weight entries

-- the coflow uses more than its budget, and each smaller one does not
pub record IsLeastInfeasible (flows : List Flow) (weight : ℕ → ℕ) (entries : List Entry) (coflow : ℕ) : Type 0 where
  pub above : budget weight coflow < used flows entries coflow
  pub least : (other : ℕ) → other < coflow → used flows entries other ≤ budget weight other

-- the charge of a place, counted from 0; a number past the end has zeros, and is read only where it is known to be a
-- place's
abbrev pub charge_at : List Charge → ℕ → Charge
charge_at charges place = slice_index_or charges place record {
  coflow = 0;
  port = record { side = Ingress; number = 0 };
  y = 0;
}

abbrev pub coflow_at : List Charge → ℕ → ℕ
coflow_at charges place = (charge_at charges place).coflow

abbrev pub port_at : List Charge → ℕ → Port
port_at charges place = (charge_at charges place).port

-- the entry that a charge tells
abbrev pub entry_at : Charge → Entry
entry_at x = record { coflow = x.coflow; port = x.port; y = x.y }

-- the entries of the first places, from the last of them to the first
abbrev pub entries_to : ℕ → List Charge → List Entry
entries_to places charges = reverse (map entry_at (take places charges))

-- the entries of all places
abbrev pub all_entries : List Charge → List Entry
all_entries charges = reverse (map entry_at charges)
