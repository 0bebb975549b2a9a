-- A certificate of an instance beside a table that has the loads of the instance's flows.
use Rattle.std.proofs.Common.{◌≡◌, ℕ, ◌<◌, List, Contains, sym, subst}
use Rattle.std.specs.Prelude.{All, slice_index}
use Rattle.std.proofs.lemmas.List.Elements.{All-contains}
use Rattle.coflow_units.specs.declared.fabric.Flow.{Flow}
use Rattle.coflow_units.specs.declared.fabric.Port.{Port}
use Rattle.coflow_units.specs.Flows.{Instance}
use Rattle.coflow_units.specs.Load.{load}
use Rattle.coflow_units.specs.Certificate.{Entry, IsCertificate, IsFeasible, front}
use Rattle.port_load.specs.LoadTable.{HasLoads, LoadTable, load_at}
use Rattle.dual_cert.specs.TableCertificate.{HasLoadsOf, HasWeightsOf, IsCertificateOf, StaysInBudget}
use Rattle.dual_cert.proofs.FirstPlaces.{all_from_front, named_in}

pub certificate_of : (i : Instance) (t : LoadTable) (entries : List Entry) → IsCertificate i entries → i.ports ≡ t.ports → ((c : ℕ) → Contains i.coflows c → c < t.coflows) →
    IsCertificateOf t entries
certificate_of i t entries certificate ports below = record {
  once = certificate.once;
  coflow = all_from_front t.coflows entries (λ c has. below c (All-contains (Contains i.coflows) (front entries) c certificate.coflow has));
  port = subst (λ n. All (λ (e : Entry). e.port.number < n) entries) ports certificate.port;
}

pub loads_of : (flows : List Flow) (t : LoadTable) (entries : List Entry) → IsCertificateOf t entries → HasLoads flows t → HasLoadsOf flows t entries
loads_of flows t entries certificate has = λ c port in' lt. has c port (named_in t entries certificate c in') lt

pub loads_of_coflows : (i : Instance) (t : LoadTable) (entries : List Entry) → IsCertificate i entries → i.ports ≡ t.ports →
    ((c : ℕ) (port : Port) → Contains i.coflows c → port.number < i.ports → load_at t c port ≡ load i.flows c port) → HasLoadsOf i.flows t entries
loads_of_coflows i t entries certificate ports has =
    λ c port in' lt. has c port (All-contains (Contains i.coflows) (front entries) c certificate.coflow in') (subst (λ n. port.number < n) (sym ports) lt)

pub weights_of_coflows : (i : Instance) (weights : List ℕ) (entries : List Entry) → IsCertificate i entries →
    ((c : ℕ) → Contains i.coflows c → i.weight c ≡ slice_index weights c) → HasWeightsOf i.weight weights entries
weights_of_coflows i weights entries certificate has = λ c in'. has c (All-contains (Contains i.coflows) (front entries) c certificate.coflow in')

pub stays_of : (flows : List Flow) (weight : ℕ → ℕ) (t : LoadTable) (weights : List ℕ) (entries : List Entry) → HasLoadsOf flows t entries → HasWeightsOf weight weights entries →
    IsFeasible flows weight entries → StaysInBudget t weights entries
stays_of flows weight t weights entries has hasw feasible = record {
  flows = flows;
  weight = weight;
  has_loads = has;
  has_weights = hasw;
  feasible = feasible;
}
