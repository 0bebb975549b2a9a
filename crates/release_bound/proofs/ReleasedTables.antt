-- The released certificate of a table by a threshold, over a table of loads that has its loads.
use Rattle.std.proofs.Common.{◌≡◌, ℕ, ◌<◌, List, get_or, length, reverse, refl, sym, ap, subst, arith}
use Rattle.std.specs.Prelude.{All, Contains, slice_index}
use Rattle.std.specs.List.{range_with_len}
use Rattle.std.proofs.lemmas.List.{get_or-map, length-map}
use Rattle.std.proofs.lemmas.List.Elements.{All-contains, Contains-get_or}
use Rattle.coflow_units.specs.Certificate.{Entry, front}
use Rattle.coflow_units.proofs.Lists.{number_below}
use Rattle.flow_table.specs.Table.{instance_of, TableFacts}
use Rattle.port_load.specs.LoadTable.{HasLoads, LoadTable}
use Rattle.dual_cert.specs.TableCertificate.{HasLoadsOf, IsCertificateOf}
use Rattle.release_bound.specs.declared.place.ReleasePlace.{ReleasePlace}
use Rattle.release_bound.specs.declared.threshold.Threshold.{Threshold}
use Rattle.release_bound.specs.Release.{entries_of, IsReleasedFeasible}
use Rattle.release_bound.specs.ReleaseOrder.{IsReleasedBy}
use Rattle.release_bound.specs.ReleaseTable.{HasArrivalsOf, IsOfTable, StaysInReleasedBudget}

module _ (t : TableFacts) (weights arrivals : List ℕ) (loads : LoadTable) (coflows : loads.coflows ≡ length t.ids) (ports : loads.ports ≡ t.ports)
    (has : HasLoads t.flows loads) where
  pub of_table : IsOfTable (instance_of t weights) (slice_index arrivals) loads weights arrivals
  of_table = record {
    coflows = ap (range_with_len 0) (sym coflows);
    ports = sym ports;
    weight = λ c lt. refl;
    arrives = λ c lt. refl;
    load = λ c port lt lt'. has c port lt lt';
  }

  module _ (by : Threshold) (places : List ReleasePlace) (order : IsReleasedBy by (instance_of t weights) (slice_index arrivals) (reverse places)) where
    named : (c : ℕ) → Contains (front (entries_of (reverse places))) c → c < loads.coflows
    named c in' =
        omega (
          arith,
          coflows,
          number_below 0 (length t.ids) c
              (All-contains (Contains (range_with_len 0 (length t.ids))) (front (entries_of (reverse places))) c order.certificate.coflow in'),
        )

    each_named : All (λ (e : Entry). e.coflow < loads.coflows) (entries_of (reverse places))
    each_named k d lt =
        let f = λ (e : Entry). e.coflow in
        let all = front (entries_of (reverse places)) in
        let inside : k < length all = omega (arith, lt, length-map (entries_of (reverse places)) f) in
        subst (λ c. c < loads.coflows) (get_or-map f (entries_of (reverse places)) k d (f d) lt) (named (get_or all k (f d)) (Contains-get_or all k (f d) inside))

    pub certificate_of : IsCertificateOf loads (entries_of (reverse places))
    certificate_of = record {
      once = order.certificate.once;
      coflow = each_named;
      port = λ k d lt. omega (arith, ports, order.certificate.port k d lt);
    }

    pub has_loads : HasLoadsOf t.flows loads (entries_of (reverse places))
    has_loads c port in' lt = has c port (named c in') lt

    pub has_arrivals : HasArrivalsOf (slice_index arrivals) arrivals (entries_of (reverse places))
    has_arrivals c in' = refl

    pub budget_of : IsReleasedFeasible t.flows (slice_index weights) (reverse places) → StaysInReleasedBudget loads weights (reverse places)
    budget_of feasible = record {
      flows = t.flows;
      weight = slice_index weights;
      has_loads = has_loads;
      has_weights = λ c in'. refl;
      feasible = feasible;
    }
