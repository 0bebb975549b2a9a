-- What the places of an order say as a certificate over a table of loads, and as an order to be served.
use Rattle.std.proofs.Common.{◌≡◌, ℕ, ◌<◌, List, [], ◌∷◌, ◌++◌, length, get_or, reverse, Contains, refl, sym, ap, subst, ◌∙◌, arith, zero, suc}
use Rattle.std.specs.Prelude.{All, map, slice_index}
use Rattle.std.specs.List.{range_with_len}
use Rattle.std.proofs.lemmas.List.{map-append, reverse-append}
use Rattle.std.proofs.lemmas.List.Elements.{All-contains}
use Rattle.coflow_units.specs.declared.plan.Place.{Place}
use Rattle.coflow_units.specs.Certificate.{Entry, entry_of, front}
use Rattle.coflow_units.specs.Flows.{IsDistinct}
use Rattle.coflow_units.proofs.Lists.{number_below, reverse-cons, into_reverse}
use Rattle.coflow_units.proofs.Sums.{Apart, apart_from_pairs, apart_snoc, in_first, in_tail, pairs_from_apart}
use Rattle.port_load.specs.LoadTable.{HasLoads, LoadTable}
use Rattle.bssi_order.specs.Order.{IsOrder, entries_of}
use Rattle.coflow_units.proofs.OrderingLaws.{ordering_feasible}
use Rattle.dual_cert.specs.TableCertificate.{HasLoadsOf, IsCertificateOf, StaysInBudget}
use Rattle.flow_table.specs.Table.{TableFacts, instance_of}
use Rattle.plans.specs.PlanReport.{coflows_of}

-- ---- the coflows of the places, and the front of the certificate

pub front_of_places : (places : List Place) → front (entries_of places) ≡ reverse (coflows_of places)
front_of_places [] = refl
front_of_places (x ∷ xs) =
    ap (λ (l : List Place). front (map entry_of l)) (reverse-append (x ∷ []) xs) ∙ ap front (map-append entry_of (reverse xs) (x ∷ [])) ∙
    map-append (λ (e : Entry). e.coflow) (entries_of xs) (entry_of x ∷ [])
    ∙ ap (λ l. l ++ x.coflow ∷ []) (front_of_places xs) ∙ sym (reverse-cons x.coflow (coflows_of xs))

apart_reverse : (xs : List ℕ) → Apart (reverse xs) → Apart xs
apart_reverse [] apart = tt
apart_reverse (x ∷ xs) apart =
    let (tail, out) = apart_snoc (reverse xs) x (subst Apart (reverse-cons x xs) apart) in
    ((λ has. out (into_reverse xs x has)), apart_reverse xs tail)

pub places_distinct : (table : TableFacts) (weights : List ℕ) (places : List Place) → IsOrder (instance_of table weights) places → IsDistinct (coflows_of places)
places_distinct table weights places order =
    pairs_from_apart (coflows_of places)
    (apart_reverse (coflows_of places) (subst Apart (front_of_places places) (apart_from_pairs (front (entries_of places)) order.ordering.certificate.once)))

-- a coflow of the places is one of those with a weight
pub places_within : (table : TableFacts) (weights : List ℕ) (places : List Place) → IsOrder (instance_of table weights) places → (c : ℕ) → Contains (coflows_of places) c →
    c < length table.ids
places_within table weights places order c has =
    omega (
      arith,
      number_below 0 (length table.ids) c
          (All-contains (Contains (range_with_len 0 (length table.ids))) (front (entries_of places)) c order.ordering.certificate.coflow
          (subst (λ l. Contains l c) (sym (front_of_places places)) (into_reverse (coflows_of places) c has))),
    )

coflow_in : (places : List Place) (k : ℕ) (d : Place) → k < length places → Contains (coflows_of places) (get_or places k d).coflow
coflow_in [] k d lt = absurd (omega arith)
coflow_in (x ∷ xs) zero d lt = in_first x.coflow (coflows_of xs)
coflow_in (x ∷ xs) (suc k) d lt = in_tail x.coflow (coflows_of xs) (get_or xs k d).coflow (coflow_in xs k d (omega arith))

pub each_place_within : (table : TableFacts) (weights : List ℕ) (places : List Place) → IsOrder (instance_of table weights) places →
    All (λ (x : Place). x.coflow < length table.ids) places
each_place_within table weights places order k d lt = places_within table weights places order (get_or places k d).coflow (coflow_in places k d lt)

-- ---- the certificate over a table

front_in : (entries : List Entry) (k : ℕ) (d : Entry) → k < length entries → Contains (front entries) (get_or entries k d).coflow
front_in [] k d lt = absurd (omega arith)
front_in (e ∷ es) zero d lt = in_first e.coflow (front es)
front_in (e ∷ es) (suc k) d lt = in_tail e.coflow (front es) (get_or es k d).coflow (front_in es k d (omega arith))

front_within : (table : TableFacts) (weights : List ℕ) (places : List Place) → IsOrder (instance_of table weights) places → (c : ℕ) → Contains (front (entries_of places)) c →
    c < length table.ids
front_within table weights places order c has =
    omega (
      arith,
      number_below 0 (length table.ids) c
          (All-contains (Contains (range_with_len 0 (length table.ids))) (front (entries_of places)) c order.ordering.certificate.coflow has),
    )

pub table_certificate : (table : TableFacts) (weights : List ℕ) (places : List Place) (t : LoadTable) → IsOrder (instance_of table weights) places → t.coflows ≡ length table.ids →
    t.ports ≡ table.ports → IsCertificateOf t (entries_of places)
table_certificate table weights places t order n p = record {
  once = order.ordering.certificate.once;
  coflow = λ k d lt. omega (arith, n, front_within table weights places order (get_or (entries_of places) k d).coflow (front_in (entries_of places) k d lt));
  port = λ k d lt. omega (arith, p, order.ordering.certificate.port k d lt);
}

pub loads_of : (table : TableFacts) (weights : List ℕ) (places : List Place) (t : LoadTable) → IsOrder (instance_of table weights) places → t.coflows ≡ length table.ids →
    HasLoads table.flows t → HasLoadsOf table.flows t (entries_of places)
loads_of table weights places t order n loads = λ c port has lt. loads c port (omega (arith, n, front_within table weights places order c has)) lt

pub in_budget : (table : TableFacts) (weights : List ℕ) (places : List Place) (t : LoadTable) → IsOrder (instance_of table weights) places → t.coflows ≡ length table.ids →
    HasLoads table.flows t → StaysInBudget t weights (entries_of places)
in_budget table weights places t order n loads = record {
  flows = table.flows;
  weight = λ c. slice_index weights c;
  has_loads = loads_of table weights places t order n loads;
  has_weights = λ c has. refl;
  feasible = ordering_feasible (instance_of table weights) (entries_of places) order.ordering;
}
