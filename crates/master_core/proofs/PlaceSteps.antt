-- What the places of an order say of its coflows, and for which instances an order is made.
use Rattle.std.proofs.Common.{◌≡◌, ℕ, ◌≤◌, ◌<◌, Bool, true, List, [], ◌∷◌, ◌++◌, length, get_or, reverse, Contains, refl, sym, ap, subst, ◌∙◌, arith, zero, suc}
use Rattle.std.specs.Prelude.{All, map, slice_index}
use Rattle.std.specs.List.{range_with_len}
use Rattle.std.proofs.lemmas.List.{reverse-append, reverse-reverse}
use Rattle.std.proofs.lemmas.List.Elements.{All-contains}
use Rattle.coflow_units.specs.declared.fabric.Flow.{Flow}
use Rattle.coflow_units.specs.declared.fabric.Port.{Port}
use Rattle.coflow_units.specs.declared.plan.Place.{Place}
use Rattle.coflow_units.specs.Certificate.{Entry, entry_of, front, order_of}
use Rattle.coflow_units.specs.Flows.{Instance, IsDistinct, with_units}
use Rattle.coflow_units.specs.Load.{load}
use Rattle.coflow_units.proofs.Lists.{filter_in, number_below, reverse-cons, into_reverse}
use Rattle.coflow_units.proofs.Sums.{Apart, apart_from_pairs, in_first, in_tail, pairs_from_apart, apart_snoc}
use Rattle.port_load.specs.LoadTable.{IsSameSize, LoadTable, is_present, load_at}
use Rattle.bssi_order.specs.Order.{IsOf, IsOrder, entries_of, present_coflows}
use Rattle.master_core.specs.Published.{IsLeft, ranked}
use Rattle.master_core.proofs.AttendanceSteps.{joined_few}
use Rattle.master_core.proofs.LineSteps.{places_within}
use Rattle.master_core.proofs.RankSteps.{ranked_len}

map_snoc : {X Y : Type 0} (f : X → Y) (xs : List X) (x : X) → map f (xs ++ x ∷ []) ≡ map f xs ++ f x ∷ []
map_snoc f [] x = refl
map_snoc f (y ∷ ys) x = ap (λ t. f y ∷ t) (map_snoc f ys x)

front_of_places : (places : List Place) → front (entries_of places) ≡ reverse (ranked places)
front_of_places [] = refl
front_of_places (x ∷ xs) =
    ap (λ (l : List Place). front (map entry_of l)) (reverse-append (x ∷ []) xs) ∙ ap front (map_snoc entry_of (reverse xs) x) ∙
    map_snoc (λ (e : Entry). e.coflow) (entries_of xs) (entry_of x)
    ∙ ap (λ l. l ++ x.coflow ∷ []) (front_of_places xs) ∙ sym (reverse-cons x.coflow (ranked xs))

-- the order of the entries is that of the places
pub order_of_places : (places : List Place) → order_of (entries_of places) ≡ ranked places
order_of_places places = ap reverse (front_of_places places) ∙ reverse-reverse (ranked places)

apart_reverse : (xs : List ℕ) → Apart (reverse xs) → Apart xs
apart_reverse [] apart = tt
apart_reverse (x ∷ xs) apart =
    let (tail, out) = apart_snoc (reverse xs) x (subst Apart (reverse-cons x xs) apart) in
    ((λ has. out (into_reverse xs x has)), apart_reverse xs tail)

pub places_once : (i : Instance) (places : List Place) → IsOrder i places → IsDistinct (ranked places)
places_once i places order =
    pairs_from_apart (ranked places)
    (apart_reverse (ranked places) (subst Apart (front_of_places places) (apart_from_pairs (front (entries_of places)) order.ordering.certificate.once)))

pub place_is_of : (i : Instance) (places : List Place) → IsOrder i places → (c : ℕ) → Contains (ranked places) c → Contains i.coflows c
place_is_of i places order c has =
    All-contains (Contains i.coflows) (front (entries_of places)) c order.ordering.certificate.coflow
    (subst (λ l. Contains l c) (sym (front_of_places places)) (into_reverse (ranked places) c has))

coflow_in : (places : List Place) (k : ℕ) (d : Place) → k < length places → Contains (ranked places) (get_or places k d).coflow
coflow_in [] k d lt = absurd (omega arith)
coflow_in (x ∷ xs) zero d lt = in_first x.coflow (ranked xs)
coflow_in (x ∷ xs) (suc k) d lt = in_tail x.coflow (ranked xs) (get_or xs k d).coflow (coflow_in xs k d (omega arith))

pub present_is_marked : (present : List Bool) (c : ℕ) → Contains (present_coflows present) c → (c < length present) × (is_present present c ≡ true)
present_is_marked present c has =
    let (in', marked) = filter_in (is_present present) (range_with_len 0 (length present)) c has in (omega (arith, number_below 0 (length present) c in'), marked)

pub each_within : (i : Instance) (places : List Place) (present : List Bool) → IsOrder i places → i.coflows ≡ present_coflows present →
    All (λ (x : Place). x.coflow < length present) places
each_within i places present order is k d lt =
    (present_is_marked present (get_or places k d).coflow
    (subst (λ l. Contains l (get_or places k d).coflow) is (place_is_of i places order (get_or places k d).coflow (coflow_in places k d lt)))).0

pub places_few : (i : Instance) (places : List Place) (present : List Bool) → IsOrder i places → i.coflows ≡ present_coflows present → length places ≤ length present
places_few i places present order is =
    omega (
      arith,
      ranked_len places,
      joined_few (ranked places) (length present) (places_once i places order) (places_within places (length present) (each_within i places present order is)),
    )

-- what is left of the marked coflows
abbrev pub left_of : List Flow → List ℕ → List ℕ → List Bool → ℕ → Instance
left_of flows left weights present ports =
    record { coflows = present_coflows present; weight = λ c. slice_index weights c; ports = ports; flows = with_units (λ f. slice_index left f) flows }

pub left_itself : (flows : List Flow) (left weights : List ℕ) (present : List Bool) (ports : ℕ) → IsLeft (left_of flows left weights present ports) flows left weights present ports
left_itself flows left weights present ports = record { coflows_are = refl; ports_are = refl; weight = λ c has. refl; load = λ c port has. refl }

-- the table that was filled with what is left is that of the instance
pub filled_is_left : (i : Instance) (flows : List Flow) (left weights : List ℕ) (present : List Bool) (old new : LoadTable) → IsLeft i flows left weights present old.ports →
    IsSameSize old new → length present ≡ old.coflows →
    ((c : ℕ) (port : Port) → c < old.coflows → port.number < old.ports → is_present present c ≡ true →
    load_at new c port ≡ load (with_units (λ f. slice_index left f) flows) c port) → IsOf i new weights present
filled_is_left i flows left weights present old new h size len filled = record {
  coflows = h.coflows_are;
  ports = h.ports_are ∙ sym size.ports;
  weight = h.weight;
  load = λ c port has lt.
      let (low, marked) = present_is_marked present c (subst (λ l. Contains l c) h.coflows_are has) in
      filled c port (omega (arith, low, len)) (omega (arith, lt, h.ports_are)) marked ∙ h.load c port has;
}

-- the order that is made from the filled table, for one of the instances that it is made for
pub order_is_made : (flows : List Flow) (left weights : List ℕ) (present : List Bool) (old new : LoadTable) (places : List Place) →
    ((i : Instance) → IsOf i new weights present → IsOrder i places) → IsSameSize old new → length present ≡ old.coflows →
    ((c : ℕ) (port : Port) → c < old.coflows → port.number < old.ports → is_present present c ≡ true →
    load_at new c port ≡ load (with_units (λ f. slice_index left f) flows) c port) →
    IsOrder (left_of flows left weights present old.ports) places
order_is_made flows left weights present old new places run size len filled =
    run (left_of flows left weights present old.ports)
    (filled_is_left (left_of flows left weights present old.ports) flows left weights present old new (left_itself flows left weights present old.ports) size len filled)
