-- The order that is published is that of what is left.
use Rattle.std.proofs.Common.{◌≡◌, ℕ, ◌+◌, ◌<◌, ◌≤◌, Bool, List, [], ◌∷◌, ◌++◌, length, map, get_or, Contains, inl, inr, refl, sym, ap, subst, ◌∙◌, arith, suc, append-nil}
use Rattle.std.specs.Prelude.{◌==◌, ◌&&◌, ◌^◌, not, if◌then◌else◌, slice_index, sum}
use Rattle.std.specs.List.{filter, range_with_len}
use Rattle.std.proofs.lemmas.Bool.{and_parts, cases_Bool, eqb-true}
use Rattle.std.proofs.lemmas.List.{get_or_default, length-append}
use Rattle.std.proofs.lemmas.List.Sums.{sum-map, sum_by-cons}
use Rattle.coflow_units.specs.declared.fabric.Flow.{Flow}
use Rattle.coflow_units.specs.declared.fabric.Port.{Port}
use Rattle.coflow_units.specs.declared.plan.Place.{Place}
use Rattle.coflow_units.specs.Flows.{Instance, coflow_of, uses, with_units_from}
use Rattle.coflow_units.specs.Certificate.{order_of}
use Rattle.coflow_units.specs.Load.{load, loads}
use Rattle.coflow_units.proofs.Lists.{filter_in, number_below, filter_same}
use Rattle.coflow_units.proofs.Sums.{any_in}
use Rattle.flow_table.specs.Table.{IsTable, TableFacts}
use Rattle.master_core.specs.Accounts.{IsBalanced}
use Rattle.bssi_order.specs.Order.{IsOrder, entries_of}
use Rattle.journal.specs.declared.opening.Opening.{Opening}
use Rattle.master_core.specs.declared.standing.Standing.{Standing}
use Rattle.journal.specs.Chosen.{the_order}
use Rattle.journal.specs.State.{has, is_present, owed, present, State, what_is_left}
use Rattle.master_core.specs.Attendance.{marked}
use Rattle.journal.specs.Line.{newest_in}
use Rattle.master_core.specs.Published.{IsLeft, Published, TellsPlaces, last_of, ranked}
use Rattle.master_core.specs.Standing.{IsFit, Tells, TellsOrders}
use Rattle.journal.proofs.Growth.{made_at}
use Rattle.journal.proofs.Instances.{left_is_instance, only_ordering}
use Rattle.master_core.proofs.PlaceSteps.{order_of_places, place_is_of}

-- ---- the units that are owed

sum_within : (xs ys : List ℕ) → length xs ≡ length ys → ((k : ℕ) → get_or xs k 0 ≤ get_or ys k 0) → sum xs ≤ sum ys
sum_within [] [] len le = omega arith
sum_within [] (y ∷ ys) len le = absurd (omega arith)
sum_within (x ∷ xs) [] len le = absurd (omega arith)
sum_within (x ∷ xs) (y ∷ ys) len le = omega (arith, sum_by-cons (λ (n : ℕ). n) x xs, sum_by-cons (λ (n : ℕ). n) y ys, le 0, sum_within xs ys (omega arith) (λ k. le (suc k)))

pub owed_within : (t : TableFacts) (units owes : List ℕ) → IsTable t → units ≡ map (λ (f : Flow). f.units) t.flows → IsBalanced units owes → sum owes ≤ 2 ^ 40
owed_within t units owes ok is h =
    omega (arith, sum_within owes units h.owed_len h.within, ap (λ (l : List ℕ). sum l) is, sum-map (λ (f : Flow). f.units) t.flows, ok.few_units)

-- ---- the loads of what is left

abbrev given : (ℕ → ℕ) → ℕ → Flow → Flow
given units k x = record { coflow = x.coflow; ingress = x.ingress; egress = x.egress; units = units k }

abbrev adds : ℕ → Port → Flow → ℕ
adds c port x = if loads c port x then x.units else 0

same_adds : (a b : ℕ → ℕ) (k c : ℕ) (port : Port) (x : Flow) → (x.coflow ≡ c → a k ≡ b k) → adds c port (given a k x) ≡ adds c port (given b k x)
same_adds a b k c port x same = elim (cases_Bool (x.coflow == c)) [
  | inl t ↦ ap (λ n. adds c port record { coflow = x.coflow; ingress = x.ingress; egress = x.egress; units = n }) (same (eqb-true x.coflow c t))
  | inr f ↦
      ap (λ z. if z && uses port (given a k x) then a k else 0) f ∙ sym (ap (λ z. if z && uses port (given b k x) then b k else 0) f)
]

same_loads : (a b : ℕ → ℕ) (k c : ℕ) (port : Port) (xs : List Flow) → ((j : ℕ) (d : Flow) → j < length xs → (get_or xs j d).coflow ≡ c → a (k + j) ≡ b (k + j)) →
    load (with_units_from k a xs) c port ≡ load (with_units_from k b xs) c port
same_loads a b k c port [] same = refl
same_loads a b k c port (x ∷ xs) same =
    let here : k + 0 ≡ k = omega arith in
    let first = same_adds a b k c port x (λ e. ap a (sym here) ∙ same 0 x (omega arith) e ∙ ap b here) in
    let rest = same_loads a b (k + 1) c port xs (λ j d lt e. let at : k + 1 + j ≡ k + suc j = omega arith in ap a at ∙ same (suc j) d (omega arith) e ∙ ap b (sym at)) in
    sum_by-cons (adds c port) (given a k x) (with_units_from (k + 1) a xs) ∙ ap (λ n. n + load (with_units_from (k + 1) a xs) c port) first ∙
    ap (λ n. adds c port (given b k x) + n) rest
    ∙ sym (sum_by-cons (adds c port) (given b k x) (with_units_from (k + 1) b xs))

pub left_told : (o : Opening) (s : State) (x : Standing) → IsFit o x → Tells o s x →
    IsLeft (what_is_left o s) o.table.flows x.ledger.owed x.weights.items x.roster.present o.table.ports
left_told o s x fit t =
    let n = length o.table.ids in
    let owes = λ (f : ℕ). slice_index x.ledger.owed f in
    let left = λ (f : ℕ). if has (present o s) (coflow_of o.table.flows f) then owed o s f else 0 in
    record {
      coflows_are = filter_same (is_present s) (marked x.roster.present) (range_with_len 0 n) (λ c in'. sym (t.coflows.present_is c)) ∙
          ap (λ m. filter (marked x.roster.present) (range_with_len 0 m)) (sym fit.present_len);
      ports_are = refl;
      weight = λ c in'. sym (t.weight c (omega (arith, number_below 0 n c (filter_in (is_present s) (range_with_len 0 n) c in').0)));
      load = λ c port in'. same_loads owes left 0 c port o.table.flows (λ j d lt e.
          let k : 0 + j ≡ j = omega arith in
          let of : coflow_of o.table.flows (0 + j) ≡ c =
          ap (coflow_of o.table.flows) k ∙ ap (λ (y : Flow). y.coflow) (get_or_default o.table.flows j record { coflow = 0; ingress = 0; egress = 0; units = 0 } d lt) ∙ e in
          t.owed (0 + j) ∙ sym (ap (λ (b : Bool). if b then owed o s (0 + j) else 0) (ap (has (present o s)) of ∙ any_in (present o s) c in')));
    }

-- ---- the new version

pub last_is : (j : Instance) (js : List Instance) (i : Instance) → last_of j (js ++ i ∷ []) ≡ i
last_is j [] i = refl
last_is j (k ∷ ks) i = last_is k ks i

places_told : (published : List Instance) (i : Instance) (places : List Place) → IsOrder i places → TellsPlaces (published ++ i ∷ []) places
places_told [] i places order = order
places_told (j ∷ js) i places order = subst (λ (z : Instance). IsOrder z places) (sym (last_is j js i)) order

newest_is : (published : List Instance) (i : Instance) → newest_in (published ++ i ∷ []) ≡ the_order i
newest_is published i =
    let n : length (published ++ i ∷ []) ≡ length published + 1 = omega (arith, length-append published (i ∷ [])) in
    ap (λ (k : ℕ). get_or ([] ∷ map the_order (published ++ i ∷ [])) k []) n ∙
    ap (λ (l : List Instance). get_or ([] ∷ map the_order l) (length published + 1) []) (sym (append-nil (published ++ i ∷ [])))
    ∙ made_at published i [] (length published) refl

pub published_told : (o : Opening) (s : State) (x : Standing) (new : Published) → IsFit o x → Tells o s x → new.version ≡ x.orders.version + 1 →
    IsOrder (what_is_left o s) new.places → TellsOrders s.joined (s.published ++ what_is_left o s ∷ []) new
published_told o s x new fit t next order =
    let i = what_is_left o s in
    let inst = left_is_instance o s fit.opening in
    let is : ranked new.places ≡ newest_in (s.published ++ i ∷ []) = sym (order_of_places new.places) ∙ ap order_of (only_ordering i (entries_of new.places) inst order.ordering) ∙
    sym (newest_is s.published i) in
    record {
      version_is = omega (arith, next, t.orders.version_is, length-append s.published (i ∷ []));
      places_are = places_told s.published i new.places order;
      order_is = is;
      named = λ c in'.
          let there = place_is_of i new.places order c (subst (λ l. Contains l c) (sym is) in') in
          (and_parts (has s.joined c) (not (has s.left c)) (filter_in (is_present s) (range_with_len 0 (length o.table.ids)) c there).1).0;
    }
