-- The rows, computed.
use Rattle.std.proofs.Common.{◌≡◌, ℕ, ◌+◌, ◌<◌, ◌≤◌, Bool, true, List, [], ◌∷◌, length, get_or, Contains, refl, sym, subst, arith, zero, suc}
use Rattle.std.specs.List.{list_any, list_all}
use Rattle.std.specs.List.Sorted.{IsStrictlyIncreasing}
use Rattle.std.specs.Prelude.{All, slice_index, nat_lt, ◌==◌, ◌&&◌}
use Rattle.std.proofs.lemmas.List.Sums.{AllPass-from_list_all}
use Rattle.std.proofs.lemmas.Bool.{and_parts, ltb-true}
use Rattle.coflow_units.specs.declared.fabric.Flow.{Flow}
use Rattle.coflow_units.specs.Flows.{Instance, IsInstance, coflow_of, units_of}
use Rattle.coflow_units.specs.Completion.{cost}
use Rattle.coflow_units.specs.Certificate.{Entry, bound, order_of, slack}
use Rattle.coflow_units.specs.Rows.{IsRow, equal_weights, equal_weights_places, EqualWeights, unequal_weights, unequal_weights_places, UnequalWeights, one_empty, one_empty_places}
use Rattle.coflow_units.specs.Rows.{OneEmpty, all_ties, all_ties_places, AllTies, realistic, realistic_places, Realistic}
use Rattle.coflow_units.proofs.ServedExists.{serve, served_exists}
use Rattle.coflow_units.proofs.Sums.{any_has}

-- the tests of IsInstance on a list that is written out
abbrev Rising : List ℕ → Type 0
Rising [] = Unit {0}
Rising (x ∷ []) = Unit {0}
Rising (x ∷ y ∷ xs) = (x < y) × Rising (y ∷ xs)

rising : (xs : List ℕ) → Rising xs → IsStrictlyIncreasing xs
rising [] up k lt = absurd (omega arith)
rising (x ∷ []) up k lt = absurd (omega arith)
rising (x ∷ y ∷ xs) up zero lt = up.0
rising (x ∷ y ∷ xs) up (suc k) lt =
    let e : suc k + 1 ≡ suc (k + 1) = omega arith in
    subst (λ n. slice_index (y ∷ xs) k < slice_index (x ∷ y ∷ xs) n) (sym e) (rising (y ∷ xs) up.1 k (omega arith))

abbrev fits : List ℕ → ℕ → Flow → Bool
fits coflows ports x = list_any (λ c. c == x.coflow) coflows && (nat_lt x.ingress ports && nat_lt x.egress ports)

all_fit : (coflows : List ℕ) (ports : ℕ) (flows : List Flow) → list_all (fits coflows ports) flows ≡ true → All (λ (x : Flow). fits coflows ports x ≡ true) flows
all_fit coflows ports flows e = AllPass-from_list_all (fits coflows ports) flows e

is_instance : (i : Instance) → Rising i.coflows → 1 ≤ i.ports → list_all (fits i.coflows i.ports) i.flows ≡ true → IsInstance i
is_instance i up some e =
    let each = λ (k : ℕ) (d : Flow) (lt : k < length i.flows). and_parts (list_any (λ c. c == (get_or i.flows k d).coflow) i.coflows)
    (nat_lt (get_or i.flows k d).ingress i.ports && nat_lt (get_or i.flows k d).egress i.ports) (all_fit i.coflows i.ports i.flows e k d lt) in
    let ports = λ (k : ℕ) (d : Flow) (lt : k < length i.flows). and_parts (nat_lt (get_or i.flows k d).ingress i.ports) (nat_lt (get_or i.flows k d).egress i.ports) (each k d lt).1
    in
    record {
      ascending = rising i.coflows up;
      has_ports = some;
      coflow = λ k d lt units. any_has i.coflows (get_or i.flows k d).coflow (each k d lt).0;
      ingress = λ k d lt. ltb-true (get_or i.flows k d).ingress i.ports (ports k d lt).0;
      egress = λ k d lt. ltb-true (get_or i.flows k d).egress i.ports (ports k d lt).1;
    }

-- a line names the coflow of each flow
pub named : (flows : List Flow) (line : List ℕ) → list_all (λ (x : Flow). list_any (λ c. c == x.coflow) line) flows ≡ true → (f : ℕ) → f < length flows → 0 < units_of flows f →
    Contains line (coflow_of flows f)
named flows line e f lt some =
    any_has line (coflow_of flows f)
    (AllPass-from_list_all (λ (x : Flow). list_any (λ c. c == x.coflow) line) flows e f record { coflow = 0; ingress = 0; egress = 0; units = 0 } lt)

-- the row of an instance and entries, from what is computed for them
row : (i : Instance) (entries : List Entry) (low lack total : ℕ) → IsInstance i → list_all (λ (x : Flow). list_any (λ c. c == x.coflow) (order_of entries)) i.flows ≡ true →
    bound i.flows entries ≡ low → slack i.flows i.weight entries ≡ lack →
    cost i.flows i.weight i.coflows (serve i.flows (order_of entries)) ≡ total → IsRow i entries (serve i.flows (order_of entries)) low lack total
row i entries low lack total inst all b s c = record {
  instance = inst;
  served = served_exists i.flows (order_of entries) (named i.flows (order_of entries) all);
  bound_is = b;
  slack_is = s;
  cost_is = c;
}

pub equal_instance : IsInstance equal_weights
equal_instance = is_instance equal_weights (omega arith, tt) (omega arith) refl

pub unequal_instance : IsInstance unequal_weights
unequal_instance = is_instance unequal_weights (omega arith, tt) (omega arith) refl

pub empty_instance : IsInstance one_empty
empty_instance = is_instance one_empty (omega arith, tt) (omega arith) refl

pub ties_instance : IsInstance all_ties
ties_instance = is_instance all_ties (omega arith, tt) (omega arith) refl

pub realistic_instance : IsInstance realistic
realistic_instance = is_instance realistic (omega arith, (omega arith, tt)) (omega arith) refl

pub equal_row : EqualWeights
equal_row = row equal_weights equal_weights_places 5 1 5 equal_instance refl refl refl refl

pub unequal_row : UnequalWeights
unequal_row = row unequal_weights unequal_weights_places 19 1 19 unequal_instance refl refl refl refl

pub empty_row : OneEmpty
empty_row = row one_empty one_empty_places 2 0 2 empty_instance refl refl refl refl

pub ties_row : AllTies
ties_row = row all_ties all_ties_places 3 0 4 ties_instance refl refl refl refl

pub realistic_row : Realistic
realistic_row = row realistic realistic_places 15 1 16 realistic_instance refl refl refl refl
