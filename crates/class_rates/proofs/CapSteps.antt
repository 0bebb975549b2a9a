-- Loads of classes and caps of coflows, flow by flow.
use Rattle.std.proofs.Common.{◌≡◌, ◌≢◌, ℕ, ◌+◌, ◌-◌, ◌*◌, ◌≤◌, ◌<◌, inl, inr, Bool, true, false, cond, max, List}
use Rattle.std.proofs.Common.{[], ◌∷◌, ◌++◌, length, get_or, take, replicate, Contains, refl, sym, ap, ◌∙◌, arith, zero, suc}
use Rattle.std.specs.Prelude.{All, ◌==◌, ◌&&◌, nat_le, nat_lt, set, sum_by}
use Rattle.std.specs.List.{filter, range_with_len}
use Rattle.std.proofs.Math.Nat.{max_comm, mul-le-mul_left}
use Rattle.std.proofs.lemmas.Bool.{both_ways, cases_Bool, cases_eq, cases_lt, eq-eqb, le-leb, le-ltb, lt-leb, lt-ltb, ne_eqb}
use Rattle.std.proofs.lemmas.List.{get_or-set_other, get_or-set_same, get_or_default, get_or_past, length-set, take_all}
use Rattle.std.proofs.lemmas.List.Elements.{All-contains}
use Rattle.std.proofs.lemmas.List.Sums.{get_or-le-sum_by, sum_by-take-le, sum_by_more}
use Rattle.coflow_units.specs.declared.fabric.Flow.{Flow}
use Rattle.coflow_units.specs.declared.fabric.Port.{Port}
use Rattle.coflow_units.specs.declared.fabric.Side.{Side}
use Rattle.coflow_units.specs.Flows.{coflow_of, end_at, flow_at, ingress_of, units_of, uses}
use Rattle.coflow_units.specs.Patient.{egress_port, ingress_port}
use Rattle.coflow_units.specs.Load.{load_of_all, loads}
use Rattle.coflow_units.proofs.Lists.{filter_in, keeps, number_below, number_in, numbers_apart, range_more as range_sum}
use Rattle.coflow_units.proofs.Sums.{Apart, picked_none, picked_one, sum_add, sum_mono, sum_same, sum_swap, sum_zero}
use Rattle.coflow_units.proofs.Ranges.{sum_next}
use Rattle.slot_switch.proofs.Ranges.{range_more}
use Rattle.class_rates.specs.Cap.{cap_of_coflow, cap_of_flow, greatest, up_to_class}
use Rattle.class_rates.specs.Tallies.{HasCapsBelow, HasCapsUpTo, HasLoadsBelow, HasLoadsUpTo, before_class, coflows_of, number_at}

-- the units of a flow that uses the port, where its coflow passes the test
abbrev pub chosen_units : (ℕ → Bool) → Port → Flow → ℕ
chosen_units p port x = cond (p x.coflow && uses port x) x.units 0

filter_apart_step : (p : ℕ → Bool) (x : ℕ) (xs : List ℕ) → (Contains xs x → ⊥) → Apart (filter p xs) → (b : Bool) → p x ≡ b → Apart (filter p (x ∷ xs))
filter_apart_step p x xs out apart true e = rw e ((λ has. out (filter_in p xs x has).0), apart)
filter_apart_step p x xs out apart false e = rw e apart

filter_apart : (p : ℕ → Bool) (xs : List ℕ) → Apart xs → Apart (filter p xs)
filter_apart p [] apart = apart
filter_apart p (x ∷ xs) apart = filter_apart_step p x xs apart.0 (filter_apart p xs apart.1) (p x) refl

off : (b u : Bool) (n : ℕ) → u ≡ false → cond (b && u) n 0 ≡ 0
off true u n e = ap (λ v. cond v n 0) e
off false u n e = refl

on : (b u : Bool) (n : ℕ) → u ≡ true → cond (b && u) n 0 ≡ cond b n 0
on true u n e = ap (λ v. cond v n 0) e
on false u n e = refl

picked_chosen : (p : ℕ → Bool) (a units : ℕ) (xs : List ℕ) → Apart xs → Contains xs a → sum_by (λ c. cond (a == c) units 0) (filter p xs) ≡ cond (p a) units 0
picked_chosen p a units xs apart has = elim (cases_Bool (p a)) [
  | inl e ↦ picked_one a (λ c. units) (filter p xs) (filter_apart p xs apart) (keeps p xs a has e) ∙ sym (ap (λ b. cond b units 0) e)
  | inr e ↦ picked_none a (λ c. units) (filter p xs) (λ h. both_ways (p a) e (filter_in p xs a h).1) ∙ sym (ap (λ b. cond b units 0) e)
]

one_flow : (p : ℕ → Bool) (u : Bool) (units a : ℕ) (xs : List ℕ) → Apart xs → Contains xs a →
    sum_by (λ c. cond ((a == c) && u) units 0) (filter p xs) ≡ cond (p a && u) units 0
one_flow p u units a xs apart has = elim (cases_Bool u) [
  | inl e ↦ sum_same (λ c. cond ((a == c) && u) units 0) (λ c. cond (a == c) units 0) (filter p xs) (λ c in'. on (a == c) u units e) ∙
      picked_chosen p a units xs apart has ∙ sym (on (p a) u units e)
  | inr e ↦ sum_same (λ c. cond ((a == c) && u) units 0) (λ c. 0) (filter p xs) (λ c in'. off (a == c) u units e) ∙ sum_zero (filter p xs) ∙ sym (off (p a) u units e)
]

-- the load of the coflows that pass a test is a sum over the flows
pub load_chosen : (flows : List Flow) (p : ℕ → Bool) (n : ℕ) (port : Port) → All (λ (x : Flow). x.coflow < n) flows →
    load_of_all flows (filter p (range_with_len 0 n)) port ≡ sum_by (chosen_units p port) flows
load_chosen flows p n port known = sum_swap (λ c (x : Flow). cond (loads c port x) x.units 0) (filter p (range_with_len 0 n)) flows ∙
    sum_same (λ (x : Flow). sum_by (λ c. cond (loads c port x) x.units 0) (filter p (range_with_len 0 n))) (chosen_units p port) flows
    (λ x has. one_flow p (uses port x) x.units x.coflow (range_with_len 0 n) (numbers_apart 0 n)
    (number_in 0 n x.coflow (omega arith) (omega (arith, All-contains (λ (y : Flow). y.coflow < n) flows x known has))))

cond_less : (b : Bool) (n : ℕ) → cond b n 0 ≤ n
cond_less true n = omega arith
cond_less false n = omega arith

-- no port has more load than all flows have units
pub load_within : (flows : List Flow) (p : ℕ → Bool) (n : ℕ) (port : Port) → All (λ (x : Flow). x.coflow < n) flows →
    load_of_all flows (filter p (range_with_len 0 n)) port ≤ sum_by (λ (x : Flow). x.units) flows
load_within flows p n port known =
    omega (arith, load_chosen flows p n port known, sum_mono (chosen_units p port) (λ (x : Flow). x.units) flows (λ x has. cond_less (p x.coflow && uses port x) x.units))

-- a class is before the next one, or it is this one
class_split : (a q units : ℕ) (u : Bool) → cond (nat_le a q && u) units 0 ≡ cond (nat_lt a q && u) units 0 + cond ((a == q) && u) units 0
class_split a q units u = elim (cases_lt a q) [
  | inl lt ↦
      let e : cond (nat_le a q && u) units 0 ≡ cond u units 0 = ap (λ b. cond (b && u) units 0) (le-leb a q (omega (arith, lt))) in
      let f : cond (nat_lt a q && u) units 0 ≡ cond u units 0 = ap (λ b. cond (b && u) units 0) (lt-ltb a q lt) in
      let g : cond ((a == q) && u) units 0 ≡ 0 = ap (λ b. cond (b && u) units 0) (ne_eqb a q (λ same. omega (arith, same, lt))) in
      omega (arith, e, f, g)
  | inr ge ↦
      let f : cond (nat_lt a q && u) units 0 ≡ 0 = ap (λ b. cond (b && u) units 0) (le-ltb a q ge) in
      elim (cases_eq a q) [
        | inl same ↦
            let e : cond (nat_le a q && u) units 0 ≡ cond u units 0 = ap (λ b. cond (b && u) units 0) (le-leb a q (omega (arith, same))) in
            let g : cond ((a == q) && u) units 0 ≡ cond u units 0 = ap (λ b. cond (b && u) units 0) (eq-eqb a q same) in
            omega (arith, e, f, g)
        | inr other ↦
            let less : q < a = grind (arith, ge, other) in
            let e : cond (nat_le a q && u) units 0 ≡ 0 = ap (λ b. cond (b && u) units 0) (lt-leb a q less) in
            let g : cond ((a == q) && u) units 0 ≡ 0 = ap (λ b. cond (b && u) units 0) (ne_eqb a q other) in
            omega (arith, e, f, g)
      ]
]

abbrev pub in_class : List ℕ → ℕ → ℕ → Bool
in_class numbers q c = number_at numbers c == q

abbrev pub port_on : Side → ℕ → Port
port_on side p = record { side = side; number = p }

-- the loads of the classes before, and those of the flows of the class so far
pub record IsAdding (flows : List Flow) (numbers : List ℕ) (q : ℕ) (side : Side) (loads : List ℕ) (k : ℕ) : Type 0 where
  pub loads_are : (p : ℕ) → p < length loads → get_or loads p 0 ≡ load_of_all flows (before_class numbers q) (port_on side p) +
      sum_by (chosen_units (in_class numbers q) (port_on side p)) (take k flows)

pub adding_none : (flows : List Flow) (numbers : List ℕ) (q : ℕ) (side : Side) (loads : List ℕ) → HasLoadsBelow flows numbers q side loads →
    IsAdding flows numbers q side loads 0
adding_none flows numbers q side loads below = record { loads_are = λ p lt. omega (arith, below p lt) }

pub adding_fits : (flows : List Flow) (numbers : List ℕ) (q : ℕ) (side : Side) (loads : List ℕ) (k p : ℕ) → All (λ (x : Flow). x.coflow < length numbers) flows →
    sum_by (λ (x : Flow). x.units) flows ≤ 1099511627776 → IsAdding flows numbers q side loads k → p < length loads → get_or loads p 0 ≤ 2199023255552
adding_fits flows numbers q side loads k p known few adding lt =
    omega (
      arith,
      adding.loads_are p lt,
      load_within flows (λ c. nat_lt (number_at numbers c) q) (length numbers) (port_on side p) known,
      sum_by-take-le (chosen_units (in_class numbers q) (port_on side p)) flows k,
      sum_mono (chosen_units (in_class numbers q) (port_on side p)) (λ (x : Flow). x.units) flows
          (λ x has. cond_less (in_class numbers q x.coflow && uses (port_on side p) x) x.units),
    )

pub adding_done : (flows : List Flow) (numbers : List ℕ) (q : ℕ) (side : Side) (loads : List ℕ) (k : ℕ) → All (λ (x : Flow). x.coflow < length numbers) flows →
    length flows ≤ k → IsAdding flows numbers q side loads k → HasLoadsUpTo flows numbers q side loads
adding_done flows numbers q side loads k known end adding p lt =
    let port = port_on side p in
    let n = length numbers in
    let le = λ (c : ℕ). nat_le (number_at numbers c) q in
    let below = λ (c : ℕ). nat_lt (number_at numbers c) q in
    let split = sum_same (chosen_units le port) (λ x. chosen_units below port x + chosen_units (in_class numbers q) port x) flows
    (λ x has. class_split (number_at numbers x.coflow) q x.units (uses port x)) in
    omega (
      arith,
      adding.loads_are p lt,
      ap (sum_by (chosen_units (in_class numbers q) port)) (take_all k flows end),
      load_chosen flows le n port known,
      load_chosen flows below n port known,
      split,
      sum_add (chosen_units below port) (chosen_units (in_class numbers q) port) flows,
    )

chosen_yes : (p : ℕ → Bool) (port : Port) (x : Flow) → p x.coflow ≡ true → uses port x ≡ true → chosen_units p port x ≡ x.units
chosen_yes p port x e f = ap (λ b. cond (b && uses port x) x.units 0) e ∙ ap (λ b. cond b x.units 0) f

chosen_no : (p : ℕ → Bool) (port : Port) (x : Flow) → p x.coflow ≡ false → chosen_units p port x ≡ 0
chosen_no p port x e = ap (λ b. cond (b && uses port x) x.units 0) e

-- a flow of the class is added to its port
pub adding_more : (flows : List Flow) (numbers : List ℕ) (q : ℕ) (side : Side) (loads : List ℕ) (k at sum : ℕ) (x : Flow) → k < length flows → get_or flows k x ≡ x →
    number_at numbers x.coflow ≡ q → at ≡ end_at side x → at < length loads → sum ≡ get_or loads at 0 + x.units →
    IsAdding flows numbers q side loads k → IsAdding flows numbers q side (set loads at sum) (k + 1)
adding_more flows numbers q side loads k at sum x lt here own place inside is adding = record {
  loads_are = λ p in'.
      let port = port_on side p in
      let old : p < length loads = omega (arith, in', length-set loads at sum) in
      let w = chosen_units (in_class numbers q) port in
      let step = sum_by_more w flows k x lt in
      let same = ap w here in
      let mine = eq-eqb (number_at numbers x.coflow) q own in
      elim (cases_eq p at) [
        | inl e ↦
            let at_port : uses port x ≡ true = eq-eqb (end_at side x) p (sym place ∙ sym e) in
            let new : get_or (set loads at sum) p 0 ≡ sum = ap (λ j. get_or (set loads at sum) j 0) e ∙ get_or-set_same loads at sum 0 inside in
            let before : get_or loads at 0 ≡ get_or loads p 0 = ap (λ j. get_or loads j 0) (sym e) in
            omega (arith, new, is, before, adding.loads_are p old, step, same, chosen_yes (in_class numbers q) port x mine at_port)
        | inr other ↦
            let off_port : uses port x ≡ false = ne_eqb (end_at side x) p (λ e. other (sym e ∙ sym place)) in
            let none : w x ≡ 0 = off (in_class numbers q x.coflow) (uses port x) x.units off_port in
            omega (arith, get_or-set_other loads at p sum 0 other, adding.loads_are p old, step, same, none)
      ];
}

-- a flow of another class is not added
pub adding_not : (flows : List Flow) (numbers : List ℕ) (q : ℕ) (side : Side) (loads : List ℕ) (k : ℕ) (x : Flow) → k < length flows → get_or flows k x ≡ x →
    number_at numbers x.coflow ≢ q → IsAdding flows numbers q side loads k → IsAdding flows numbers q side loads (k + 1)
adding_not flows numbers q side loads k x lt here other adding = record {
  loads_are = λ p in'.
      let w = chosen_units (in_class numbers q) (port_on side p) in
      let none = chosen_no (in_class numbers q) (port_on side p) x (ne_eqb (number_at numbers x.coflow) q other) in
      omega (arith, adding.loads_are p in', sum_by_more w flows k x lt, ap w here, none);
}

max_group : (a b c : ℕ) → max a (max b c) ≡ max (max a b) c
max_group a b c = omega arith

-- the greatest value, one number more
pub greatest_more : (value : ℕ → ℕ) (xs : List ℕ) (x : ℕ) → greatest value (xs ++ x ∷ []) ≡ max (greatest value xs) (value x)
greatest_more value [] x = max_comm (value x) 0
greatest_more value (y ∷ ys) x = ap (max (value y)) (greatest_more value ys x) ∙ max_group (value y) (greatest value ys) (value x)

-- the cap of a flow of the coflow, and 0 for a flow of another one
abbrev pub flow_cap : List Flow → List ℕ → ℕ → ℕ → ℕ
flow_cap flows numbers c f = cond (coflow_of flows f == c) (cap_of_flow flows (coflows_of numbers) (number_at numbers) f) 0

-- the caps of the classes before, and the greatest ones of the flows of the class so far
pub record IsCapping (flows : List Flow) (numbers : List ℕ) (q : ℕ) (caps : List ℕ) (k : ℕ) : Type 0 where
  pub this : (c : ℕ) → c < length numbers → number_at numbers c ≡ q → get_or caps c 0 ≡ greatest (flow_cap flows numbers c) (range_with_len 0 k)
  pub others : (c : ℕ) → c < length numbers → number_at numbers c ≢ q →
      get_or caps c 0 ≡ cond (nat_lt (number_at numbers c) q) (cap_of_coflow flows (coflows_of numbers) (number_at numbers) c) 0

pub capping_none : (flows : List Flow) (numbers : List ℕ) (q : ℕ) (caps : List ℕ) → HasCapsBelow flows numbers q caps → IsCapping flows numbers q caps 0
capping_none flows numbers q caps below = record {
  this = λ c lt e. below c lt ∙ ap (λ b. cond b (cap_of_coflow flows (coflows_of numbers) (number_at numbers) c) 0) (le-ltb (number_at numbers c) q (omega (arith, e)));
  others = λ c lt other. below c lt;
}

pub capping_done : (flows : List Flow) (numbers : List ℕ) (q : ℕ) (caps : List ℕ) (k : ℕ) → k ≡ length flows → IsCapping flows numbers q caps k →
    HasCapsUpTo flows numbers q caps
capping_done flows numbers q caps k end capping c lt =
    let cap = cap_of_coflow flows (coflows_of numbers) (number_at numbers) c in
    elim (cases_eq (number_at numbers c) q) [
      | inl e ↦ capping.this c lt e ∙ ap (λ n. greatest (flow_cap flows numbers c) (range_with_len 0 n)) end ∙
          sym (ap (λ b. cond b cap 0) (le-leb (number_at numbers c) q (omega (arith, e))))
      | inr other ↦ elim (cases_lt (number_at numbers c) q) [
        | inl less ↦ capping.others c lt other ∙ ap (λ b. cond b cap 0) (lt-ltb (number_at numbers c) q less) ∙
            sym (ap (λ b. cond b cap 0) (le-leb (number_at numbers c) q (omega (arith, less))))
        | inr ge ↦
            let more : q < number_at numbers c = grind (arith, ge, other) in
            capping.others c lt other ∙ ap (λ b. cond b cap 0) (le-ltb (number_at numbers c) q ge) ∙
            sym (ap (λ b. cond b cap 0) (lt-leb (number_at numbers c) q more))
      ]
    ]

flow_none : (flows : List Flow) (numbers : List ℕ) (c f : ℕ) → coflow_of flows f ≢ c → flow_cap flows numbers c f ≡ 0
flow_none flows numbers c f other = ap (λ b. cond b (cap_of_flow flows (coflows_of numbers) (number_at numbers) f) 0) (ne_eqb (coflow_of flows f) c other)

flow_some : (flows : List Flow) (numbers : List ℕ) (c f : ℕ) → coflow_of flows f ≡ c → flow_cap flows numbers c f ≡ cap_of_flow flows (coflows_of numbers) (number_at numbers) f
flow_some flows numbers c f e = ap (λ b. cond b (cap_of_flow flows (coflows_of numbers) (number_at numbers) f) 0) (eq-eqb (coflow_of flows f) c e)

greatest_at : (value : ℕ → ℕ) (k : ℕ) → greatest value (range_with_len 0 (k + 1)) ≡ max (greatest value (range_with_len 0 k)) (value k)
greatest_at value k = ap (greatest value) (range_more 0 k k (omega arith)) ∙ greatest_more value (range_with_len 0 k) k

-- a flow of another class changes no cap
pub capping_not : (flows : List Flow) (numbers : List ℕ) (q : ℕ) (caps : List ℕ) (k : ℕ) → number_at numbers (coflow_of flows k) ≢ q → IsCapping flows numbers q caps k →
    IsCapping flows numbers q caps (k + 1)
capping_not flows numbers q caps k other capping = record {
  this = λ c lt e. omega (
    arith,
    capping.this c lt e,
    greatest_at (flow_cap flows numbers c) k,
    flow_none flows numbers c k (λ same. other (ap (number_at numbers) same ∙ e)),
  );
  others = capping.others;
}

-- a flow of the class raises the cap of its coflow to its own
pub capping_more : (flows : List Flow) (numbers : List ℕ) (q : ℕ) (caps : List ℕ) (k at cap : ℕ) → at ≡ coflow_of flows k → number_at numbers (coflow_of flows k) ≡ q →
    length caps ≡ length numbers → at < length numbers → cap ≡ max (get_or caps at 0) (cap_of_flow flows (coflows_of numbers) (number_at numbers) k) →
    IsCapping flows numbers q caps k → IsCapping flows numbers q (set caps at cap) (k + 1)
capping_more flows numbers q caps k at cap here own long inside is capping = record {
  this = λ c lt e. elim (cases_eq c at) [
    | inl same ↦
        let new : get_or (set caps at cap) c 0 ≡ cap = ap (λ j. get_or (set caps at cap) j 0) same ∙ get_or-set_same caps at cap 0 (omega (arith, long, inside)) in
        let old : get_or caps at 0 ≡ get_or caps c 0 = ap (λ j. get_or caps j 0) (sym same) in
        omega (arith, new, is, old, capping.this c lt e, greatest_at (flow_cap flows numbers c) k, flow_some flows numbers c k (sym here ∙ sym same))
    | inr other ↦
        omega (
          arith,
          get_or-set_other caps at c cap 0 other,
          capping.this c lt e,
          greatest_at (flow_cap flows numbers c) k,
          flow_none flows numbers c k (λ same. other (sym same ∙ sym here)),
        )
  ];
  others = λ c lt other. get_or-set_other caps at c cap 0 (λ same. other (ap (number_at numbers) (same ∙ here) ∙ own)) ∙ capping.others c lt other;
}

-- the loads of the two ports of a flow of the class give its cap
pub cap_is : (flows : List Flow) (numbers : List ℕ) (q f a b : ℕ) → number_at numbers (coflow_of flows f) ≡ q →
    a ≡ load_of_all flows (up_to_class (coflows_of numbers) (number_at numbers) q) (ingress_port flows f) →
    b ≡ load_of_all flows (up_to_class (coflows_of numbers) (number_at numbers) q) (egress_port flows f) →
    a + b - units_of flows f ≡ cap_of_flow flows (coflows_of numbers) (number_at numbers) f
cap_is flows numbers q f a b own ea eb =
    let of = λ (port : Port). ap (λ n. load_of_all flows (up_to_class (coflows_of numbers) (number_at numbers) n) port) own in
    omega (arith, ea, eb, of (ingress_port flows f), of (egress_port flows f))

-- a flow of the class is part of the load of its ingress port
pub own_load : (flows : List Flow) (numbers : List ℕ) (q f : ℕ) → All (λ (x : Flow). x.coflow < length numbers) flows → f < length flows →
    number_at numbers (coflow_of flows f) ≡ q →
    units_of flows f ≤ load_of_all flows (up_to_class (coflows_of numbers) (number_at numbers) q) (ingress_port flows f)
own_load flows numbers q f known lt own =
    let p = λ (c : ℕ). nat_le (number_at numbers c) q in
    let port = ingress_port flows f in
    omega (
      arith,
      load_chosen flows p (length numbers) port known,
      get_or-le-sum_by (chosen_units p port) flows f (record { coflow = 0; ingress = 0; egress = 0; units = 0 }) lt,
      chosen_yes p port (flow_at flows f) (le-leb (number_at numbers (coflow_of flows f)) q (omega (arith, own))) (eq-eqb (ingress_of flows f) (ingress_of flows f) refl),
    )

-- what is up to a class is below the next one
test_next : (a q : ℕ) → nat_le a q ≡ nat_lt a (q + 1)
test_next a q = elim (cases_lt q a) [
  | inl more ↦ lt-leb a q more ∙ sym (le-ltb a (q + 1) (omega (arith, more)))
  | inr le ↦ le-leb a q le ∙ sym (lt-ltb a (q + 1) (omega (arith, le)))
]

pub loads_next : (flows : List Flow) (numbers : List ℕ) (q : ℕ) (side : Side) (loads : List ℕ) → All (λ (x : Flow). x.coflow < length numbers) flows →
    HasLoadsUpTo flows numbers q side loads → HasLoadsBelow flows numbers (q + 1) side loads
loads_next flows numbers q side loads known up p lt =
    let port = port_on side p in
    let le = λ (c : ℕ). nat_le (number_at numbers c) q in
    let below = λ (c : ℕ). nat_lt (number_at numbers c) (q + 1) in
    let same = sum_same (chosen_units le port) (chosen_units below port) flows (λ x has. ap (λ b. cond (b && uses port x) x.units 0) (test_next (number_at numbers x.coflow) q)) in
    omega (arith, up p lt, same, load_chosen flows le (length numbers) port known, load_chosen flows below (length numbers) port known)

pub caps_next : (flows : List Flow) (numbers : List ℕ) (q : ℕ) (caps : List ℕ) → HasCapsUpTo flows numbers q caps → HasCapsBelow flows numbers (q + 1) caps
caps_next flows numbers q caps up c lt =
    up c lt ∙ ap (λ b. cond b (cap_of_coflow flows (coflows_of numbers) (number_at numbers) c) 0) (test_next (number_at numbers c) q)

-- no class is below the first
pub no_loads : (flows : List Flow) (numbers : List ℕ) (side : Side) (loads : List ℕ) (classes : ℕ) → All (λ (x : Flow). x.coflow < length numbers) flows →
    All (λ q. (1 ≤ q) × (q ≤ classes)) numbers → All (λ n. n ≡ 0) loads → HasLoadsBelow flows numbers 1 side loads
no_loads flows numbers side xs classes known within empty p lt =
    let port = port_on side p in
    let below = λ (c : ℕ). nat_lt (number_at numbers c) 1 in
    let none = sum_same (chosen_units below port) (λ (x : Flow). 0) flows
    (λ x has. chosen_no below port x (le-ltb (number_at numbers x.coflow) 1 (within x.coflow 0 (All-contains (λ (y : Flow). y.coflow < length numbers) flows x known has)).0)) in
    omega (arith, empty p 0 lt, load_chosen flows below (length numbers) port known, none, sum_zero {X = Flow} flows)

pub no_caps : (flows : List Flow) (numbers caps : List ℕ) (classes : ℕ) → All (λ q. (1 ≤ q) × (q ≤ classes)) numbers → length caps ≡ length numbers → All (λ n. n ≡ 0) caps →
    HasCapsBelow flows numbers 1 caps
no_caps flows numbers caps classes within long empty c lt =
    empty c 0 (omega (arith, long, lt)) ∙
    sym (ap (λ b. cond b (cap_of_coflow flows (coflows_of numbers) (number_at numbers) c) 0) (le-ltb (number_at numbers c) 1 (within c 0 lt).0))

-- after the last class each coflow has its cap
pub all_caps : (flows : List Flow) (numbers caps : List ℕ) (n classes c : ℕ) → All (λ q. (1 ≤ q) × (q ≤ classes)) numbers → classes < n → HasCapsBelow flows numbers n caps →
    c < length numbers → get_or caps c 0 ≡ cap_of_coflow flows (coflows_of numbers) (number_at numbers) c
all_caps flows numbers caps n classes c within end below lt =
    below c lt ∙ ap (λ b. cond b (cap_of_coflow flows (coflows_of numbers) (number_at numbers) c) 0) (lt-ltb (number_at numbers c) n (omega (arith, (within c 0 lt).1, end)))

-- caps are at most the loads of two ports
greatest_below : (value : ℕ → ℕ) (most : ℕ) (xs : List ℕ) → ((x : ℕ) → value x ≤ most) → greatest value xs ≤ most
greatest_below value most [] small = omega arith
greatest_below value most (x ∷ xs) small = omega (arith, small x, greatest_below value most xs small)

pub cap_within : (flows : List Flow) (numbers : List ℕ) (c : ℕ) → All (λ (x : Flow). x.coflow < length numbers) flows → sum_by (λ (x : Flow). x.units) flows ≤ 1099511627776 →
    cap_of_coflow flows (coflows_of numbers) (number_at numbers) c ≤ 2199023255552
cap_within flows numbers c known few = greatest_below (flow_cap flows numbers c) 2199023255552 (range_with_len 0 (length flows)) (λ f.
    let p = λ (d : ℕ). nat_le (number_at numbers d) (number_at numbers (coflow_of flows f)) in
    omega (
      arith,
      few,
      cond_less (coflow_of flows f == c) (cap_of_flow flows (coflows_of numbers) (number_at numbers) f),
      load_within flows p (length numbers) (ingress_port flows f) known,
      load_within flows p (length numbers) (egress_port flows f) known,
    ))

-- a sum of products fits
pub part_fits : (a b : ℕ) → a < 18446744073709551616 → b ≤ 2199023255552 → a * b ≤ 40564819207303340847894502572032
part_fits a b la lb = omega (arith, mul-le-mul_left a lb, la)

pub parts_fit : (w : ℕ → ℕ) (n : ℕ) → ((c : ℕ) → w c ≤ 40564819207303340847894502572032) → sum_by w (range_with_len 0 n) ≤ n * 40564819207303340847894502572032
parts_fit w zero small = omega arith
parts_fit w (suc n) small = omega (arith, range_sum w 0 n, parts_fit w n small, small (0 + n))

-- the number at a place is within what bounds each
pub small_at : (xs : List ℕ) (i most : ℕ) → All (λ n. n ≤ most) xs → get_or xs i 0 ≤ most
small_at xs i most small = elim (cases_lt i (length xs)) [
  | inl lt ↦ small i 0 lt
  | inr le ↦ omega (arith, get_or_past xs i 0 le)
]

pub sum_more : (w : ℕ → ℕ) (k total a b : ℕ) → total ≡ sum_by w (range_with_len 0 k) → a * b ≡ w k → total + a * b ≡ sum_by w (range_with_len 0 (k + 1))
sum_more w k total a b is e = omega (arith, is, e, sum_next w k)

pub product : (a b x y : ℕ) → a ≡ x → b ≡ y → a * b ≡ x * y
product a b x y ea eb = ap (λ n. n * b) ea ∙ ap (λ n. x * n) eb

pub total_fits : (w : ℕ → ℕ) (k total part : ℕ) → k ≤ 4096 → ((c : ℕ) → w c ≤ 40564819207303340847894502572032) → total ≡ sum_by w (range_with_len 0 k) →
    part ≤ 40564819207303340847894502572032 → total + part < 340282366920938463463374607431768211456
total_fits w k total part few small is one = omega (arith, is, parts_fit w k small, one, few)

-- the caps that were written sum to the cap
pub summed : (flows : List Flow) (numbers caps : List ℕ) (w : ℕ → ℕ) →
    ((c : ℕ) → c < length numbers → get_or caps c 0 ≡ cap_of_coflow flows (coflows_of numbers) (number_at numbers) c) →
    sum_by (λ c. w c * get_or caps c 0) (coflows_of numbers) ≡ sum_by (λ c. w c * cap_of_coflow flows (coflows_of numbers) (number_at numbers) c) (coflows_of numbers)
summed flows numbers caps w are = sum_same (λ c. w c * get_or caps c 0) (λ c. w c * cap_of_coflow flows (coflows_of numbers) (number_at numbers) c) (coflows_of numbers)
    (λ c has. ap (λ n. w c * n) (are c (omega (arith, number_below 0 (length numbers) c has))))

pub caps_small : (flows : List Flow) (numbers caps : List ℕ) → All (λ (x : Flow). x.coflow < length numbers) flows → sum_by (λ (x : Flow). x.units) flows ≤ 1099511627776 →
    length caps ≡ length numbers → ((c : ℕ) → c < length numbers → get_or caps c 0 ≡ cap_of_coflow flows (coflows_of numbers) (number_at numbers) c) →
    All (λ n. n ≤ 2199023255552) caps
caps_small flows numbers caps known few long are k d lt = omega (arith, get_or_default caps k d 0 lt, are k (omega (arith, lt, long)), cap_within flows numbers k known few)

pub zeros : (n : ℕ) → All (λ (m : ℕ). m ≡ 0) (replicate n 0)
zeros zero k d lt = absurd (omega arith)
zeros (suc n) zero d lt = refl
zeros (suc n) (suc k) d lt = zeros n k d (omega arith)
