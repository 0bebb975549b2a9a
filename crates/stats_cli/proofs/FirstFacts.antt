-- A schedule without a first fault is valid.
use Rattle.std.proofs.Common.{◌≡◌, ◌≢◌, ℕ, ◌+◌, ◌-◌, ◌≤◌, ◌<◌, inl, inr, List, [], length, get_or, refl, sym, subst, arith, zero, suc, Contains}
use Rattle.std.specs.Prelude.{All}
use Rattle.std.specs.List.Sorted.{IsStrictlyIncreasing}
use Rattle.std.proofs.lemmas.Bool.{cases_eq, cases_lt, eq-eqb}
use Rattle.std.proofs.lemmas.List.{get_or_default}
use Rattle.std.proofs.lemmas.List.Elements.{Contains-get_or}
use Rattle.coflow_units.specs.declared.fabric.Flow.{Flow}
use Rattle.coflow_units.specs.declared.fabric.Port.{Port}
use Rattle.coflow_units.specs.declared.fabric.Side.{Side}
use Rattle.coflow_units.specs.declared.fabric.Side.TheVariants.{Egress, Ingress}
use Rattle.coflow_units.specs.Flows.{SharesPort, end_at, flow_at, units_of}
use Rattle.coflow_units.specs.Schedule.{IsClear, times}
use Rattle.schedule_model.specs.Fault.{ClashesAt, IsFirstClash, IsFirstMiscount, IsFirstNoFlow, IsNoLater, StandsIn}
use Rattle.schedule_model.specs.RunList.{NamesFlows}

-- what holds of no least number holds of none
module _ (P : ℕ → Type 0) (no_least : (n : ℕ) → P n → ((m : ℕ) → m < n → P m → ⊥) → ⊥) where
  none_below : (n m : ℕ) → m < n → P m → ⊥
  none_below zero m lt p = omega arith
  none_below (suc n) m lt p = no_least m p (λ k less q. none_below n k (omega (arith, lt, less)) q)

  pub none_at_all : (m : ℕ) → P m → ⊥
  none_at_all m p = none_below (suc m) m (omega arith) p

module _ (flows : List Flow) (slots : List (List ℕ)) where
  abbrev port : Side → ℕ → Port
  port s n = record { side = s; number = n }

  -- ---- numbers that are no flow's

  record Stranger (slot f : ℕ) : Type 0 where
    stands : StandsIn slots slot f
    beyond : length flows ≤ f

  first_stranger : (slot f : ℕ) → Stranger slot f → ((m : ℕ) → m < slot → (g : ℕ) → Stranger m g → ⊥) → ((g : ℕ) → g < f → Stranger slot g → ⊥) →
      IsFirstNoFlow flows slots slot f
  first_stranger slot f here before less = record {
    stands = here.stands;
    no_flow = here.beyond;
    first = λ t g stands beyond. elim (cases_lt slot t) [
      | inl later ↦ inl later
      | inr upto ↦ elim (cases_lt t slot) [
        | inl earlier ↦ absurd (before t earlier g (record { stands = stands; beyond = beyond }))
        | inr from ↦
            let e : t ≡ slot = omega arith in
            elim (cases_lt g f) [
              | inl lower ↦ absurd (less g lower (record { stands = subst (λ n. StandsIn slots n g) e stands; beyond = beyond }))
              | inr le ↦ inr (sym e, le)
            ]
      ]
    ];
  }

  no_strangers : ((slot f : ℕ) → IsFirstNoFlow flows slots slot f → ⊥) → (slot f : ℕ) → Stranger slot f → ⊥
  no_strangers never slot f here =
      none_at_all (λ s. (g : ℕ) × Stranger s g)
      (λ s (g, is) before. none_at_all (Stranger s) (λ h stranger less. never s h (first_stranger s h stranger (λ m lt k other. before m lt (k, other)) less)) g is) slot (f, here)

  -- a number of a slot stands in it
  in_slot : (k : ℕ) (f : ℕ) → k < length slots → Contains (get_or slots k []) f → StandsIn slots (k + 1) f
  in_slot k f lt has = record {
    counted = omega arith;
    inside = omega (arith, lt);
    has = let e : k ≡ k + 1 - 1 = omega arith in subst (λ n. Contains (get_or slots n []) f) e has;
  }

  pub names_flows : ((slot f : ℕ) → IsFirstNoFlow flows slots slot f → ⊥) → NamesFlows (length flows) slots
  names_flows never k d lt j x inside =
      let slot : List ℕ = get_or slots k d in
      let f : ℕ = get_or slot j x in
      let same : get_or slots k d ≡ get_or slots k [] = get_or_default slots k d [] lt in
      elim (cases_lt f (length flows)) [
        | inl below ↦ below
        | inr beyond ↦
            let has : Contains (get_or slots k []) f = subst (λ (l : List ℕ). Contains l f) same (Contains-get_or slot j x inside) in
            absurd (no_strangers never (k + 1) f (record { stands = in_slot k f lt has; beyond = beyond }))
      ]

  -- ---- clashes

  -- the first port of the slot, where none clashes in a slot before
  abbrev NoneBefore : ℕ → Type 0
  NoneBefore slot = (m : ℕ) → m < slot → (p : Port) → ClashesAt flows slots m p → ⊥

  first_clash : (names : NamesFlows (length flows) slots) (slot : ℕ) (p : Port) → ClashesAt flows slots slot p → NoneBefore slot →
      ((other : Port) → ClashesAt flows slots slot other → IsNoLater p other) → IsFirstClash flows slots slot p
  first_clash names slot p here before least = record {
    names = names;
    clashes = here;
    first = λ t other clash. elim (cases_lt slot t) [
      | inl later ↦ inl later
      | inr upto ↦ elim (cases_lt t slot) [
        | inl earlier ↦ absurd (before t earlier other clash)
        | inr from ↦
            let e : t ≡ slot = omega arith in
            inr (sym e, least other (subst (λ n. ClashesAt flows slots n other) e clash))
      ]
    ];
  }

  abbrev At : ℕ → Side → ℕ → Type 0
  At slot side n = ClashesAt flows slots slot (port side n)

  at_most : (slot : ℕ) (side : Side) (n m : ℕ) → ((k : ℕ) → k < n → At slot side k → ⊥) → At slot side m → n ≤ m
  at_most slot side n m less clash = elim (cases_lt m n) [
    | inl lower ↦ absurd (less m lower clash)
    | inr le ↦ le
  ]

  module _ (names : NamesFlows (length flows) slots) (never : (slot : ℕ) (p : Port) → IsFirstClash flows slots slot p → ⊥) (slot : ℕ) (before : NoneBefore slot) where
    no_ingress : (n : ℕ) → At slot Ingress n → ⊥
    no_ingress n clash =
        none_at_all (At slot Ingress) (λ k here less. never slot (port Ingress k) (first_clash names slot (port Ingress k) here before (least k less))) n clash
      where
        least : (k : ℕ) → ((m : ℕ) → m < k → At slot Ingress m → ⊥) → (other : Port) → ClashesAt flows slots slot other → IsNoLater (port Ingress k) other
        least k less other = by other.side other.number
          where
            by : (side : Side) (m : ℕ) → At slot side m → IsNoLater (port Ingress k) (port side m)
            by Ingress m at = at_most slot Ingress k m less at
            by Egress m at = tt

    no_egress : (n : ℕ) → At slot Egress n → ⊥
    no_egress n clash =
        none_at_all (At slot Egress) (λ k here less. never slot (port Egress k) (first_clash names slot (port Egress k) here before (least k less))) n clash
      where
        least : (k : ℕ) → ((m : ℕ) → m < k → At slot Egress m → ⊥) → (other : Port) → ClashesAt flows slots slot other → IsNoLater (port Egress k) other
        least k less other = by other.side other.number
          where
            by : (side : Side) (m : ℕ) → At slot side m → IsNoLater (port Egress k) (port side m)
            by Ingress m at = absurd (no_ingress m at)
            by Egress m at = at_most slot Egress k m less at

    no_port : (side : Side) (n : ℕ) → At slot side n → ⊥
    no_port Ingress n at = no_ingress n at
    no_port Egress n at = no_egress n at

  no_clashes : NamesFlows (length flows) slots → ((slot : ℕ) (p : Port) → IsFirstClash flows slots slot p → ⊥) → (slot : ℕ) (p : Port) → ClashesAt flows slots slot p → ⊥
  no_clashes names never slot p clash =
      none_at_all (λ s. (q : Port) × ClashesAt flows slots s q) (λ s (q, is) before. no_port names never s (λ m lt k other. before m lt (k, other)) q.side q.number is) slot
      (p, clash)

  clashing : (slot f g : ℕ) (side : Side) → f ≢ g → StandsIn slots slot f → StandsIn slots slot g → end_at side (flow_at flows f) ≡ end_at side (flow_at flows g) →
      At slot side (end_at side (flow_at flows f))
  clashing slot f g side apart f_in g_in same = record {
    one = f;
    other = g;
    apart = apart;
    one_stands = f_in;
    other_stands = g_in;
    one_uses = eq-eqb (end_at side (flow_at flows f)) (end_at side (flow_at flows f)) refl;
    other_uses = eq-eqb (end_at side (flow_at flows g)) (end_at side (flow_at flows f)) (sym same);
  }

  module _ (names : NamesFlows (length flows) slots) (never : (slot : ℕ) (p : Port) → IsFirstClash flows slots slot p → ⊥) where
    apart_at : (k f g : ℕ) → k < length slots → Contains (get_or slots k []) f → Contains (get_or slots k []) g → SharesPort flows f g → f ≡ g
    apart_at k f g lt has also shares = elim (cases_eq f g) [
      | inl same ↦ same
      | inr apart ↦ absurd (by apart shares)
    ]
      where
        by : f ≢ g → SharesPort flows f g → ⊥
        by apart (inl e) = no_clashes names never (k + 1) (port Ingress _) (clashing (k + 1) f g Ingress apart (in_slot k f lt has) (in_slot k g lt also) e)
        by apart (inr e) = no_clashes names never (k + 1) (port Egress _) (clashing (k + 1) f g Egress apart (in_slot k f lt has) (in_slot k g lt also) e)

    pub clear_slots : All IsStrictlyIncreasing slots → All (IsClear flows) slots
    clear_slots up k d lt =
        let same : get_or slots k d ≡ get_or slots k [] = get_or_default slots k d [] lt in
        let within : (x : ℕ) → Contains (get_or slots k d) x → Contains (get_or slots k []) x = λ x has. subst (λ (l : List ℕ). Contains l x) same has in
        record {
          ascending = up k d lt;
          flow = names k d lt;
          apart = λ f g has also shares. apart_at k f g lt (within f has) (within g also) shares;
        }

  -- ---- units

  record Miscounted (f : ℕ) : Type 0 where
    known : f < length flows
    differ : times slots f ≢ units_of flows f

  first_miscount : (clear : All (IsClear flows) slots) (f : ℕ) → Miscounted f → ((g : ℕ) → g < f → Miscounted g → ⊥) →
      IsFirstMiscount flows slots f (times slots f) (units_of flows f)
  first_miscount clear f here less = record {
    clear = clear;
    flow = here.known;
    stands_in = refl;
    wants = refl;
    differ = here.differ;
    first = λ g lt. elim (cases_eq (times slots g) (units_of flows g)) [
      | inl same ↦ same
      | inr differ ↦ absurd (less g lt (record { known = omega (arith, lt, here.known); differ = differ }))
    ];
  }

  pub all_served : All (IsClear flows) slots → ((f have want : ℕ) → IsFirstMiscount flows slots f have want → ⊥) → (f : ℕ) → f < length flows → times slots f ≡ units_of flows f
  all_served clear never f lt = elim (cases_eq (times slots f) (units_of flows f)) [
    | inl same ↦ same
    | inr differ ↦
        absurd (none_at_all Miscounted (λ g here less. never g (times slots g) (units_of flows g) (first_miscount clear g here less)) f
        (record { known = lt; differ = differ }))
  ]
