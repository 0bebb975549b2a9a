-- Flows that wait well, by the least places at their ports.
use Rattle.std.proofs.Common.{◌≡◌, ℕ, cond, ◌+◌, ◌-◌, ◌≤◌, ◌<◌, ◌⊎◌, inl, inr, List, [], ◌∷◌, ◌++◌, length, get_or, set, take, map, min, replicate, refl, sym, ap, subst, ◌∙◌}
use Rattle.std.proofs.Common.{arith, le_refl}
use Rattle.std.specs.Prelude.{All, ◌↔◌, ◌==◌, not}
use Rattle.std.proofs.lemmas.List.{get_or-map, get_or-set_same, get_or-set_other, get_or_append_left, get_or-append_right, get_or-replicate, get_or_at, length-append}
use Rattle.std.proofs.lemmas.List.{length-replicate, take-append-le, take-take, take_at}
use Rattle.std.proofs.lemmas.List.Elements.{All-contains}
use Rattle.std.proofs.lemmas.List.Sums.{prefix_len-le-length, sum_by-take-le}
use Rattle.std.proofs.lemmas.Bool.{cases_eq, cases_lt}
use Rattle.coflow_units.specs.declared.fabric.Flow.{Flow}
use Rattle.coflow_units.specs.declared.fabric.Side.{Side}
use Rattle.coflow_units.specs.declared.fabric.Side.TheVariants.{Ingress, Egress}
use Rattle.coflow_units.specs.Flows.{coflow_of, egress_of, ingress_of, units_of}
use Rattle.coflow_units.specs.Grants.{place_in}
use Rattle.coflow_units.specs.Schedule.{holds, times}
use Rattle.coflow_units.specs.Patient.{IsPatient, IsServedOrWaits}
use Rattle.schedule_model.specs.Repeat.{end_number}
use Rattle.schedule_model.specs.Waiting.{ServesBy}
use Rattle.coflow_units.proofs.LinePlaces.{place_is}
use Rattle.schedule_model.proofs.RepeatSteps.{in_earlier, in_here, in_more}

-- places of flows
pub place_at : (flows : List Flow) (order places : List ℕ) (f : ℕ) → places ≡ map (λ (x : Flow). place_in order x.coflow) flows → f < length flows →
    get_or places f 0 ≡ place_in order (coflow_of flows f)
place_at flows order places f is lt =
    ap (λ (xs : List ℕ). get_or xs f 0) is ∙ get_or-map (λ (x : Flow). place_in order x.coflow) flows f record { coflow = 0; ingress = 0; egress = 0; units = 0 } 0 lt

pub place_most : (order : List ℕ) (c : ℕ) → place_in order c ≤ length order
place_most order c = omega (arith, place_is order c, prefix_len-le-length (λ x. not (x == c)) order)

-- the least places with one flow more
serves_earlier : (flows : List Flow) (places slot : List ℕ) (side : Side) (k p m : ℕ) → k < length slot → ServesBy flows places side (take k slot) p m →
    ServesBy flows places side (take (k + 1) slot) p m
serves_earlier flows places slot side k p m lt (g, has, at, le) = (g, in_earlier slot k g lt has, at, le)

least_at_most : (a b m : ℕ) → min a b ≤ m → (a ≤ m) ⊎ (b ≤ m)
least_at_most a b m le = grind arith

within_first : (a b m : ℕ) → a ≤ m → min a b ≤ m
within_first a b m le = grind arith

within_second : (a b m : ℕ) → b ≤ m → min a b ≤ m
within_second a b m le = grind arith

pub least_more : (flows : List Flow) (places slot least : List ℕ) (side : Side) (k q p m v : ℕ) → k < length slot → q ≡ end_number flows side (get_or slot k 0) → q < length least →
    v ≡ min (get_or least q 0) (get_or places (get_or slot k 0) 0) →
    ((get_or least p 0 ≤ m) ↔ ServesBy flows places side (take k slot) p m) → ((get_or (set least q v) p 0 ≤ m) ↔ ServesBy flows places side (take (k + 1) slot) p m)
least_more flows places slot least side k q p m v lt e inside is before =
    let x = get_or slot k 0 in
    elim (cases_eq p q) [
      | inl same ↦
          let now : get_or (set least q v) p 0 ≡ min (get_or least p 0) (get_or places x 0) = ap (λ n. get_or (set least q v) n 0) same ∙ get_or-set_same least q v 0 inside ∙ is ∙
          ap (λ n. min (get_or least n 0) (get_or places x 0)) (sym same) in (
            (λ le. elim (least_at_most (get_or least p 0) (get_or places x 0) m (omega (arith, le, now))) [
              | inl old ↦ serves_earlier flows places slot side k p m lt (before.0 old)
              | inr new ↦ (x, in_here slot k lt, sym (same ∙ e), new)
            ]),
            (λ serves. elim (in_more slot k serves.0 lt serves.1) [
              | inl has ↦ omega (arith, now, within_first (get_or least p 0) (get_or places x 0) m (before.1 (serves.0, has, serves.2, serves.3)))
              | inr here ↦ omega (arith, now, within_second (get_or least p 0) (get_or places x 0) m (omega (arith, serves.3, ap (λ n. get_or places n 0) here)))
            ]),
          )
      | inr ne ↦
          let now = get_or-set_other least q p v 0 ne in (
            (λ le. serves_earlier flows places slot side k p m lt (before.0 (omega (arith, le, now)))),
            (λ serves. elim (in_more slot k serves.0 lt serves.1) [
              | inl has ↦ omega (arith, now, before.1 (serves.0, has, serves.2, serves.3))
              | inr here ↦ absurd (ne (sym (e ∙ ap (end_number flows side) here ∙ serves.2)))
            ]),
          )
    ]

-- a table of least places at the ports of a side
abbrev pub IsTable : List Flow → List ℕ → Side → List ℕ → ℕ → List ℕ → Type 0
IsTable flows places side slot none table = (p m : ℕ) → p < length table → m < none → (get_or table p 0 ≤ m) ↔ ServesBy flows places side slot p m

-- from the tables to the flows and back
pub waits_from : (flows : List Flow) (order places slot ingress egress : List ℕ) (f : ℕ) → All (λ g. g < length flows) slot →
    places ≡ map (λ (x : Flow). place_in order x.coflow) flows → f < length flows →
    ingress_of flows f < length ingress → egress_of flows f < length egress → IsTable flows places Ingress slot (length order + 1) ingress →
    IsTable flows places Egress slot (length order + 1) egress →
    (get_or ingress (ingress_of flows f) 0 ≤ get_or places f 0) ⊎ (get_or egress (egress_of flows f) 0 ≤ get_or places f 0) → IsServedOrWaits flows order slot f
waits_from flows order places slot ingress egress f names is lt in_i in_e ti te (inl le) =
    let small : get_or places f 0 < length order + 1 = omega (arith, place_at flows order places f is lt, place_most order (coflow_of flows f)) in
    let (g, has, at, no_more) = (ti (ingress_of flows f) (get_or places f 0) in_i small).0 le in
    inr (g, has, inl at, omega (arith, no_more, place_at flows order places f is lt, place_at flows order places g is (All-contains (λ x. x < length flows) slot g names has)))
waits_from flows order places slot ingress egress f names is lt in_i in_e ti te (inr le) =
    let small : get_or places f 0 < length order + 1 = omega (arith, place_at flows order places f is lt, place_most order (coflow_of flows f)) in
    let (g, has, at, no_more) = (te (egress_of flows f) (get_or places f 0) in_e small).0 le in
    inr (g, has, inr at, omega (arith, no_more, place_at flows order places f is lt, place_at flows order places g is (All-contains (λ x. x < length flows) slot g names has)))

pub waits_to : (flows : List Flow) (order places slot ingress egress : List ℕ) (f : ℕ) → All (λ g. g < length flows) slot →
    places ≡ map (λ (x : Flow). place_in order x.coflow) flows → f < length flows →
    ingress_of flows f < length ingress → egress_of flows f < length egress → IsTable flows places Ingress slot (length order + 1) ingress →
    IsTable flows places Egress slot (length order + 1) egress →
    IsServedOrWaits flows order slot f → (get_or ingress (ingress_of flows f) 0 ≤ get_or places f 0) ⊎ (get_or egress (egress_of flows f) 0 ≤ get_or places f 0)
waits_to flows order places slot ingress egress f names is lt in_i in_e ti te (inl has) =
    let small : get_or places f 0 < length order + 1 = omega (arith, place_at flows order places f is lt, place_most order (coflow_of flows f)) in
    inl ((ti (ingress_of flows f) (get_or places f 0) in_i small).1 (f, has, refl, le_refl (get_or places f 0)))
waits_to flows order places slot ingress egress f names is lt in_i in_e ti te (inr (g, has, shares, le)) =
    let small : get_or places f 0 < length order + 1 = omega (arith, place_at flows order places f is lt, place_most order (coflow_of flows f)) in
    let no_more : get_or places g 0 ≤ get_or places f 0 =
    omega (arith, le, place_at flows order places f is lt, place_at flows order places g is (All-contains (λ x. x < length flows) slot g names has)) in
    elim shares [
      | inl e ↦ inl ((ti (ingress_of flows f) (get_or places f 0) in_i small).1 (g, has, e, no_more))
      | inr e ↦ inr ((te (egress_of flows f) (get_or places f 0) in_e small).1 (g, has, e, no_more))
    ]

-- the slots before t hold the flow no less often than the first of them
times_before : (slots : List (List ℕ)) (n t f : ℕ) → n ≤ t → times (take n slots) f ≤ times (take t slots) f
times_before slots n t f le =
    omega (arith, ap (λ s. times s f) (take-take n t slots le), sum_by-take-le (λ (slot : List ℕ). cond (holds slot f) 1 0) (take t slots) n)

-- a run more: the flows that have units left at its first slot are those that can wait in it
pub patient_more : (flows : List Flow) (order : List ℕ) (before : List (List ℕ)) (h : List ℕ) (n : ℕ) → IsPatient flows order before →
    ((f : ℕ) → f < length flows → times before f < units_of flows f → IsServedOrWaits flows order h f) →
    IsPatient flows order (before ++ replicate n h)
patient_more flows order before h n patient here t f lt in' left = elim (cases_lt t (length before)) [
  | inl early ↦
      let same : take t (before ++ replicate n h) ≡ take t before = take-append-le t before (replicate n h) (omega arith) in
      subst (λ s. IsServedOrWaits flows order s f) (sym (get_or_append_left before (replicate n h) [] t early))
      (patient t f early in' (omega (arith, left, ap (λ s. times s f) same)))
  | inr late ↦
      let first : take (length before) (before ++ replicate n h) ≡ before = take_at before (replicate n h) (length before) refl in
      let some : times before f < units_of flows f = omega (arith, left, times_before (before ++ replicate n h) (length before) t f late, ap (λ s. times s f) first) in
      let inside : t - length before < n = omega (arith, lt, length-append before (replicate n h), length-replicate n h, late) in
      let at : get_or (before ++ replicate n h) t [] ≡ h = get_or-append_right before (replicate n h) (length before) t [] refl late ∙
      get_or-replicate n (t - length before) h [] inside in
      subst (λ s. IsServedOrWaits flows order s f) (sym at) (here f in' some)
]

-- at the first slot of a run
pub patient_here : (flows : List Flow) (order : List ℕ) (before rest : List (List ℕ)) (h : List ℕ) (f : ℕ) → IsPatient flows order (before ++ (h ∷ rest)) → f < length flows →
    times before f < units_of flows f → IsServedOrWaits flows order h f
patient_here flows order before rest h f patient lt left =
    let inside : length before < length (before ++ (h ∷ rest)) = omega (arith, length-append before (h ∷ rest)) in
    let first : take (length before) (before ++ (h ∷ rest)) ≡ before = take_at before (h ∷ rest) (length before) refl in
    subst (λ s. IsServedOrWaits flows order s f) (get_or_at before h rest [] (length before) refl)
    (patient (length before) f inside lt (omega (arith, left, ap (λ s. times s f) first)))
