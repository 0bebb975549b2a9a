-- The flows of a coflow from an ingress, target after target.
use Rattle.std.proofs.Common.{◌≡◌, ◌≢◌, ℕ, ◌+◌, ◌-◌, ◌*◌, ◌^◌, ◌<◌, ◌≤◌, ◌⊎◌, inl, inr, List, [], ◌∷◌, ◌++◌, get_or, length, sym, ap, subst, ◌∙◌, arith, zero, suc}
use Rattle.std.specs.Prelude.{All, ◌==◌}
use Rattle.std.specs.List.Sorted.{IsNonDecreasingBy}
use Rattle.std.proofs.lemmas.Bool.{cases_eq, cases_lt, ne_eqb}
use Rattle.std.proofs.lemmas.List.{get_or_default, length_push}
use Rattle.std.proofs.lemmas.List.Elements.{All-cons}
use Rattle.coflow_units.specs.declared.fabric.Flow.{Flow}
use Rattle.coflow_units.proofs.Sums.{sum_zero}
use Rattle.flow_table.specs.declared.spots.Spot.{Spot}
use Rattle.flow_table.specs.declared.targets.Target.{Target}
use Rattle.flow_table.specs.FlowsOf.{HaveUnitsBefore, IsTooMany}
use Rattle.flow_table.specs.Spots.{pairs, spots_at}
use Rattle.flow_table.specs.Targets.{AreTargets, SendsTo, own_rests}
use Rattle.flow_table.proofs.FlowSteps.{later_ingress, next_coflow, next_egress, next_ingress, push}
use Rattle.flow_table.proofs.FlowsOne.{front_is_short}
use Rattle.flow_table.proofs.SpotSteps.{StandsAt, none_between, none_past, none_pass, reaches}

abbrev none : Target
none = record { egress = 0; whole = 0; first = 0; end = 0 }

abbrev target_at : List Target → ℕ → Target
target_at targets t = get_or targets t none

abbrev egress_at : List Target → ℕ → ℕ
egress_at targets t = (target_at targets t).egress

-- the flows so far, up to an egress that lies behind the targets that were looked at
pub record RowSoFar (sends : ℕ → ℕ → ℕ → ℕ) (c i : ℕ) (targets : List Target) (k : ℕ) (flows : List Flow) : Type 0 where
  pub upto : ℕ
  pub before : HaveUnitsBefore sends c i upto flows
  pub done : (t : ℕ) → t < k → t < length targets → egress_at targets t < upto
  pub left : (t : ℕ) → k ≤ t → t < length targets → upto ≤ egress_at targets t

module _ (sends : ℕ → ℕ → ℕ → ℕ) (c i : ℕ) (places rests : List Spot) (targets : List Target) (are : AreTargets rests targets) (to : SendsTo (sends c i) places targets rests) where
  at_default : (t : ℕ) (d : Target) → t < length targets → (get_or targets t d).egress ≡ egress_at targets t
  at_default t d lt = ap (λ (y : Target). y.egress) (get_or_default targets t d none lt)

  -- what was computed for a target is what is sent to it
  pub units_are : (k units : ℕ) → k < length targets → units ≡ (target_at targets k).whole * length places + pairs places (own_rests rests (target_at targets k)) →
      sends c i (egress_at targets k) ≡ units
  units_are k units lt e = to.to k none lt ∙ ap (λ l. (target_at targets k).whole * length places + pairs places l) (sym (are.own k none lt)) ∙ sym e

  rise : (t n : ℕ) → t + n < length targets → egress_at targets t ≤ egress_at targets (t + n)
  rise t zero lt = let e : t + 0 ≡ t = omega arith in omega (arith, ap (egress_at targets) e)
  rise t (suc n) lt =
      let e : t + suc n ≡ t + n + 1 = omega arith in
      omega (arith, ap (egress_at targets) e, rise t n (omega arith), are.ascending (t + n) none (omega arith))

  rise_to : (t t' : ℕ) → t ≤ t' → t' < length targets → egress_at targets t ≤ egress_at targets t'
  rise_to t t' le lt = let e : t + (t' - t) ≡ t' = omega arith in omega (arith, ap (egress_at targets) e, rise t (t' - t) (omega arith))

  module _ (k : ℕ) (flows : List Flow) (h : RowSoFar sends c i targets k flows) where
    -- nothing is sent between the targets
    between : (z : ℕ) → h.upto ≤ z → ((t : ℕ) → k ≤ t → t < length targets → z < egress_at targets t) → sends c i z ≡ 0
    between z low high = to.elsewhere z (λ t d lt. apart t d lt)
      where
        apart : (t : ℕ) (d : Target) → t < length targets → (get_or targets t d).egress ≢ z
        apart t d lt = elim (cases_lt t k) [
          | inl less ↦ λ same. omega (arith, h.done t less lt, at_default t d lt, same)
          | inr from ↦ λ same. omega (arith, high t from lt, at_default t d lt, same)
        ]

    pub row_end : length targets ≤ k → HaveUnitsBefore sends c (i + 1) 0 flows
    row_end all = next_ingress sends c i h.upto flows h.before (λ z low. between z low (λ t from lt. absurd (omega arith)))

    module _ (lt : k < length targets) where
      at_target : HaveUnitsBefore sends c i (egress_at targets k) flows
      at_target = next_egress sends c i h.upto flows h.before (egress_at targets k) (h.left k (omega arith) lt)
          (λ z low high. between z low (λ t from t<. omega (arith, rise_to k t from t<)))

      done_next : (t : ℕ) → t < k + 1 → t < length targets → egress_at targets t < egress_at targets k + 1
      done_next t less t< = omega (arith, rise_to t k (omega arith) lt)

      left_next : (t : ℕ) → k + 1 ≤ t → t < length targets → egress_at targets k + 1 ≤ egress_at targets t
      left_next t from t< = omega (arith, rise_to (k + 1) t from t<, are.ascending k none (omega arith))

      -- the next target gets nothing
      pub row_skip : sends c i (egress_at targets k) ≡ 0 → RowSoFar sends c i targets (k + 1) flows
      row_skip nought = record {
        upto = egress_at targets k + 1;
        before = next_egress sends c i (egress_at targets k) flows at_target (egress_at targets k + 1) (omega arith) (λ z low high. let e : z ≡ egress_at targets k = omega arith in
            ap (sends c i) e ∙ nought);
        done = done_next;
        left = left_next;
      }

      -- the next target gets a flow
      pub row_push : (units : ℕ) → 1 ≤ units → sends c i (egress_at targets k) ≡ units →
          RowSoFar sends c i targets (k + 1) (flows ++ record { coflow = c; ingress = i; egress = egress_at targets k; units = units } ∷ [])
      row_push units some is = record {
        upto = egress_at targets k + 1;
        before = push sends c i (egress_at targets k) flows at_target units some is;
        done = done_next;
        left = left_next;
      }

      -- there is no room for the next flow
      pub row_full : (units : ℕ) → 1 ≤ units → sends c i (egress_at targets k) ≡ units → length flows ≡ 2 ^ 20 → IsTooMany sends
      row_full units some is full = λ all has.
          let flow : Flow = record { coflow = c; ingress = i; egress = egress_at targets k; units = units } in
          omega (
            arith,
            front_is_short sends c i (egress_at targets k + 1) (flows ++ flow ∷ []) all (push sends c i (egress_at targets k) flows at_target units some is) has,
            length_push flows flow,
          )

-- an egress is a target's or not
is_target : (targets : List Target) (e : ℕ) → ((t : ℕ) × (t < length targets) × ((d : Target) → (get_or targets t d).egress ≡ e)) ⊎ All (λ (t : Target). t.egress ≢ e) targets
is_target [] e = inr (λ t d lt. absurd (omega arith))
is_target (x ∷ xs) e = elim (cases_eq x.egress e) [
  | inl same ↦ inl (0, omega arith, λ d. same)
  | inr other ↦ elim (is_target xs e) [
    | inl found ↦ inl (suc found.0, omega (arith, found.1), found.2)
    | inr not ↦ inr (All-cons (λ (t : Target). t.egress ≢ e) x xs other not)
  ]
]

-- where no mapper is, nothing is sent
pub no_places : (row : ℕ → ℕ) (targets : List Target) (rests : List Spot) → SendsTo row [] targets rests → (e : ℕ) → row e ≡ 0
no_places row targets rests to e = elim (is_target targets e) [
  | inl found ↦
      let t = target_at targets found.0 in
      let here : row t.egress ≡ t.whole * 0 + pairs [] (spots_at rests t.egress) = to.to found.0 none found.1 in
      let nothing : pairs [] (spots_at rests t.egress) ≡ 0 = sum_zero (spots_at rests t.egress) in
      let nought : row t.egress ≡ 0 = omega (arith, here, nothing) in
      ap row (sym (found.2 none)) ∙ nought
  | inr other ↦ to.elsewhere e other
]

-- the same of all mappers, where none is at the ingress
pub nothing_from : (row : ℕ → ℕ) (places rests : List Spot) (targets : List Target) (i : ℕ) →
    ((s : ℕ) (d : Spot) → s < length places → (get_or places s d).location ≡ i → ⊥) → SendsTo row (spots_at places i) targets rests → (e : ℕ) → row e ≡ 0
nothing_from row places rests targets i out to e =
    let empty : spots_at places i ≡ [] = none_pass (λ (s : Spot). s.location == i) places (λ s d lt. ne_eqb (get_or places s d).location i (out s d lt)) in
    no_places row targets rests (subst (λ l. SendsTo row l targets rests) empty to) e

-- to the ingress of the next mapper
pub row_begins : (sends : ℕ → ℕ → ℕ → ℕ) (c i first : ℕ) (places rests : List Spot) (targets : List Target) (x : Spot) (flows : List Flow) →
    IsNonDecreasingBy (λ (s : Spot). s.location) places → StandsAt places i first → first < length places → x ≡ get_or places first x →
    ((k : ℕ) → SendsTo (sends c k) (spots_at places k) targets rests) → HaveUnitsBefore sends c i 0 flows → HaveUnitsBefore sends c x.location 0 flows
row_begins sends c i first places rests targets x flows up at lt is to before =
    let n = x.location - i in
    let e : i + n ≡ x.location = omega (arith, reaches places i first x at lt is) in
    subst (λ k. HaveUnitsBefore sends c k 0 flows) e (later_ingress sends c i n flows before
    (λ k z low high. nothing_from (sends c k) places rests targets k (none_between places i first x up at lt is k low (omega (arith, high, e))) (to k) z))

-- past the last mapper
pub rows_end : (sends : ℕ → ℕ → ℕ → ℕ) (c i first : ℕ) (places rests : List Spot) (targets : List Target) (flows : List Flow) → StandsAt places i first → length places ≤ first →
    ((k : ℕ) → SendsTo (sends c k) (spots_at places k) targets rests) → HaveUnitsBefore sends c i 0 flows → HaveUnitsBefore sends (c + 1) 0 0 flows
rows_end sends c i first places rests targets flows at end to before =
    next_coflow sends c i flows before (λ k z from. nothing_from (sends c k) places rests targets k (none_past places i first at end k from) (to k) z)
