-- The targets of a coflow, egress by egress.
use Rattle.std.proofs.Common.{◌≡◌, ◌≢◌, ℕ, ◌+◌, ◌/◌, ◌^◌, ◌<◌, ◌≤◌, inl, inr, Bool, true, false, List, [], ◌∷◌, ◌++◌, get_or, length, take, refl, sym, ap, subst, ◌∙◌, arith}
use Rattle.std.specs.Prelude.{All, slice_index, sum_by, ◌==◌, if◌then◌else◌}
use Rattle.std.specs.List.Sorted.{IsNonDecreasingBy}
use Rattle.std.proofs.Math.Nat.{div-le_self}
use Rattle.std.proofs.lemmas.Bool.{cases_lt, cases_order}
use Rattle.std.proofs.lemmas.List.{get_or_append_left, get_or_push, length_push}
use Rattle.std.proofs.lemmas.List.Elements.{All-push, All-weaker}
use Rattle.std.proofs.lemmas.List.Sums.{sum_by-le-sum_by, sum_by_more_le_part}
use Rattle.coflow_units.specs.declared.trace.CoflowLine.{CoflowLine}
use Rattle.coflow_units.specs.declared.trace.Reducer.{Reducer}
use Rattle.flow_table.specs.declared.spots.Spot.{Spot}
use Rattle.flow_table.specs.declared.targets.Target.{Target}
use Rattle.flow_table.specs.Spots.{EndsAt, IsByLocation, spots_at}
use Rattle.flow_table.specs.Targets.{AreTargets, own_rests, whole_to}
use Rattle.flow_table.specs.Units.{units_of_line, units_of_reducer}
use Rattle.flow_table.proofs.Shares.{picked}
use Rattle.flow_table.proofs.SpotSteps.{StandsAt, none_between, none_past, part_at, reaches, stands_here, stands_next}

-- ---- the wholes, reducer by reducer

picked_most : (b : Bool) (m n : ℕ) → m ≤ n → picked b m ≤ n
picked_most true m n le = le
picked_most false m n le = omega arith

pub whole_bound : (unit : ℕ) (x : CoflowLine) (egress : ℕ) → whole_to unit x egress ≤ units_of_line unit x
whole_bound unit x egress =
    sum_by-le-sum_by (λ (r : Reducer). picked (r.location == egress) (units_of_reducer unit r / length x.mappers)) (λ (r : Reducer). units_of_reducer unit r) x.reducers
    (λ r. picked_most (r.location == egress) (units_of_reducer unit r / length x.mappers) (units_of_reducer unit r) (div-le_self (units_of_reducer unit r) (length x.mappers)))

module _ (unit : ℕ) (x : CoflowLine) where
  abbrev whole : Reducer → ℕ
  whole r = units_of_reducer unit r / length x.mappers

  -- what the reducers so far get at an egress
  abbrev pub wholes_upto : ℕ → ℕ → ℕ
  wholes_upto k egress = sum_by (λ (r : Reducer). if r.location == egress then units_of_reducer unit r / length x.mappers else 0) (take k x.reducers)

  pub next_fits : (k : ℕ) (d : Reducer) (egress : ℕ) → k < length x.reducers → wholes_upto k egress + whole (get_or x.reducers k d) ≤ units_of_line unit x
  next_fits k d egress lt =
      let more = sum_by_more_le_part (λ (r : Reducer). picked (r.location == egress) (whole r)) (λ (r : Reducer). units_of_reducer unit r) x.reducers k d lt
      (λ r. picked_most (r.location == egress) (whole r) (units_of_reducer unit r) (div-le_self (units_of_reducer unit r) (length x.mappers))) in
      omega (arith, more, div-le_self (units_of_reducer unit (get_or x.reducers k d)) (length x.mappers))

  -- a whole is added to those before it
  pub whole_fits : (k : ℕ) (d r : Reducer) (ports here units mappers : ℕ) (old : List ℕ) → k < length x.reducers → r ≡ get_or x.reducers k d → r.location < ports →
      here ≡ slice_index old r.location → units ≡ units_of_reducer unit r → mappers ≡ length x.mappers
      → ((e : ℕ) → e < ports → slice_index old e ≡ wholes_upto k e) → here + units / mappers ≤ units_of_line unit x
  whole_fits k d r ports here units mappers old lt is in' at are count so_far =
      let term : units / mappers ≡ whole (get_or x.reducers k d) = ap (λ n. n / mappers) are ∙ ap (λ n. units_of_reducer unit r / n) count ∙ ap whole is in
      omega (arith, next_fits k d r.location lt, so_far r.location in', at, term)

-- ---- the targets, egress by egress

pub record TargetsSoFar (rests : List Spot) (wholes : ℕ → ℕ) (egress first : ℕ) (targets : List Target) : Type 0 where
  pub at : StandsAt rests egress first
  pub ascending : (t : ℕ) (d : Target) → t + 1 < length targets → (get_or targets t d).egress < (get_or targets (t + 1) d).egress
  pub below : All (λ (t : Target). t.egress < egress) targets
  pub ranges : All (λ (t : Target). (t.first ≤ t.end) × (t.end ≤ length rests)) targets
  pub own : All (λ (t : Target). own_rests rests t ≡ spots_at rests t.egress) targets
  pub wholes_are : All (λ (t : Target). t.whole ≡ wholes t.egress) targets
  pub all : (e : ℕ) → e < egress → All (λ (t : Target). t.egress ≢ e) targets → All (λ (s : Spot). s.location ≢ e) rests

module _ (rests : List Spot) (wholes : ℕ → ℕ) (egress first end : ℕ) (targets : List Target) (up : IsNonDecreasingBy (λ (s : Spot). s.location) rests)
    (h : TargetsSoFar rests wholes egress first targets) (ends : EndsAt rests egress first end) where
  abbrev new : ℕ → Target
  new units = record { egress = egress; whole = units; first = first; end = end }

  ascending_push : (units t : ℕ) (d : Target) → t + 1 < length (targets ++ new units ∷ []) →
      (get_or (targets ++ new units ∷ []) t d).egress < (get_or (targets ++ new units ∷ []) (t + 1) d).egress
  ascending_push units t d lt = elim (cases_lt (t + 1) (length targets)) [
    | inl in' ↦ omega (
      arith,
      ap (λ (y : Target). y.egress) (get_or_append_left targets (new units ∷ []) d t (omega arith)),
      ap (λ (y : Target). y.egress) (get_or_append_left targets (new units ∷ []) d (t + 1) in'),
      h.ascending t d in',
    )
    | inr past ↦ omega (
      arith,
      length_push targets (new units),
      ap (λ (y : Target). y.egress) (get_or_append_left targets (new units ∷ []) d t (omega (arith, length_push targets (new units)))),
      ap (λ (y : Target). y.egress) (get_or_push targets (new units) d (t + 1) (omega (arith, length_push targets (new units)))),
      h.below t d (omega (arith, length_push targets (new units))),
    )
  ]

  -- a target of the reducers at the egress
  pub targets_push : (units : ℕ) → units ≡ wholes egress →
      TargetsSoFar rests wholes (egress + 1) end (targets ++ record { egress = egress; whole = units; first = first; end = end } ∷ [])
  targets_push units is = record {
    at = stands_next rests egress first end up h.at ends;
    ascending = ascending_push units;
    below = All-push (λ (t : Target). t.egress < egress + 1) targets (new units)
        (All-weaker (λ (t : Target). t.egress < egress) (λ (t : Target). t.egress < egress + 1) (λ t lt. omega arith) targets h.below) (omega arith);
    ranges = All-push (λ (t : Target). (t.first ≤ t.end) × (t.end ≤ length rests)) targets (new units) h.ranges ends.bound;
    own = All-push (λ (t : Target). own_rests rests t ≡ spots_at rests t.egress) targets (new units) h.own (part_at rests egress first end up h.at ends);
    wholes_are = All-push (λ (t : Target). t.whole ≡ wholes t.egress) targets (new units) h.wholes_are is;
    all = λ e lt out. elim (cases_order e egress) [
      | inl same ↦ absurd (out (length targets) (new units) (omega (arith, length_push targets (new units)))
          (ap (λ (y : Target). y.egress) (get_or_push targets (new units) (new units) (length targets) refl) ∙ sym same))
      | inr (inl less) ↦ h.all e less
          (λ t d t<. subst (λ (y : Target). y.egress ≢ e) (get_or_append_left targets (new units ∷ []) d t t<) (out t d (omega (arith, length_push targets (new units)))))
      | inr (inr more) ↦ absurd (omega arith)
    ];
  }

-- no rest was looked at
pub targets_begin : (rests : List Spot) (wholes : ℕ → ℕ) → TargetsSoFar rests wholes 0 0 []
targets_begin rests wholes = record {
  at = record { within = omega arith; earlier = λ s d lt. absurd (omega (arith, lt)); later = λ s d low high. omega arith };
  ascending = λ t d lt. absurd (omega (arith, lt));
  below = λ t d lt. absurd (omega (arith, lt));
  ranges = λ t d lt. absurd (omega (arith, lt));
  own = λ t d lt. absurd (omega (arith, lt));
  wholes_are = λ t d lt. absurd (omega (arith, lt));
  all = λ e lt. absurd (omega (arith, lt));
}

-- on to the location of the next rest
pub targets_reach : (rests : List Spot) (wholes : ℕ → ℕ) (egress first : ℕ) (targets : List Target) (x : Spot) → IsNonDecreasingBy (λ (s : Spot). s.location) rests →
    TargetsSoFar rests wholes egress first targets → first < length rests → x ≡ get_or rests first x → TargetsSoFar rests wholes x.location first targets
targets_reach rests wholes egress first targets x up h lt is = record {
  at = stands_here rests egress first x up h.at lt is;
  ascending = h.ascending;
  below = All-weaker (λ (t : Target). t.egress < egress) (λ (t : Target). t.egress < x.location)
      (λ t low. omega (arith, low, reaches rests egress first x h.at lt is)) targets h.below;
  ranges = h.ranges;
  own = h.own;
  wholes_are = h.wholes_are;
  all = λ e low out. elim (cases_lt e egress) [
    | inl less ↦ h.all e less out
    | inr more ↦ none_between rests egress first x up h.at lt is e more low
  ];
}

-- all rests were looked at
pub targets_reach_all : (rests : List Spot) (wholes : ℕ → ℕ) (egress first : ℕ) (targets : List Target) → TargetsSoFar rests wholes egress first targets → length rests ≤ first →
    (e : ℕ) → All (λ (t : Target). t.egress ≢ e) targets → All (λ (s : Spot). s.location ≢ e) rests
targets_reach_all rests wholes egress first targets h end e out = elim (cases_lt e egress) [
  | inl less ↦ h.all e less out
  | inr more ↦ none_past rests egress first h.at end e more
]

-- all egress ports were looked at
pub targets_all : (rests : List Spot) (wholes : ℕ → ℕ) (ports first : ℕ) (targets : List Target) → IsByLocation rests → ((e : ℕ) → wholes e ≤ 2 ^ 40) →
    TargetsSoFar rests wholes ports first targets → AreTargets rests targets
targets_all rests wholes ports first targets sorted bound h = record {
  ascending = h.ascending;
  ranges = h.ranges;
  own = h.own;
  numbers = λ t d lt. sorted.numbers (get_or targets t d).egress;
  wholes = λ t d lt. omega (arith, h.wholes_are t d lt, bound (get_or targets t d).egress);
}
