-- The waiting coflow that arrives last, and the place that is chosen with it.
use Rattle.std.proofs.Common.{◌≡◌, ℕ, ◌+◌, ◌<◌, ◌≤◌, ◌⊎◌, inl, inr, Bool, true, false, List, length, refl, sym, ap, subst, ◌∙◌, arith, true≢false}
use Rattle.std.specs.Prelude.{count_by, slice_index}
use Rattle.std.proofs.lemmas.Bool.{cases_eq}
use Rattle.coflow_units.specs.declared.plan.Place.{Place}
use Rattle.port_load.specs.LoadTable.{LoadTable, is_present, total_at}
use Rattle.bssi_order.specs.Step.{IsChosen}
use Rattle.bssi_order.proofs.TableSteps.{at_most_of, either_way, one_is_marked, present_below}
use Rattle.release_bound.specs.ReleaseOrder.{IsLate}
use Rattle.release_bound.specs.ReleaseStep.{IsLatestWaiting, IsReleaseChosen}
use Rattle.release_bound.proofs.Lateness.{has_load}

-- `last` is the arrival of `latest`; where none of the first coflows waits, it is 0
abbrev pub HasFound : List Bool → List ℕ → ℕ → ℕ → ℕ → Type 0
HasFound waiting arrivals latest last done =
    ((is_present waiting latest ≡ true) × (last ≡ slice_index arrivals latest)) ⊎ ((last ≡ 0) × ((c : ℕ) → c < done → is_present waiting c ≡ true → ⊥))

pub record LatestSoFar (waiting : List Bool) (arrivals : List ℕ) (latest last done : ℕ) : Type 0 where
  pub small : latest ≤ done
  pub found : HasFound waiting arrivals latest last done
  pub most : (c : ℕ) → c < done → is_present waiting c ≡ true →
      (slice_index arrivals c < slice_index arrivals latest) ⊎ ((slice_index arrivals c ≡ slice_index arrivals latest) × (c ≤ latest))

pub latest_none : (waiting : List Bool) (arrivals : List ℕ) → LatestSoFar waiting arrivals 0 0 0
latest_none waiting arrivals = record {
  small = omega arith;
  found = inr (refl, λ c lt here. omega (arith, lt));
  most = λ c lt here. absurd (omega (arith, lt));
}

before_next : (waiting : List Bool) (k c : ℕ) → c < k + 1 → is_present waiting c ≡ true → is_present waiting k ≡ false → c < k
before_next waiting k c lt here out = elim (cases_eq c k) [
  | inl e ↦ absurd (true≢false (sym here ∙ ap (is_present waiting) e ∙ out))
  | inr ne ↦ omega (arith, lt, ne)
]

pub latest_skip : (waiting : List Bool) (arrivals : List ℕ) (latest last k : ℕ) → LatestSoFar waiting arrivals latest last k → is_present waiting k ≡ false →
    LatestSoFar waiting arrivals latest last (k + 1)
latest_skip waiting arrivals latest last k so_far out =
    let before = λ (c : ℕ) (lt : c < k + 1) (here : is_present waiting c ≡ true). before_next waiting k c lt here out in
    record {
      small = omega (arith, so_far.small);
      found = elim so_far.found [
        | inl some ↦ inl some
        | inr (zero, none) ↦ inr (zero, λ c lt here. none c (before c lt here) here)
      ];
      most = λ c lt here. so_far.most c (before c lt here) here;
    }

pub latest_keep : (waiting : List Bool) (arrivals : List ℕ) (latest last k : ℕ) → LatestSoFar waiting arrivals latest last k → slice_index arrivals k < last →
    LatestSoFar waiting arrivals latest last (k + 1)
latest_keep waiting arrivals latest last k so_far less = elim so_far.found [
  | inl (there, is) ↦ record {
    small = omega (arith, so_far.small);
    found = inl (there, is);
    most = λ c lt here. elim (cases_eq c k) [
      | inl e ↦ inl (omega (arith, less, is, ap (slice_index arrivals) e))
      | inr ne ↦ so_far.most c (omega (arith, lt, ne)) here
    ];
  }
  | inr (zero, none) ↦ absurd (omega (arith, less, zero))
]

-- the last arrival so far is at least that of each coflow before
within_last : (waiting : List Bool) (arrivals : List ℕ) (latest last k : ℕ) → LatestSoFar waiting arrivals latest last k → (c : ℕ) → c < k → is_present waiting c ≡ true →
    slice_index arrivals c ≤ last
within_last waiting arrivals latest last k so_far c lt here = elim so_far.found [
  | inl (there, is) ↦ omega (arith, is, at_most_of (slice_index arrivals c) (slice_index arrivals latest) c latest (so_far.most c lt here))
  | inr (zero, none) ↦ absurd (none c lt here)
]

pub latest_take : (waiting : List Bool) (arrivals : List ℕ) (latest last k : ℕ) → LatestSoFar waiting arrivals latest last k → is_present waiting k ≡ true →
    last ≤ slice_index arrivals k → LatestSoFar waiting arrivals k (slice_index arrivals k) (k + 1)
latest_take waiting arrivals latest last k so_far marked le = record {
  small = omega arith;
  found = inl (marked, refl);
  most = λ c lt here. elim (cases_eq c k) [
    | inl e ↦ inr (ap (slice_index arrivals) e, omega (arith, e))
    | inr ne ↦
        let before : c < k = omega (arith, lt, ne) in
        either_way (slice_index arrivals c) (slice_index arrivals k) c k (omega (arith, within_last waiting arrivals latest last k so_far c before here, le))
        (omega (arith, before))
  ];
}

pub latest_of : (waiting : List Bool) (arrivals : List ℕ) (latest last : ℕ) → LatestSoFar waiting arrivals latest last (length waiting) → 0 < count_by (λ w. w) waiting →
    IsLatestWaiting waiting arrivals latest
latest_of waiting arrivals latest last so_far some =
    let (c, lt, here) = one_is_marked waiting some in
    record {
      waits = elim so_far.found [
        | inl (there, is) ↦ there
        | inr (zero, none) ↦ absurd (none c lt here)
      ];
      latest = λ other marked. so_far.most other (present_below waiting other marked) marked;
    }

-- ---- the choice

pub chosen_late : (quarters : ℕ) (t : LoadTable) (arrivals residuals : List ℕ) (waiting : List Bool) (x : Place) (m : ℕ) → IsChosen t residuals waiting x →
    IsLatestWaiting waiting arrivals m → IsLate quarters x.load (slice_index arrivals m) →
    IsReleaseChosen quarters t arrivals residuals waiting (record { coflow = m; port = x.port; y = 0; z = slice_index residuals m })
chosen_late quarters t arrivals residuals waiting x m chosen latest late =
    let late' = subst (λ n. IsLate quarters n (slice_index arrivals m)) chosen.load late in
    record {
      port = chosen.port;
      waits = latest.waits;
      latest = m;
      is_latest = latest;
      late_coflow = λ late. refl;
      late_y = λ late. refl;
      early_coflow = λ early. absurd (early late');
      early_y = λ early. absurd (early late');
      z_is = omega arith;
    }

pub chosen_early : (quarters : ℕ) (t : LoadTable) (arrivals residuals : List ℕ) (waiting : List Bool) (x : Place) (m : ℕ) → IsChosen t residuals waiting x →
    IsLatestWaiting waiting arrivals m → (IsLate quarters x.load (slice_index arrivals m) → ⊥) →
    IsReleaseChosen quarters t arrivals residuals waiting (record { coflow = x.coflow; port = x.port; y = x.y; z = x.rest })
chosen_early quarters t arrivals residuals waiting x m chosen latest early =
    let out = λ (late : IsLate quarters (total_at t x.port) (slice_index arrivals m)). early (subst (λ n. IsLate quarters n (slice_index arrivals m)) (sym chosen.load) late) in
    let some : 0 < total_at t x.port = has_load quarters (total_at t x.port) (slice_index arrivals m) out in
    record {
      port = chosen.port;
      waits = chosen.waits;
      latest = m;
      is_latest = latest;
      late_coflow = λ late. absurd (out late);
      late_y = λ late. absurd (out late);
      early_coflow = λ early. chosen.busy_coflow some;
      early_y = λ early. chosen.busy_y some;
      z_is = chosen.rest;
    }
