-- The first greatest of some totals, block by block.
use Rattle.std.proofs.Common.{◌≡◌, ℕ, ◌+◌, ◌*◌, ◌/◌, ◌<◌, ◌≤◌, ◌⊎◌, inl, inr, min, ◌^◌, List, length, length-set, refl, sym, ap, subst, ◌∙◌, arith}
use Rattle.std.specs.Prelude.{replicate, slice_index, slice_set}
use Rattle.std.proofs.lemmas.Bool.{cases_eq, cases_lt}
use Rattle.std.proofs.lemmas.List.{get_or-replicate, get_or-set_same, get_or-set_other, length-replicate}
use Rattle.coflow_units.specs.declared.fabric.Port.{Port}
use Rattle.coflow_units.specs.declared.fabric.Side.{Side}
use Rattle.port_load.specs.LoadTable.{DropsCoflow, LoadTable, total_at}
use Rattle.bssi_order.specs.Bounds.{AreBounds, IsBehind, IsBounded, IsFirstGreatest}
use Rattle.bssi_order.specs.Step.{IsGreatestOn}
use Rattle.bssi_order.proofs.TableSteps.{at_most_of, either_way, port_of, same_total}
use Rattle.bssi_order.proofs.StandSteps.{less_total}

-- ---- in a block

pub best_one : (totals : List ℕ) (start : ℕ) → IsFirstGreatest totals start (start + 1) start
best_one totals start = record {
  after = omega arith;
  before = omega arith;
  greatest = λ k le lt. let e : k ≡ start = omega (arith, le, lt) in inr (ap (λ n. slice_index totals n) e, omega (arith, e));
}

pub best_take : (totals : List ℕ) (start place best : ℕ) → IsFirstGreatest totals start place best → slice_index totals best < slice_index totals place →
    IsFirstGreatest totals start (place + 1) place
best_take totals start place best so_far more = record {
  after = omega (arith, so_far.after, so_far.before);
  before = omega arith;
  greatest = λ k le lt. elim (cases_eq k place) [
    | inl e ↦ inr (ap (λ n. slice_index totals n) e, omega (arith, e))
    | inr ne ↦ inl (omega (arith, more, at_most_of (slice_index totals k) (slice_index totals best) best k (so_far.greatest k le (omega (arith, lt, ne)))))
  ];
}

pub best_keep : (totals : List ℕ) (start place best : ℕ) → IsFirstGreatest totals start place best → slice_index totals place ≤ slice_index totals best →
    IsFirstGreatest totals start (place + 1) best
best_keep totals start place best so_far less = record {
  after = so_far.after;
  before = omega (arith, so_far.before);
  greatest = λ k le lt. elim (cases_eq k place) [
    | inl e ↦ either_way (slice_index totals k) (slice_index totals best) best k (omega (arith, less, ap (λ n. slice_index totals n) e)) (omega (arith, e, so_far.before))
    | inr ne ↦ so_far.greatest k le (omega (arith, lt, ne))
  ];
}

-- ---- block by block

pub record BestSoFar (totals : List ℕ) (best block : ℕ) : Type 0 where
  pub small : best ≤ 64 * block
  pub within : best < length totals
  pub greatest : (k : ℕ) → k < 64 * block → k < length totals → IsBehind totals best k

pub so_far_none : (totals : List ℕ) → 0 < length totals → BestSoFar totals 0 0
so_far_none totals some = record {
  small = omega arith;
  within = some;
  greatest = λ k lt within. absurd (omega (arith, lt));
}

-- the block has nothing above the best so far
pub so_far_keep : (totals : List ℕ) (best block most : ℕ) → BestSoFar totals best block → most ≤ slice_index totals best →
    ((k : ℕ) → 64 * block ≤ k → k < 64 * block + 64 → k < length totals → slice_index totals k ≤ most) → BestSoFar totals best (block + 1)
so_far_keep totals best block most so_far le all = record {
  small = omega (arith, so_far.small);
  within = so_far.within;
  greatest = λ k lt within. elim (cases_lt k (64 * block)) [
    | inl before ↦ so_far.greatest k before within
    | inr after ↦ either_way (slice_index totals k) (slice_index totals best) best k (omega (arith, le, all k after (omega (arith, lt)) within))
        (omega (arith, after, so_far.small))
  ];
}

-- the first greatest of the block is above the best so far
pub so_far_take : (totals : List ℕ) (best block here : ℕ) → BestSoFar totals best block →
    IsFirstGreatest totals (64 * block) (min (64 * block + 64) (length totals)) here → slice_index totals best < slice_index totals here → BestSoFar totals here (block + 1)
so_far_take totals best block here so_far first more = record {
  small = omega (arith, first.before);
  within = omega (arith, first.before);
  greatest = λ k lt within. elim (cases_lt k (64 * block)) [
    | inl before ↦ inl (omega (arith, more, at_most_of (slice_index totals k) (slice_index totals best) best k (so_far.greatest k before within)))
    | inr after ↦ first.greatest k after (omega (arith, lt, within))
  ];
}

pub block_within : (totals : List ℕ) (block here : ℕ) → IsFirstGreatest totals (64 * block) (min (64 * block + 64) (length totals)) here →
    (k : ℕ) → 64 * block ≤ k → k < 64 * block + 64 → k < length totals → slice_index totals k ≤ slice_index totals here
block_within totals block here first k after before within =
    at_most_of (slice_index totals k) (slice_index totals here) here k (first.greatest k after (omega (arith, before, within)))

-- a block's bound is above each of its totals
pub within_bound : (totals bounds : List ℕ) (block : ℕ) → AreBounds totals bounds → block < length bounds → (k : ℕ) → 64 * block ≤ k → k < 64 * block + 64 → k < length totals →
    slice_index totals k ≤ slice_index bounds block
within_bound totals bounds block are lt k after before within =
    let e : k / 64 ≡ block = omega (arith, after, before) in
    subst (λ b. slice_index totals k ≤ slice_index bounds b) e (are k within (omega (arith, e, lt)))

pub bound_set : (totals bounds : List ℕ) (block here : ℕ) → AreBounds totals bounds → block < length bounds →
    IsFirstGreatest totals (64 * block) (min (64 * block + 64) (length totals)) here → AreBounds totals (slice_set bounds block (slice_index totals here))
bound_set totals bounds block here are lt first k within inside = elim (cases_eq (k / 64) block) [
  | inl e ↦
      let same : slice_index (slice_set bounds block (slice_index totals here)) (k / 64) ≡ slice_index totals here =
      ap (λ b. slice_index (slice_set bounds block (slice_index totals here)) b) e ∙ get_or-set_same bounds block (slice_index totals here) 0 lt in
      omega (arith, same, block_within totals block here first k (omega (arith, e)) (omega (arith, e)) within)
  | inr ne ↦ omega (
    arith,
    get_or-set_other bounds block (k / 64) (slice_index totals here) 0 ne,
    are k within (omega (arith, inside, length-set bounds block (slice_index totals here))),
  )
]

pub first_of_all : (totals : List ℕ) (best block : ℕ) → BestSoFar totals best block → length totals ≤ 64 * block → IsFirstGreatest totals 0 (length totals) best
first_of_all totals best block so_far all = record {
  after = omega arith;
  before = so_far.within;
  greatest = λ k le lt. so_far.greatest k (omega (arith, lt, all)) lt;
}

-- ---- ports

pub first_port : (t : LoadTable) (side : Side) (totals : List ℕ) (best : ℕ) → length totals ≡ t.ports →
    ((number : ℕ) → number < t.ports → slice_index totals number ≡ total_at t (port_of side number)) → IsFirstGreatest totals 0 (length totals) best →
    IsGreatestOn t side (port_of side best)
first_port t side totals best len are first =
    let here : best < t.ports = omega (arith, first.before, len) in
    record {
      on_side = refl;
      in_range = here;
      greatest = λ other es lt.
          let same = same_total t side other.number other es refl ∙ sym (are other.number lt) in
          let behind = first.greatest other.number (omega arith) (omega (arith, lt, len)) in
          subst (λ n. (n < total_at t (port_of side best)) ⊎ ((n ≡ total_at t (port_of side best)) × (best ≤ other.number))) (sym same)
          (subst (λ n. (slice_index totals other.number < n) ⊎ ((slice_index totals other.number ≡ n) × (best ≤ other.number))) (are best here) behind);
    }

pub bounded_less : (t t' : LoadTable) (coflow : ℕ) (side : Side) (bounds : List ℕ) → DropsCoflow t t' coflow → IsBounded t side bounds → IsBounded t' side bounds
bounded_less t t' coflow side bounds drops bounded number lt inside =
    let lt' : number < t.ports = omega (arith, lt, drops.size.ports) in
    omega (arith, less_total t t' coflow drops (port_of side number) lt', bounded number lt' inside)

-- bounds that no total reaches
pub no_bound : (t : LoadTable) (side : Side) → ((port : Port) → port.number < t.ports → total_at t port ≤ 2 ^ 40) → IsBounded t side (replicate 17 18446744073709551615)
no_bound t side fits number lt inside =
    omega (
      arith,
      fits (port_of side number) lt,
      get_or-replicate {A = ℕ} 17 (number / 64) 18446744073709551615 0 (omega (arith, inside, length-replicate {A = ℕ} 17 18446744073709551615)),
    )
