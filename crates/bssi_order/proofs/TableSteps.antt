-- The loops over a table of loads, step by step.
use Rattle.std.proofs.Common.{◌≡◌, ℕ, ◌+◌, ◌-◌, ◌*◌, ◌/◌, ◌^◌, ◌<◌, ◌≤◌, ◌⊎◌, inl, inr, Bool, true, false, cond, List, [], ◌∷◌, length, refl, sym, ap, subst, ◌∙◌, arith}
use Rattle.std.proofs.Common.{length-set, zero, suc, true≢false}
use Rattle.std.specs.Prelude.{count_by, slice_index, slice_set}
use Rattle.std.specs.List.{range_with_len}
use Rattle.std.proofs.lemmas.Bool.{cases_Bool, cases_eq, cases_lt}
use Rattle.std.proofs.lemmas.List.{get_or-set_same, get_or-set_other}
use Rattle.std.proofs.Math.ListN.{get_or-eq_default}
use Rattle.std.proofs.Math.Nat.{mul-le-mul}
use Rattle.std.proofs.lemmas.List.Sums.{sum_by-cons}
use Rattle.coflow_units.specs.declared.fabric.Port.{Port}
use Rattle.coflow_units.specs.declared.fabric.Side.{Side}
use Rattle.coflow_units.proofs.Numbers.{floor_within, ratio_le}
use Rattle.coflow_units.proofs.Sums.{member_within_sum, some_term}
use Rattle.coflow_units.proofs.OrderingLaws.{within_ratio}
use Rattle.coflow_units.proofs.Ranges.{in_range}
use Rattle.port_load.specs.LoadTable.{IsSameSize, LoadTable, is_present, load_at, total_at}
use Rattle.port_load.proofs.Grid.{below_in}
use Rattle.bssi_order.specs.Step.{IsGreatestWaiting, IsLeastRatio}

-- ---- absent coflows are dropped

pub record DroppedSoFar (old new : LoadTable) (present : List Bool) (done : ℕ) : Type 0 where
  pub size : IsSameSize old new
  pub stay : (c : ℕ) (port : Port) → c < old.coflows → port.number < old.ports → is_present present c ≡ true → load_at new c port ≡ load_at old c port
  pub gone : (c : ℕ) (port : Port) → c < done → c < old.coflows → port.number < old.ports → is_present present c ≡ false → load_at new c port ≡ 0

-- ---- the greatest number of a waiting coflow

pub record GreatestSoFar (waiting : List Bool) (greatest done : ℕ) : Type 0 where
  pub small : greatest ≤ done
  pub waits : (c : ℕ) → c < done → is_present waiting c ≡ true → is_present waiting greatest ≡ true
  pub most : (c : ℕ) → c < done → is_present waiting c ≡ true → c ≤ greatest

-- ---- the least ratio

pub record LeastSoFar (t : LoadTable) (residuals : List ℕ) (port : Port) (least least_load done : ℕ) : Type 0 where
  pub small : least ≤ done
  pub found : 0 < least_load → (least < t.coflows) × (least < done) × (least_load ≡ load_at t least port)
  pub some : (c : ℕ) → c < done → 0 < load_at t c port → 0 < least_load
  pub ratio : (c : ℕ) → c < done → 0 < load_at t c port →
      (slice_index residuals least * load_at t c port < slice_index residuals c * least_load)
      ⊎ ((slice_index residuals least * load_at t c port ≡ slice_index residuals c * least_load) × (c ≤ least))

-- ---- each coflow pays

pub record PaidSoFar (t : LoadTable) (port : Port) (y : ℕ) (old new : List ℕ) (done : ℕ) : Type 0 where
  pub len : length new ≡ length old
  pub paid : (c : ℕ) → c < done → slice_index new c ≡ slice_index old c - y * load_at t c port
  pub later : (c : ℕ) → done ≤ c → slice_index new c ≡ slice_index old c

pub paid_none : (t : LoadTable) (port : Port) (y : ℕ) (old : List ℕ) → PaidSoFar t port y old old 0
paid_none t port y old = record {
  len = refl;
  paid = λ c lt. absurd (omega (arith, lt));
  later = λ c le. refl;
}

-- coflows without load on the port are passed by
pub paid_past : (t : LoadTable) (port : Port) (y : ℕ) (old new : List ℕ) (done next : ℕ) → PaidSoFar t port y old new done → done ≤ next →
    ((c : ℕ) → done ≤ c → c < next → load_at t c port ≡ 0) → PaidSoFar t port y old new next
paid_past t port y old new done next so_far after none = record {
  len = so_far.len;
  paid = λ c lt. elim (cases_lt c done) [
    | inl before ↦ so_far.paid c before
    | inr behind ↦ omega (arith, so_far.later c behind, ap (λ n. y * n) (none c behind lt))
  ];
  later = λ c le. so_far.later c (omega (arith, le, after));
}

pub paid_more : (t : LoadTable) (port : Port) (y : ℕ) (old new : List ℕ) (done v : ℕ) → PaidSoFar t port y old new done → done < length old →
    v ≡ slice_index old done - y * load_at t done port → PaidSoFar t port y old (slice_set new done v) (done + 1)
paid_more t port y old new done v so_far lt is = record {
  len = length-set new done v ∙ so_far.len;
  paid = λ c lc. elim (cases_eq c done) [
    | inl e ↦ ap (λ k. slice_index (slice_set new done v) k) e ∙ get_or-set_same new done v 0 (omega (arith, lt, so_far.len)) ∙ is ∙
        sym (ap (λ k. slice_index old k - y * load_at t k port) e)
    | inr ne ↦ get_or-set_other new done c v 0 ne ∙ so_far.paid c (omega (arith, lc, ne))
  ];
  later = λ c le. get_or-set_other new done c v 0 (λ e. omega (arith, le, e)) ∙ so_far.later c (omega (arith, le));
}

-- ---- marks

pub present_below : (xs : List Bool) (c : ℕ) → is_present xs c ≡ true → c < length xs
present_below xs c here = elim (cases_lt c (length xs)) [
  | inl lt ↦ lt
  | inr le ↦ absurd (true≢false (sym here ∙ get_or-eq_default xs false le))
]

one_first : (b : Bool) (xs : List Bool) → 0 < count_by (λ w. w) (b ∷ xs) → b ≡ false → 0 < count_by (λ w. w) xs
one_first b xs lt e = omega (arith, lt, sum_by-cons (λ w. cond w 1 0) b xs, ap {B = ℕ} (λ w. cond w 1 0) e)

pub one_is_marked : (xs : List Bool) → 0 < count_by (λ w. w) xs → (c : ℕ) × (c < length xs) × (is_present xs c ≡ true)
one_is_marked [] lt = absurd (omega arith)
one_is_marked (b ∷ xs) lt = elim (cases_Bool b) [
  | inl t ↦ (0, omega arith, t)
  | inr f ↦ let (c, lt', here) = one_is_marked xs (one_first b xs lt f) in (suc c, omega arith, here)
]

pub greatest_of : (waiting : List Bool) (greatest : ℕ) → GreatestSoFar waiting greatest (length waiting) → 0 < count_by (λ w. w) waiting → IsGreatestWaiting waiting greatest
greatest_of waiting greatest so_far some =
    let (c, lt, here) = one_is_marked waiting some in
    record {
      waits = so_far.waits c lt here;
      greatest = λ other marked. so_far.most other (present_below waiting other marked) marked;
    }

-- ---- loads and totals

pub within_total : (t : LoadTable) (c : ℕ) (port : Port) → c < t.coflows → load_at t c port ≤ total_at t port
within_total t c port lt = member_within_sum (λ k. load_at t k port) (range_with_len 0 t.coflows) c (below_in t.coflows c lt)

pub some_load : (t : LoadTable) (port : Port) → 0 < total_at t port → (c : ℕ) × (c < t.coflows) × (0 < load_at t c port)
some_load t port lt =
    let (c, has, some) = some_term (λ k. load_at t k port) (range_with_len 0 t.coflows) lt in
    (c, in_range t.coflows c has, some)

-- ---- ratios

pub product_fits : (a b : ℕ) → a ≤ 2 ^ 72 → b ≤ 2 ^ 40 → a * b ≤ 2 ^ 112
product_fits a b la lb = let h : a * b ≤ 2 ^ 72 * 2 ^ 40 = mul-le-mul la lb in h

pub least_load_fits : (t : LoadTable) (residuals : List ℕ) (port : Port) (least least_load done most : ℕ) → LeastSoFar t residuals port least least_load done →
    total_at t port ≤ most → least_load ≤ most
least_load_fits t residuals port least least_load done most so_far fits = elim (cases_lt 0 least_load) [
  | inl some ↦ let (lt, ld, is) = so_far.found some in omega (arith, is, within_total t least port lt)
  | inr none ↦ omega arith
]

pub either_way : (a b c k : ℕ) → a ≤ b → c ≤ k → (a < b) ⊎ ((a ≡ b) × (c ≤ k))
either_way a b c k le lt = elim (cases_lt a b) [
  | inl less ↦ inl less
  | inr same ↦ inr (omega arith, lt)
]

pub at_most_of : (a b c k : ℕ) → (a < b) ⊎ ((a ≡ b) × (c ≤ k)) → a ≤ b
at_most_of a b c k (inl less) = omega arith
at_most_of a b c k (inr same) = omega (arith, same.0)

pub least_take : (t : LoadTable) (residuals : List ℕ) (port : Port) (least least_load k load : ℕ) → LeastSoFar t residuals port least least_load k → k < t.coflows →
    load ≡ load_at t k port → 0 < load →
    slice_index residuals k * least_load ≤ slice_index residuals least * load → LeastSoFar t residuals port k load (k + 1)
least_take t residuals port least least_load k load so_far lt is some le = record {
  small = omega arith;
  found = λ h. (lt, omega arith, is);
  some = λ c lc h. some;
  ratio = λ c lc h. elim (cases_eq c k) [
    | inl e ↦ either_way (slice_index residuals k * load_at t c port) (slice_index residuals c * load) c k
        (omega (arith, ap (λ j. slice_index residuals j * load) e, ap (λ j. slice_index residuals k * load_at t j port) e, ap (λ n. slice_index residuals k * n) is))
        (omega (arith, e))
    | inr ne ↦
        let before : c < k = omega (arith, ne) in
        let old = at_most_of (slice_index residuals least * load_at t c port) (slice_index residuals c * least_load) c least (so_far.ratio c before h) in
        either_way (slice_index residuals k * load_at t c port) (slice_index residuals c * load) c k
        (ratio_le (slice_index residuals k) load (slice_index residuals least) least_load (slice_index residuals c) (load_at t c port) (so_far.some c before h) le old)
        (omega arith)
  ];
}

above_nought : (a b n : ℕ) → a < b * n → 0 < n
above_nought a b zero lt = absurd (omega arith)
above_nought a b (suc n) lt = omega arith

pub least_keep : (t : LoadTable) (residuals : List ℕ) (port : Port) (least least_load k load : ℕ) → LeastSoFar t residuals port least least_load k → load ≡ load_at t k port →
    slice_index residuals least * load < slice_index residuals k * least_load → LeastSoFar t residuals port least least_load (k + 1)
least_keep t residuals port least least_load k load so_far is less =
    let some = above_nought (slice_index residuals least * load) (slice_index residuals k) least_load less in
    record {
      small = omega (arith, so_far.small);
      found = λ h. let (a, b, c) = so_far.found h in (a, omega arith, c);
      some = λ c lc h. some;
      ratio = λ c lc h. elim (cases_eq c k) [
        | inl e ↦ inl (omega (
          arith,
          less,
          ap (λ j. slice_index residuals j * least_load) e,
          ap (λ j. slice_index residuals least * load_at t j port) e,
          ap (λ n. slice_index residuals least * n) is,
        ))
        | inr ne ↦ so_far.ratio c (omega (arith, ne)) h
      ];
    }

pub seen_before : (f : ℕ → ℕ) (done next c : ℕ) → ((k : ℕ) → done ≤ k → k < next → f k ≡ 0) → c < next → 0 < f c → c < done
seen_before f done next c none lt some = elim (cases_lt c done) [
  | inl old ↦ old
  | inr new ↦ absurd (omega (arith, some, none c new lt))
]

pub least_none : (t : LoadTable) (residuals : List ℕ) (port : Port) → LeastSoFar t residuals port 0 0 0
least_none t residuals port = record {
  small = omega arith;
  found = λ h. absurd (omega (arith, h));
  some = λ c lc h. absurd (omega (arith, lc));
  ratio = λ c lc h. absurd (omega (arith, lc));
}

-- coflows without load on the port are passed by
pub least_past : (t : LoadTable) (residuals : List ℕ) (port : Port) (least least_load done next : ℕ) → LeastSoFar t residuals port least least_load done → done ≤ next →
    ((c : ℕ) → done ≤ c → c < next → load_at t c port ≡ 0) → LeastSoFar t residuals port least least_load next
least_past t residuals port least least_load done next so_far after none =
    let before = λ (c : ℕ) (lc : c < next) (h : 0 < load_at t c port). seen_before (λ k. load_at t k port) done next c none lc h in
    record {
      small = omega (arith, so_far.small);
      found = λ h. let (a, b, c) = so_far.found h in (a, omega (arith, b), c);
      some = λ c lc h. so_far.some c (before c lc h) h;
      ratio = λ c lc h. so_far.ratio c (before c lc h) h;
    }

pub least_of : (t : LoadTable) (residuals : List ℕ) (port : Port) (least least_load : ℕ) → LeastSoFar t residuals port least least_load t.coflows → 0 < total_at t port →
    IsLeastRatio t residuals port least
least_of t residuals port least least_load so_far some =
    let (c, lt, has) = some_load t port some in
    let (ll, ld, is) = so_far.found (so_far.some c lt has) in
    record {
      coflow_in = ll;
      has_load = subst (λ n. 0 < n) is (so_far.some c lt has);
      least = λ other lo h. subst (λ n. (slice_index residuals least * load_at t other port < slice_index residuals other * n) ⊎
          ((slice_index residuals least * load_at t other port ≡ slice_index residuals other * n) × (other ≤ least))) is (so_far.ratio other lo h);
    }

pub affordable : (t : LoadTable) (residuals : List ℕ) (port : Port) (least : ℕ) → IsLeastRatio t residuals port least → (c : ℕ) → c < t.coflows →
    (slice_index residuals least / load_at t least port) * load_at t c port ≤ slice_index residuals c
affordable t residuals port least is c lt = elim (cases_lt 0 (load_at t c port)) [
  | inl some ↦ within_ratio (slice_index residuals least / load_at t least port) (slice_index residuals least) (load_at t least port) (slice_index residuals c) (load_at t c port)
      is.has_load
      (floor_within (slice_index residuals least) (load_at t least port))
      (at_most_of (slice_index residuals least * load_at t c port) (slice_index residuals c * load_at t least port) c least (is.least c lt some))
  | inr none ↦
      let nought : load_at t c port ≡ 0 = omega arith in
      omega (arith, ap (λ n. (slice_index residuals least / load_at t least port) * n) nought)
]

-- ---- ports

abbrev pub port_of : Side → ℕ → Port
port_of s n = record { side = s; number = n }

pub same_total : (t : LoadTable) (s : Side) (n : ℕ) (other : Port) → other.side ≡ s → other.number ≡ n → total_at t other ≡ total_at t (port_of s n)
same_total t s n other es en = ap (λ k. total_at t (port_of k other.number)) es ∙ ap (λ k. total_at t (port_of s k)) en
