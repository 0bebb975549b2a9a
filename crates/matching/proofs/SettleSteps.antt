-- One look at a port that waits.
use Rattle.std.proofs.Common.{◌≡◌, ℕ, ◌+◌, ◌-◌, ◌*◌, ◌^◌, ◌≤◌, ◌<◌, ◌⊎◌, inl, inr, List, length, get_or, Contains, refl, sym, ap, subst, ◌∙◌, arith}
use Rattle.std.specs.Prelude.{All, if◌then◌else◌}
use Rattle.std.proofs.Math.Pow.{pow_mono}
use Rattle.std.proofs.lemmas.Bool.{cases_lt, lt-ltb, le-ltb}
use Rattle.std.proofs.lemmas.List.Sums.{sum_by-le}
use Rattle.matching.specs.Kept.{Graph, Meets, Touches, IsCovered, IsClear, IsKept, IsPutIn}
use Rattle.matching.specs.Board.{no_rank, IsGraph, Stands, IsBoard, IsPlaced, weight, total_weight}
use Rattle.matching.specs.Heads.{opposite, head_at, IsLooked, IsHeads}
use Rattle.matching.proofs.BoardSteps.{stands_at, sides_apart}

pub waits_more : (g : Graph) (left : ℕ → ℕ) (granted waits more : ℕ → Type 0) → ((p : ℕ) → waits p → more p) → IsKept g left granted waits → IsKept g left granted more
waits_more g left granted waits more to k = record {
  known = k.known;
  owed = k.owed;
  apart = k.apart;
  rest = λ r lt some. elim (k.rest r lt some) [ inl covered ↦ inl covered | inr (inl w) ↦ inr (inl (to (g.first r) w)) | inr (inr w) ↦ inr (inr (to (g.second r) w)) ];
}

-- where each port of the first side waits, no other has to
pub first_side_waits : (ports : ℕ) (g : Graph) (left : ℕ → ℕ) (granted waits more : ℕ → Type 0) → IsGraph ports g → ((p : ℕ) → p < ports → more p) → IsKept g left granted waits →
    IsKept g left granted more
first_side_waits ports g left granted waits more graph all k = record {
  known = k.known;
  owed = k.owed;
  apart = k.apart;
  rest = λ r lt some. inr (inl (all (g.first r) (graph.first r lt)));
}

-- ---- the two sides

pub opposite_first : (ports p k : ℕ) → p < ports → opposite ports p k ≡ ports + k
opposite_first ports p k lt = ap (λ b. if b then ports + k else k) (lt-ltb p ports lt)

pub opposite_second : (ports p k : ℕ) → ports ≤ p → opposite ports p k ≡ k
opposite_second ports p k le = ap (λ b. if b then ports + k else k) (le-ltb p ports le)

pub opposite_low : (ports p k : ℕ) → k < ports → opposite ports p k < ports + ports
opposite_low ports p k lt = elim (cases_lt p ports) [
  | inl less ↦ omega (arith, opposite_first ports p k less)
  | inr more ↦ omega (arith, opposite_second ports p k more)
]

pub sided : (ports : ℕ) (g : Graph) (p r : ℕ) → IsGraph ports g → r < g.count → Touches g p r → ((p < ports) × (g.first r ≡ p)) ⊎ ((ports ≤ p) × (g.second r ≡ p))
sided ports g p r k lt (inl e) = inl (omega (arith, k.first r lt, e), e)
sided ports g p r k lt (inr e) = inr (omega (arith, k.second_from r lt, e), e)

pub meets_at : (ports : ℕ) (g : Graph) (p r s : ℕ) → IsGraph ports g → r < g.count → s < g.count → Touches g p r → Touches g p s → Meets g r s
meets_at ports g p r s k lr ls (inl a) (inl b) = inl (a ∙ sym b)
meets_at ports g p r s k lr ls (inl a) (inr b) = absurd (sides_apart ports g r s k lr ls (a ∙ sym b))
meets_at ports g p r s k lr ls (inr a) (inl b) = absurd (sides_apart ports g s r k ls lr (b ∙ sym a))
meets_at ports g p r s k lr ls (inr a) (inr b) = inr (a ∙ sym b)

-- a rank has a port on the other side of each of its ports
other_port : (ports : ℕ) (g : Graph) (p r : ℕ) → IsGraph ports g → r < g.count → Touches g p r → (k : ℕ) × (k < ports) × Touches g (opposite ports p k) r
other_port ports g p r k lt t = elim (sided ports g p r k lt t) [
  | inl (low, e) ↦ (g.second r - ports, omega (arith, k.second r lt, k.second_from r lt), inr (omega (arith, opposite_first ports p (g.second r - ports) low, k.second_from r lt)))
  | inr (high, e) ↦ (g.first r, k.first r lt, inl (sym (opposite_second ports p (g.first r) high)))
]

-- ---- what a look finds

pub record IsScene (ports : ℕ) (g : Graph) (left : ℕ → ℕ) (heads at : List ℕ) (port least : ℕ) : Type 0 where
  pub graph : IsGraph ports g
  pub table : IsHeads ports g left heads
  pub board : IsBoard ports g at
  pub low : port < ports + ports
  pub looked : IsLooked ports heads at port least

covered_by : (ports : ℕ) (g : Graph) (at : List ℕ) (q r : ℕ) → IsGraph ports g → IsBoard ports g at → q < ports + ports → r < g.count → Touches g q r → get_or at q 0 ≤ r →
    IsCovered g (Stands g at) r
covered_by ports g at q r k b low lt t le =
    let (stands, t') = stands_at ports g at q (get_or at q 0) b low (λ e. omega (arith, e, le, lt, k.few)) refl in
    (get_or at q 0, stands, le, meets_at ports g q (get_or at q 0) r k stands.0 lt t' t)

pub clear_upto : (ports : ℕ) (g : Graph) (left : ℕ → ℕ) (heads at : List ℕ) (port least bound : ℕ) → IsScene ports g left heads at port least →
    ((r : ℕ) → r < bound → least ≤ r → get_or at port 0 ≤ r) → IsClear g left (Stands g at) port bound
clear_upto ports g left heads at port least bound s up r lb lt owes t =
    let (k, lk, tq) = other_port ports g port r s.graph lt t in
    let le = (s.table.head port k s.low lk).least r lt owes t tq in
    elim (cases_lt (head_at ports heads port k) (get_or at (opposite ports port k) 0)) [
      | inl less ↦ covered_by ports g at port r s.graph s.board s.low lt t (up r lb (omega (arith, s.looked.below k lk less, le)))
      | inr ge ↦ covered_by ports g at (opposite ports port k) r s.graph s.board (opposite_low ports port k lk) lt tq (omega (arith, ge, le))
    ]

-- a rank that goes in
pub record IsFound (g : Graph) (left : ℕ → ℕ) (at : List ℕ) (port rank : ℕ) : Type 0 where
  pub known : rank < g.count
  pub owes : 0 < left rank
  pub here : Touches g port rank
  pub first : rank < get_or at (g.first rank) 0
  pub second : rank < get_or at (g.second rank) 0
  pub top : (s : ℕ) → s < g.count → 0 < left s → g.first s ≡ g.first rank → g.second s ≡ g.second rank → rank ≤ s

at_most_none : (ports : ℕ) (g : Graph) (at : List ℕ) (p : ℕ) → IsGraph ports g → IsBoard ports g at → p < ports + ports → get_or at p 0 ≤ no_rank
at_most_none ports g at p k b low = elim (b.own p low) [
  | inl e ↦ omega (arith, e)
  | inr (lt, _) ↦ omega (arith, lt, k.few)
]

pub touches_as : (g : Graph) (p r s : ℕ) → g.first s ≡ g.first r → g.second s ≡ g.second r → Touches g p r → Touches g p s
touches_as g p r s a b (inl e) = inl (a ∙ e)
touches_as g p r s a b (inr e) = inr (b ∙ e)

below_first : (ports : ℕ) (g : Graph) (at : List ℕ) (port k rank : ℕ) → IsGraph ports g → rank < g.count → k < ports → Touches g port rank →
    Touches g (opposite ports port k) rank → rank < get_or at port 0 → rank < get_or at (opposite ports port k) 0 →
    (rank < get_or at (g.first rank) 0) × (rank < get_or at (g.second rank) 0)
below_first ports g at port k rank gr lt lk tp tq a b = elim (sided ports g port rank gr lt tp) [
  | inl (low, e) ↦ elim (sided ports g (opposite ports port k) rank gr lt tq) [
    | inl (low', _) ↦ absurd (omega (arith, opposite_first ports port k low, low'))
    | inr (_, e') ↦ (omega (arith, ap (λ p. get_or at p 0) e, a), omega (arith, ap (λ p. get_or at p 0) e', b))
  ]
  | inr (high, e) ↦ elim (sided ports g (opposite ports port k) rank gr lt tq) [
    | inl (_, e') ↦ (omega (arith, ap (λ p. get_or at p 0) e', b), omega (arith, ap (λ p. get_or at p 0) e, a))
    | inr (high', _) ↦ absurd (omega (arith, opposite_second ports port k high, high', lk))
  ]
]

pub found_rank : (ports : ℕ) (g : Graph) (left : ℕ → ℕ) (heads at : List ℕ) (port least : ℕ) → IsScene ports g left heads at port least → least < get_or at port 0 →
    IsFound g left at port least
found_rank ports g left heads at port least s low = elim s.looked.found [
  | inl e ↦ absurd (omega (arith, e, low, at_most_none ports g at port s.graph s.board s.low))
  | inr (k, lk, is, below) ↦ elim (s.table.head port k s.low lk).one [
    | inl e ↦ absurd (omega (arith, is, e, low, at_most_none ports g at port s.graph s.board s.low))
    | inr (lt, owes, tp, tq) ↦
        let known : least < g.count = omega (arith, is, lt) in
        let here = subst (λ x. Touches g port x) is tp in
        let there = subst (λ x. Touches g (opposite ports port k) x) is tq in
        let lower = below_first ports g at port k least s.graph known lk here there low below in
        record {
          known = known;
          owes = subst (λ x. 0 < left x) is owes;
          here = here;
          first = lower.0;
          second = lower.1;
          top = λ r lr some a b. omega (
            arith,
            is,
            (s.table.head port k s.low lk).least r lr some (touches_as g port least r a b here) (touches_as g (opposite ports port k) least r a b there),
          );
        }
  ]
]

pub found_goes_in : (ports : ℕ) (g : Graph) (left : ℕ → ℕ) (heads at new waits more : List ℕ) (port rank : ℕ) → IsScene ports g left heads at port rank →
    IsFound g left at port rank → IsPlaced g at new waits more rank →
    IsPutIn g left (Stands g at) (Stands g new) (λ p. (p ≡ port) ⊎ Contains waits p) (λ p. Contains more p) port rank
found_goes_in ports g left heads at new waits more port rank s f p = record {
  sides = λ r q lr lq. sides_apart ports g r q s.graph lr lq;
  known = f.known;
  owes = f.owes;
  here = f.here;
  later = λ q (lq, at_q) m. elim m [
    | inl e ↦ omega (arith, at_q, ap (λ x. get_or at x 0) e, f.first)
    | inr e ↦ omega (arith, s.board.across q lq at_q, ap (λ x. get_or at x 0) e, f.second)
  ];
  clear = clear_upto ports g left heads at port rank rank s (λ r lb le. absurd (omega (arith, lb, le)));
  in' = p.in';
  from = p.from;
  keeps = p.keeps;
  stays = λ q w. elim w [ inl e ↦ inl e | inr has ↦ inr (p.stays q has) ];
  freed_first = p.freed_first;
  freed_second = p.freed_second;
}

pub clear_at : (ports : ℕ) (g : Graph) (left : ℕ → ℕ) (heads at : List ℕ) (port least : ℕ) → IsScene ports g left heads at port least → get_or at port 0 ≤ least →
    IsClear g left (Stands g at) port g.count
clear_at ports g left heads at port least s low = clear_upto ports g left heads at port least g.count s (λ r lb le. omega (arith, low, le))

-- ---- the weight has a bound

pub weight_bound : (ports count : ℕ) (at : List ℕ) → length at ≡ ports + ports → total_weight count at ≤ (ports + ports) * 2 ^ (2 * count)
weight_bound ports count at size =
    let each : All (λ x. weight count x ≤ 2 ^ (2 * count)) at = λ k d lt. let le : 2 * (count - get_or at k d) ≤ 2 * count = omega arith in pow_mono le in
    omega (arith, sum_by-le (weight count) (2 ^ (2 * count)) at each, ap (λ n. n * 2 ^ (2 * count)) size)

pub budget_falls : (most old new waits more : ℕ) → old < new → new ≤ most → more ≤ waits + 2 → 2 * (most - new) + more ≤ 2 * (most - old) + waits
budget_falls most old new waits more rises bound two = omega arith
