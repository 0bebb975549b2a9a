-- A look at the heads of a port.
use Rattle.std.proofs.Common.{◌≡◌, ℕ, ◌+◌, ◌-◌, ◌*◌, ◌≤◌, ◌<◌, ◌⊎◌, inl, inr, List, length, get_or, take, drop, min, sym, ap, subst, ◌∙◌, arith}
use Rattle.std.proofs.lemmas.Bool.{cases_eq, cases_lt}
use Rattle.std.proofs.lemmas.List.{get_or-drop, get_or-take, length-drop, length-take-le}
use Rattle.std.proofs.lemmas.Nat.{mul-add-lt}
use Rattle.matching.specs.Board.{no_rank}
use Rattle.matching.specs.Heads.{opposite, IsLeastOpen, IsLooked}
use Rattle.matching.proofs.SettleSteps.{opposite_first, opposite_second}

-- the least of those so far
pub record IsLeastSoFar (heads others : List ℕ) (n least : ℕ) : Type 0 where
  pub below : (k : ℕ) → k < n → get_or heads k 0 < get_or others k 0 → least ≤ get_or heads k 0
  pub found : (least ≡ no_rank) ⊎ ((k : ℕ) × (k < length heads) × (get_or heads k 0 ≡ least) × (least < get_or others k 0))

-- the next head is open
pub open_next : (heads others : List ℕ) (n m least next cand : ℕ) → n < length heads → m ≡ n + 1 → get_or heads n 0 < get_or others n 0 → cand ≡ get_or heads n 0 →
    next ≡ min least cand →
    IsLeastSoFar heads others n least → IsLeastSoFar heads others m next
open_next heads others n m least next cand lt more low is e s = record {
  below = λ k lk below. elim (cases_eq k n) [
    | inl same ↦ omega (arith, e, is, ap (λ j. get_or heads j 0) same)
    | inr ne ↦ omega (arith, e, s.below k (omega arith) below)
  ];
  found = elim (cases_lt least cand) [
    | inl less ↦ subst (λ x. (x ≡ no_rank) ⊎ ((k : ℕ) × (k < length heads) × (get_or heads k 0 ≡ x) × (x < get_or others k 0))) (omega (arith, e, less)) s.found
    | inr le ↦ inr (n, lt, omega (arith, e, is, le), omega (arith, e, is, le, low))
  ];
}

-- the next head is not
pub closed_next : (heads others : List ℕ) (n m least next cand : ℕ) → m ≡ n + 1 → get_or others n 0 ≤ get_or heads n 0 → cand ≡ no_rank → next ≡ min least cand →
    IsLeastSoFar heads others n least → IsLeastSoFar heads others m next
closed_next heads others n m least next cand more high is e s = record {
  below = λ k lk below. elim (cases_eq k n) [
    | inl same ↦ absurd (omega (arith, high, below, ap (λ j. get_or heads j 0) same, ap (λ j. get_or others j 0) same))
    | inr ne ↦ omega (arith, e, s.below k (omega arith) below)
  ];
  found = elim (cases_lt least cand) [
    | inl less ↦ subst (λ x. (x ≡ no_rank) ⊎ ((k : ℕ) × (k < length heads) × (get_or heads k 0 ≡ x) × (x < get_or others k 0))) (omega (arith, e, less)) s.found
    | inr le ↦ inl (omega (arith, e, is, le))
  ];
}

-- the row of a port is in the table
pub row_end : (ports port size : ℕ) → port < ports + ports → size ≡ (ports + ports) * ports → port * ports + ports ≤ size
row_end ports port size lt is =
    omega (arith, mul-add-lt port ports (ports - 1) (ports + ports) lt (omega (arith, lt)), is)

-- the row of a port, and what stands at the ports of the other side
looked : (ports port least : ℕ) (heads at row others : List ℕ) → length row ≡ ports → ((k : ℕ) → k < ports → get_or row k 0 ≡ get_or heads (port * ports + k) 0) →
    ((k : ℕ) → k < ports → get_or others k 0 ≡ get_or at (opposite ports port k) 0) → IsLeastOpen row others least → IsLooked ports heads at port least
looked ports port least heads at row others long row_is others_are l = record {
  below = λ k lk lower.
      let e = row_is k lk in
      let o = others_are k lk in
      subst (λ x. least ≤ x) e (l.below k (omega (arith, long, lk)) (omega (arith, e, o, lower)));
  found = elim l.found [
    | inl none ↦ inl none
    | inr (k, inside, is, lower) ↦
        let lk : k < ports = omega (arith, long, inside) in
        inr (k, lk, sym (row_is k lk) ∙ is, subst (λ x. least < x) (others_are k lk) lower)
  ];
}

module _ (ports port least n : ℕ) (heads at : List ℕ) (lt : port < ports + ports) (size : length heads ≡ (ports + ports) * ports) (all : n ≡ ports) where
  row_long : length (take n (drop (port * ports) heads)) ≡ ports
  row_long =
      let inside = row_end ports port (length heads) lt size in
      length-take-le n (drop (port * ports) heads) (omega (arith, all, inside, length-drop (port * ports) heads)) ∙ all

  row_is : (k : ℕ) → k < ports → get_or (take n (drop (port * ports) heads)) k 0 ≡ get_or heads (port * ports + k) 0
  row_is k lk = get_or-take n (drop (port * ports) heads) k 0 (omega (arith, all, lk)) ∙ get_or-drop (port * ports) heads k 0

  -- the port is of the first side
  pub looked_first : (m : ℕ) → port < ports → m ≡ ports → IsLeastOpen (take n (drop (port * ports) heads)) (take m (drop ports at)) least → IsLooked ports heads at port least
  looked_first m low rest l = looked ports port least heads at (take n (drop (port * ports) heads)) (take m (drop ports at)) row_long row_is
      (λ k lk. get_or-take m (drop ports at) k 0 (omega (arith, rest, lk)) ∙ get_or-drop ports at k 0 ∙ ap (λ j. get_or at j 0) (sym (opposite_first ports port k low))) l

  -- the port is of the second side
  pub looked_second : ports ≤ port → IsLeastOpen (take n (drop (port * ports) heads)) (take ports at) least → IsLooked ports heads at port least
  looked_second high l = looked ports port least heads at (take n (drop (port * ports) heads)) (take ports at) row_long row_is
      (λ k lk. get_or-take ports at k 0 lk ∙ ap (λ j. get_or at j 0) (sym (opposite_second ports port k high))) l
