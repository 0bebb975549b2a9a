-- Where the flows of each coflow begin, coflow after coflow.
use Rattle.std.proofs.Common.{◌≡◌, ◌≢◌, ℕ, ◌+◌, ◌<◌, ◌≤◌, inl, inr, List, [], ◌∷◌, ◌++◌, length, sym, ap, ◌∙◌, arith}
use Rattle.std.specs.Prelude.{All, slice_index}
use Rattle.std.specs.List.Sorted.{IsNonDecreasingBy}
use Rattle.std.proofs.lemmas.Bool.{cases_lt}
use Rattle.std.proofs.lemmas.List.{get_or_append_left, get_or_push, length_push}
use Rattle.std.proofs.lemmas.List.Elements.{All-push}
use Rattle.coflow_units.specs.declared.fabric.Flow.{Flow}
use Rattle.coflow_units.specs.Flows.{coflow_of}

-- the starts of the coflows so far, and the end of the last one of them
pub record StartsSoFar (flows : List Flow) (k first : ℕ) (starts : List ℕ) : Type 0 where
  pub count : length starts ≡ k
  pub bound : first ≤ length flows
  pub earlier : (f : ℕ) → f < first → coflow_of flows f < k
  pub later : (f : ℕ) → first ≤ f → f < length flows → k ≤ coflow_of flows f
  pub within : All (λ s. s ≤ length flows) (starts ++ first ∷ [])
  pub rise : (c : ℕ) → c < k → slice_index (starts ++ first ∷ []) c ≤ slice_index (starts ++ first ∷ []) (c + 1)
  pub own : (c f : ℕ) → c < k → slice_index (starts ++ first ∷ []) c ≤ f → f < slice_index (starts ++ first ∷ []) (c + 1) → coflow_of flows f ≡ c
  pub all : (f : ℕ) → f < first → (slice_index (starts ++ first ∷ []) (coflow_of flows f) ≤ f) × (f < slice_index (starts ++ first ∷ []) (coflow_of flows f + 1))

module _ (flows : List Flow) (k first end : ℕ) (starts : List ℕ) (up : IsNonDecreasingBy (λ (x : Flow). x.coflow) flows) (h : StartsSoFar flows k first starts)
    (bound : (first ≤ end) × (end ≤ length flows)) (own : (f : ℕ) → first ≤ f → f < end → coflow_of flows f ≡ k) (last : end < length flows → coflow_of flows end ≢ k) where
  abbrev before : List ℕ
  before = starts ++ first ∷ []

  long : length before ≡ k + 1
  long = length_push starts first ∙ ap (λ n. n + 1) h.count

  old : (c : ℕ) → c < k + 1 → slice_index (before ++ end ∷ []) c ≡ slice_index before c
  old c lt = get_or_append_left before (end ∷ []) 0 c (omega (arith, long))

  at_first : slice_index before k ≡ first
  at_first = get_or_push starts first 0 k h.count

  at_end : slice_index (before ++ end ∷ []) (k + 1) ≡ end
  at_end = get_or_push before end 0 (k + 1) long

  apart : (m n : ℕ) → n ≤ m → (m ≡ n → ⊥) → n < m
  apart m n le ne = grind arith

  pub starts_more : StartsSoFar flows (k + 1) end before
  starts_more = record {
    count = long;
    bound = bound.1;
    earlier = λ f lt. elim (cases_lt f first) [
      | inl less ↦ omega (arith, h.earlier f less)
      | inr from ↦ omega (arith, own f from lt)
    ];
    later = λ f low high.
        let some : end < length flows = omega arith in
        omega (arith, up end f record { coflow = 0; ingress = 0; egress = 0; units = 0 } low high, apart (coflow_of flows end) k (h.later end bound.0 some) (last some));
    within = All-push (λ s. s ≤ length flows) before end h.within bound.1;
    rise = λ c lt. elim (cases_lt c k) [
      | inl less ↦ omega (arith, h.rise c less, old c (omega arith), old (c + 1) (omega arith))
      | inr past ↦
          let e : c ≡ k = omega arith in
          omega (arith, ap (λ n. slice_index (before ++ end ∷ []) n) e, ap (λ n. slice_index (before ++ end ∷ []) (n + 1)) e, old k (omega arith), at_first, at_end)
    ];
    own = λ c f lt low high. elim (cases_lt c k) [
      | inl less ↦ h.own c f less (omega (arith, old c (omega arith))) (omega (arith, old (c + 1) (omega arith)))
      | inr past ↦
          let e : c ≡ k = omega arith in
          let low' : first ≤ f = omega (arith, ap (λ n. slice_index (before ++ end ∷ []) n) e, old k (omega arith), at_first) in
          let high' : f < end = omega (arith, ap (λ n. slice_index (before ++ end ∷ []) (n + 1)) e, at_end) in
          own f low' high' ∙ sym e
    ];
    all = λ f lt. elim (cases_lt f first) [
      | inl less ↦
          let c = coflow_of flows f in
          let lc : c < k = h.earlier f less in
          (omega (arith, old c (omega arith), (h.all f less).0), omega (arith, old (c + 1) (omega arith), (h.all f less).1))
      | inr from ↦
          let e : coflow_of flows f ≡ k = own f from lt in (
            omega (arith, ap (λ n. slice_index (before ++ end ∷ []) n) e, old k (omega arith), at_first),
            omega (arith, ap (λ n. slice_index (before ++ end ∷ []) (n + 1)) e, at_end),
          )
    ];
  }
