-- Bits of free ports: one is set where nothing stands.
use Rattle.std.proofs.Common.{◌≡◌, ◌≢◌, ℕ, ◌+◌, ◌-◌, ◌/◌, ◌≤◌, ◌<◌, inl, inr, List, length}
use Rattle.std.proofs.Common.{get_or, set, drop, take, sym, ap, subst, ◌∙◌, arith}
use Rattle.std.proofs.lemmas.Bool.{cases_eq}
use Rattle.std.proofs.lemmas.List.{get_or-drop, get_or-take, length-drop, length-take}
use Rattle.matching.specs.Board.{no_rank}
use Rattle.matching.specs.Rows.{bit_of}
use Rattle.matching.specs.Pass.{IsFree, IsFreeBits}
use Rattle.matching.proofs.BitSteps.{set_in, set_here, set_elsewhere}

pub record IsFreeSoFar (at bits : List ℕ) (n : ℕ) : Type 0 where
  pub free : (e : ℕ) → e < n → bit_of bits 0 e ≡ 1 → get_or at e 0 ≡ no_rank
  pub taken : (e : ℕ) → e < n → bit_of bits 0 e ≡ 0 → get_or at e 0 ≢ no_rank
  pub later : (e : ℕ) → n ≤ e → bit_of bits 0 e ≡ 0

pub taken_next : (at bits : List ℕ) (n : ℕ) → get_or at n 0 ≢ no_rank → IsFreeSoFar at bits n → IsFreeSoFar at bits (n + 1)
taken_next at bits n some s = record {
  free = λ e lt one. elim (cases_eq e n) [
    | inl same ↦ absurd (omega (arith, s.later e (omega (arith, same)), one))
    | inr ne ↦ s.free e (omega (arith, lt, ne)) one
  ];
  taken = λ e lt zero. elim (cases_eq e n) [
    | inl same ↦ λ none. some (ap (λ j. get_or at j 0) (sym same) ∙ none)
    | inr ne ↦ s.taken e (omega (arith, lt, ne)) zero
  ];
  later = λ e le. s.later e (omega (arith, le));
}

pub free_next : (at bits : List ℕ) (n : ℕ) → n / 64 < length bits → get_or at n 0 ≡ no_rank → IsFreeSoFar at bits n →
    IsFreeSoFar at (set bits (n / 64) (set_in (get_or bits (n / 64) 0) n)) (n + 1)
free_next at bits n inside none s = record {
  free = λ e lt one. elim (cases_eq e n) [
    | inl same ↦ ap (λ j. get_or at j 0) same ∙ none
    | inr ne ↦ s.free e (omega (arith, lt, ne)) (sym (other e ne) ∙ one)
  ];
  taken = λ e lt zero. elim (cases_eq e n) [
    | inl same ↦ absurd (omega (arith, here, ap (bit_of new 0) same, zero))
    | inr ne ↦ s.taken e (omega (arith, lt, ne)) (sym (other e ne) ∙ zero)
  ];
  later = λ e le. other e (omega (arith, le)) ∙ s.later e (omega (arith, le));
} where
  new : List ℕ
  new = set bits (n / 64) (set_in (get_or bits (n / 64) 0) n)

  here : bit_of new 0 n ≡ 1
  here = set_here bits (n / 64) n inside 0 (omega arith)

  other : (e : ℕ) → e ≢ n → bit_of new 0 e ≡ bit_of bits 0 e
  other e ne = set_elsewhere bits (n / 64) n inside 0 e (λ same rest. ne (omega (arith, same, rest)))

pub free_bits : (ports : ℕ) (at piece bits : List ℕ) → ports ≤ length piece → ((e : ℕ) → e < ports → get_or piece e 0 ≡ get_or at (ports + e) 0) → IsFreeBits piece bits →
    IsFree ports at bits
free_bits ports at piece bits size same f = record {
  free = λ e lt one. sym (same e lt) ∙ f.free e (omega (arith, lt, size)) one;
  taken = λ e lt zero none. f.taken e (omega (arith, lt, size)) zero (same e lt ∙ none);
}

-- the ports of the second side stand behind those of the first
pub from_piece : (ports : ℕ) (xs at bits : List ℕ) → xs ≡ at → length at ≡ ports + ports → IsFreeBits (take (length xs - ports) (drop ports xs)) bits → IsFree ports at bits
from_piece ports xs at bits is size f =
    let f' = subst (λ (ys : List ℕ). IsFreeBits (take (length ys - ports) (drop ports ys)) bits) is f in
    free_bits ports at (take (length at - ports) (drop ports at)) bits
    (omega (arith, size, length-take (length at - ports) (drop ports at), length-drop ports at))
    (λ e lt. get_or-take (length at - ports) (drop ports at) e 0 (omega (arith, size, lt)) ∙ get_or-drop ports at e 0) f'
