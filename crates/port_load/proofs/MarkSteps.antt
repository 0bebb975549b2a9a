-- Marks are set, and a walk passes by the columns that have none.
use Rattle.std.proofs.Common.{◌≡◌, ℕ, ◌+◌, ◌-◌, ◌*◌, ◌/◌, ◌%◌, ◌^◌, ◌<◌, ◌≤◌, inl, inr, List, length, w64, sym, ap, ◌∙◌, arith, shl_exact, shr-shr}
use Rattle.std.specs.Prelude.{bit_or, slice_index, slice_set}
use Rattle.std.specs.Int.{bit_at, trailing_zeros}
use Rattle.std.proofs.lemmas.Bool.{cases_eq, cases_lt}
use Rattle.std.proofs.lemmas.List.{get_or-set_same, get_or-set_other}
use Rattle.std.proofs.lemmas.Nat.Bits.{bit_at-lt, bit_at-pow_same, bit_at-trailing_zeros, bit_at-zero, bit_at_above, bit_at_or}
use Rattle.port_load.specs.MarkTable.{bit_of, width}

-- ---- a mark is set

one_bit : (k : ℕ) → k < 64 → bit_at (1 * 2 ^ k % 2 ^ 64) k ≡ 1
one_bit k lt = ap (λ x. bit_at x k) (shl_exact {a = 1} 1 k 64 (omega arith) (omega arith) ∙ omega arith) ∙ bit_at-pow_same k

pub set_bit : (word k : ℕ) → k < 64 → bit_at (bit_or word (1 * 2 ^ k % 2 ^ 64)) k ≡ 1
set_bit word k lt = bit_at_or word (1 * 2 ^ k % 2 ^ 64) k ∙ omega (arith, one_bit k lt, bit_at-lt word k)

pub bit_stays : (word v i : ℕ) → bit_at (bit_or word v) i ≡ 0 → bit_at word i ≡ 0
bit_stays word v i none = omega (arith, none, bit_at_or word v i)

pub marked_at : (words : List ℕ) (columns row column k v : ℕ) → k ≡ row * width columns + column / 64 → k < length words → bit_at v (column % 64) ≡ 1 →
    bit_of (slice_set words k v) columns row column ≡ 1
marked_at words columns row column k v is lt one =
    ap (λ j. bit_at (slice_index (slice_set words k v) j) (column % 64)) (sym is) ∙ ap (λ x. bit_at x (column % 64)) (get_or-set_same words k v 0 lt) ∙ one

pub others_stay : (words : List ℕ) (columns k word v r c : ℕ) → k < length words → word ≡ slice_index words k → bit_of (slice_set words k (bit_or word v)) columns r c ≡ 0 →
    bit_of words columns r c ≡ 0
others_stay words columns k word v r c lt is none =
    let j = r * width columns + c / 64 in
    elim (cases_eq j k) [
      | inl e ↦
          let new = ap (λ n. bit_at (slice_index (slice_set words k (bit_or word v)) n) (c % 64)) e ∙ ap (λ x. bit_at x (c % 64)) (get_or-set_same words k (bit_or word v) 0 lt) in
          ap (λ n. bit_at (slice_index words n) (c % 64)) e ∙ ap (λ x. bit_at x (c % 64)) (sym is) ∙ bit_stays word v (c % 64) (sym new ∙ none)
      | inr ne ↦ ap (λ x. bit_at x (c % 64)) (sym (get_or-set_other words k j (bit_or word v) 0 ne)) ∙ none
    ]

-- ---- a walk

-- a column of the word in which the walk stands
bit_ahead : (words : List ℕ) (columns row at word c : ℕ) → word ≡ slice_index words (row * width columns + at / 64) → at ≤ c → c / 64 ≡ at / 64 →
    bit_of words columns row c ≡ bit_at (word / 2 ^ (at % 64)) (c - at)
bit_ahead words columns row at word c is le same =
    let place : c % 64 ≡ at % 64 + (c - at) = omega (arith, same) in
    ap (λ j. bit_at (slice_index words (row * width columns + j)) (c % 64)) same ∙ ap (λ w. bit_at w (c % 64)) (sym is) ∙ ap (bit_at word) place ∙
    sym (ap (λ x. x % 2) (shr-shr word (at % 64) (c - at)))

pub none_in_word : (words : List ℕ) (columns row at word : ℕ) → word ≡ slice_index words (row * width columns + at / 64) → word / 2 ^ (at % 64) ≡ 0 → (c : ℕ) → at ≤ c →
    c < (at / 64 + 1) * 64 → bit_of words columns row c ≡ 0
none_in_word words columns row at word is empty c le lt =
    let same : c / 64 ≡ at / 64 = omega arith in
    bit_ahead words columns row at word c is le same ∙ ap (λ x. bit_at x (c - at)) empty ∙ bit_at-zero (c - at)

-- a bit that is set is one of the word's 64
bit_within : (word s t : ℕ) → word < 2 ^ 64 → bit_at (word / 2 ^ s) t ≡ 1 → s + t < 64
bit_within word s t small one = elim (cases_lt (s + t) 64) [
  | inl lt ↦ lt
  | inr le ↦ absurd (omega (arith, one, ap (λ x. x % 2) (shr-shr word s t), bit_at_above word 64 (s + t) small le))
]

pub none_before_bit : (words : List ℕ) (columns row at word : ℕ) → word ≡ slice_index words (row * width columns + at / 64) → word < 2 ^ 64 → 0 < word / 2 ^ (at % 64) →
    word / 2 ^ (at % 64) < 2 ^ 64 →
    (c : ℕ) → at ≤ c → c < at + trailing_zeros w64 (word / 2 ^ (at % 64)) → bit_of words columns row c ≡ 0
none_before_bit words columns row at word is small some small' c le lt =
    let lowest = bit_at-trailing_zeros w64 (word / 2 ^ (at % 64)) some small' in
    let within = bit_within word (at % 64) (trailing_zeros w64 (word / 2 ^ (at % 64))) small lowest.1 in
    let same : c / 64 ≡ at / 64 = omega (arith, within) in
    bit_ahead words columns row at word c is le same ∙ lowest.2 (c - at) (omega arith)
