-- Bits of words: one is set or cleared, and the others stay.
use Rattle.std.proofs.Common.{◌≡◌, ◌≢◌, ℕ, ◌+◌, ◌-◌, ◌*◌, ◌/◌, ◌%◌, ◌^◌, ◌<◌, ◌≤◌, ◌++◌, inl, inr, List, length}
use Rattle.std.proofs.Common.{get_or, set, replicate, drop, min, w64, sym, ap, ◌∙◌, arith}
use Rattle.std.specs.Prelude.{bit_and, bit_or}
use Rattle.std.specs.Int.{bit_at, bit_not, trailing_zeros}
use Rattle.std.proofs.lemmas.Bool.{cases_eq, cases_lt}
use Rattle.std.proofs.lemmas.List.{get_or-append_right, get_or-drop, get_or-replicate, get_or-set_same, get_or-set_other, get_or_append_left}
use Rattle.std.proofs.lemmas.List.{get_or_past, length-append, length-drop, length-replicate}
use Rattle.std.proofs.lemmas.Nat.{div-mul-add, mod-mul-add, mul-add-lt}
use Rattle.std.proofs.lemmas.Nat.Bits.{bit_at-lt, bit_at-zero, bit_at-trailing_zeros, bit_at_and, bit_at_clear_same, bit_at_clear_other, bit_at_set_same, bit_at_set_other}
use Rattle.matching.specs.Rows.{bit_of}

-- the place of a bit is its own
pub one_place : (w k e l f : ℕ) → e < 64 * w → f < 64 * w → k * w + e / 64 ≡ l * w + f / 64 → e % 64 ≡ f % 64 → (k ≡ l) × (e ≡ f)
one_place w k e l f low low' same rest =
    let a : e / 64 < w = omega arith in
    let b : f / 64 < w = omega arith in
    let row : k ≡ l = sym (div-mul-add k w (e / 64) a) ∙ ap (λ n. n / w) same ∙ div-mul-add l w (f / 64) b in
    let word : e / 64 ≡ f / 64 = sym (mod-mul-add k w (e / 64) a) ∙ ap (λ n. n % w) same ∙ mod-mul-add l w (f / 64) b in
    (row, omega (arith, word, rest))

pub place_in : (w k e rows : ℕ) → k < rows → e < 64 * w → k * w + e / 64 < rows * w
place_in w k e rows lt low = let a : e / 64 < w = omega arith in omega (arith, mul-add-lt k w (e / 64) rows lt a)

abbrev pub set_in : ℕ → ℕ → ℕ
set_in word e = bit_or word (1 * 2 ^ (e % 64) % 2 ^ 64)

abbrev pub cleared_in : ℕ → ℕ → ℕ
cleared_in word e = bit_and word (bit_not w64 (1 * 2 ^ (e % 64) % 2 ^ 64))

module _ (words : List ℕ) (p e : ℕ) (inside : p < length words) where
  pub set_here : (start : ℕ) → p ≡ start + e / 64 → bit_of (set words p (set_in (get_or words p 0) e)) start e ≡ 1
  set_here start is =
      ap (λ q. bit_at (get_or (set words p (set_in (get_or words p 0) e)) q 0) (e % 64)) (sym is) ∙
      ap (λ x. bit_at x (e % 64)) (get_or-set_same words p (set_in (get_or words p 0) e) 0 inside) ∙ bit_at_set_same w64 (get_or words p 0) (e % 64) (omega arith)

  pub set_elsewhere : (start f : ℕ) → (p ≡ start + f / 64 → e % 64 ≡ f % 64 → ⊥) → bit_of (set words p (set_in (get_or words p 0) e)) start f ≡ bit_of words start f
  set_elsewhere start f apart = elim (cases_eq p (start + f / 64)) [
    | inl same ↦
        ap (λ q. bit_at (get_or (set words p (set_in (get_or words p 0) e)) q 0) (f % 64)) (sym same) ∙
        ap (λ x. bit_at x (f % 64)) (get_or-set_same words p (set_in (get_or words p 0) e) 0 inside) ∙
        bit_at_set_other w64 (get_or words p 0) (e % 64) (omega arith) (f % 64) (λ x. apart same (sym x)) ∙ ap (λ q. bit_at (get_or words q 0) (f % 64)) same
    | inr ne ↦ ap (λ x. bit_at x (f % 64)) (get_or-set_other words p (start + f / 64) (set_in (get_or words p 0) e) 0 (λ x. ne (sym x)))
  ]

  pub cleared_here : (start : ℕ) → p ≡ start + e / 64 → bit_of (set words p (cleared_in (get_or words p 0) e)) start e ≡ 0
  cleared_here start is =
      ap (λ q. bit_at (get_or (set words p (cleared_in (get_or words p 0) e)) q 0) (e % 64)) (sym is) ∙
      ap (λ x. bit_at x (e % 64)) (get_or-set_same words p (cleared_in (get_or words p 0) e) 0 inside) ∙ bit_at_clear_same w64 (get_or words p 0) (e % 64) (omega arith)

  pub cleared_elsewhere : (start f : ℕ) → (p ≡ start + f / 64 → e % 64 ≡ f % 64 → ⊥) → bit_of (set words p (cleared_in (get_or words p 0) e)) start f ≡ bit_of words start f
  cleared_elsewhere start f apart = elim (cases_eq p (start + f / 64)) [
    | inl same ↦
        ap (λ q. bit_at (get_or (set words p (cleared_in (get_or words p 0) e)) q 0) (f % 64)) (sym same) ∙
        ap (λ x. bit_at x (f % 64)) (get_or-set_same words p (cleared_in (get_or words p 0) e) 0 inside) ∙
        bit_at_clear_other w64 (get_or words p 0) (e % 64) (omega arith) (f % 64) (omega arith) (λ x. apart same (sym x)) ∙
        ap (λ q. bit_at (get_or words q 0) (f % 64)) same
    | inr ne ↦ ap (λ x. bit_at x (f % 64)) (get_or-set_other words p (start + f / 64) (cleared_in (get_or words p 0) e) 0 (λ x. ne (sym x)))
  ]

pub bit_is : (words : List ℕ) (start e : ℕ) → bit_of words start e ≢ 1 → bit_of words start e ≡ 0
bit_is words start e ne = omega (arith, bit_at-lt (get_or words (start + e / 64) 0) (e % 64), ne)

-- ---- the bits that two words have in common

common_at : (words free : List ℕ) (start word both e : ℕ) → both ≡ bit_and (get_or words (start + word) 0) (get_or free word 0) → e / 64 ≡ word →
    bit_at both (e % 64) ≡ min (bit_of words start e) (bit_of free 0 e)
common_at words free start word both e is at_word =
    let a : start + word ≡ start + e / 64 = omega (arith, at_word) in
    let b : word ≡ 0 + e / 64 = omega (arith, at_word) in
    ap (λ x. bit_at x (e % 64)) is ∙ bit_at_and (get_or words (start + word) 0) (get_or free word 0) (e % 64) ∙
    ap (λ x. min (bit_at (get_or words x 0) (e % 64)) (bit_at (get_or free word 0) (e % 64))) a ∙
    ap (λ x. min (bit_of words start e) (bit_at (get_or free x 0) (e % 64))) b

pub none_common : (words free : List ℕ) (start word both e : ℕ) → both ≡ bit_and (get_or words (start + word) 0) (get_or free word 0) →
    both ≡ 0 → 64 * word ≤ e → e < 64 * (word + 1) →
    bit_of words start e ≡ 1 → bit_of free 0 e ≡ 0
none_common words free start word both e is zero le lt one =
    omega (arith, common_at words free start word both e is (omega (arith, le, lt)), ap (λ x. bit_at x (e % 64)) zero, bit_at-zero (e % 64), one)

pub record IsLeastCommon (words free : List ℕ) (start word t : ℕ) : Type 0 where
  pub low : t < 64
  pub first : bit_of words start (word * 64 + t) ≡ 1
  pub second : bit_of free 0 (word * 64 + t) ≡ 1
  pub before : (e : ℕ) → 64 * word ≤ e → e < word * 64 + t → bit_of words start e ≡ 1 → bit_of free 0 e ≡ 0

pub least_common : (words free : List ℕ) (start word both : ℕ) → both ≡ bit_and (get_or words (start + word) 0) (get_or free word 0) → 0 < both → both < 2 ^ 64 →
    IsLeastCommon words free start word (trailing_zeros w64 both)
least_common words free start word both is some small =
    let t = trailing_zeros w64 both in
    let (low, one, before) = bit_at-trailing_zeros w64 both some small in
    let place : (word * 64 + t) % 64 ≡ t = omega (arith, low) in
    let here = common_at words free start word both (word * 64 + t) is (omega (arith, low)) in
    let set = ap (bit_at both) place in
    record {
      low = low;
      first = omega (arith, here, set, one, bit_at-lt (get_or words (start + (word * 64 + t) / 64) 0) ((word * 64 + t) % 64));
      second = omega (arith, here, set, one, bit_at-lt (get_or free (0 + (word * 64 + t) / 64) 0) ((word * 64 + t) % 64));
      before = λ e le lt owed.
          omega (arith, common_at words free start word both e is (omega (arith, le, lt, low)), before (e % 64) (omega (arith, le, lt, low)), owed);
    }

pub no_bits : (n e : ℕ) → bit_of (replicate n 0) 0 e ≡ 0
no_bits n e = elim (cases_lt (0 + e / 64) n) [
  | inl lt ↦ ap (λ x. bit_at x (e % 64)) (get_or-replicate n (0 + e / 64) 0 0 lt) ∙ bit_at-zero (e % 64)
  | inr ge ↦ ap (λ x. bit_at x (e % 64)) (get_or_past (replicate n 0) (0 + e / 64) 0 (omega (arith, ge, length-replicate {A = ℕ} n 0))) ∙ bit_at-zero (e % 64)
]

-- ---- words of which the first ones are cleared

pub front_size : (words : List ℕ) (n : ℕ) → n ≤ length words → length (replicate n 0 ++ drop n words) ≡ length words
front_size words n le = let cleared : List ℕ = replicate n 0 in length-append cleared (drop n words) ∙ omega (arith, le, length-replicate {A = ℕ} n 0, length-drop n words)

pub front_cleared : (words : List ℕ) (n start e : ℕ) → (n ≤ start + e / 64 → bit_of words start e ≡ 0) → bit_of (replicate n 0 ++ drop n words) start e ≡ 0
front_cleared words n start e behind =
    let p = start + e / 64 in
    let cleared : List ℕ = replicate n 0 in
    let size : length cleared ≡ n = length-replicate {A = ℕ} n 0 in
    elim (cases_lt p n) [
      | inl lt ↦ ap (λ x. bit_at x (e % 64)) (get_or_append_left cleared (drop n words) 0 p (omega (arith, lt, size)) ∙ get_or-replicate n p 0 0 lt) ∙
          bit_at-zero (e % 64)
      | inr ge ↦ ap (λ x. bit_at x (e % 64)) (get_or-append_right cleared (drop n words) n p 0 size (omega (arith, ge)) ∙ get_or-drop n words (p - n) 0 ∙
          ap (λ q. get_or words q 0) {x = n + (p - n)} {y = p} (omega (arith, ge))) ∙ behind (omega (arith, ge))
    ]
