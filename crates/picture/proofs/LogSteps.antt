-- Doublings and squarings, one more.
use Rattle.std.proofs.Common.{◌≡◌, ℕ, ◌+◌, ◌-◌, ◌*◌, ◌/◌, ◌^◌, ◌<◌, ◌≤◌, inl, inr, leb, true, false, zero, suc, refl, sym, ap, ◌∙◌, arith, zero-add}
use Rattle.std.proofs.Math.Nat.{div-div-eq-div-mul, mul-le-mul, mul-le-mul_right, pow-le-pow_right, pow-succ'}
use Rattle.std.proofs.lemmas.Bool.{cases_lt}
use Rattle.std.proofs.lemmas.Bool.Decides.{nat_tests}
use Rattle.std.proofs.lemmas.Grind.{pow_more}
use Rattle.std.proofs.lemmas.Nat.{pow_pos}
use Rattle.picture.specs.Log.{doublings, fraction}

-- ---- doublings

stops : (k b c : ℕ) → c < 2 * b → doublings k b c ≡ 0
unfolding doublings
stops zero b c lt = refl
stops (suc k) b c lt = let e : leb (2 * b) c ≡ false = grind (arith, nat_tests) in rw e refl

goes_on : (k b c : ℕ) → 2 * b ≤ c → doublings (suc k) b c ≡ suc (doublings k (2 * b) c)
unfolding doublings
goes_on k b c le = let e : leb (2 * b) c ≡ true = grind (arith, nat_tests) in rw e refl

-- b was doubled so often
pub record IsDoubled (b c doubled count : ℕ) : Type 0 where
  pub same : count + doublings (96 - count) doubled c ≡ doublings 96 b c
  pub doubled_is : doubled ≡ b * 2 ^ count
  pub within : doubled ≤ c

pub doubled_none : (b c : ℕ) → b ≤ c → IsDoubled b c b 0
doubled_none b c le = record { same = zero-add (doublings 96 b c); doubled_is = omega arith; within = le }

too_many : (b c doubled count : ℕ) → 1 ≤ b → c ≤ 2 ^ 96 → 96 < count → doubled ≤ c → doubled ≡ b * 2 ^ count → ⊥
too_many b c doubled count some small lt within is =
    let least : 2 ^ 97 ≤ 2 ^ count = pow-le-pow_right {n = 2} (omega arith) {i = 97} {j = count} lt in
    let times : 1 * 2 ^ count ≤ b * 2 ^ count = mul-le-mul_right (2 ^ count) some in
    omega (arith, least, times, is, within, small)

pub few_doublings : (b c doubled count : ℕ) → 1 ≤ b → c ≤ 2 ^ 96 → IsDoubled b c doubled count → count ≤ 96
few_doublings b c doubled count some small is = elim (cases_lt 96 count) [
  | inl lt ↦ absurd (too_many b c doubled count some small lt is.within is.doubled_is)
  | inr le ↦ le
]

pub doubled_more : (b c doubled count : ℕ) → 1 ≤ b → c ≤ 2 ^ 96 → IsDoubled b c doubled count → 2 * doubled ≤ c → IsDoubled b c (doubled * 2) (count + 1)
doubled_more b c doubled count some small is le =
    let grown : doubled * 2 ≡ b * 2 ^ (count + 1) = ap (λ n. n * 2) is.doubled_is ∙ (mul_two b (2 ^ count) ∙ ap (λ n. b * n) (sym (pow_more 2 count))) in
    let few : count + 1 ≤ 96 = elim (cases_lt 96 (count + 1)) [
      | inl lt ↦ absurd (too_many b c (doubled * 2) (count + 1) some small lt (omega (arith, le)) grown)
      | inr h ↦ h
    ] in
    let one_left : 96 - count ≡ suc (96 - (count + 1)) = omega arith in
    let twice : 2 * doubled ≡ doubled * 2 = omega arith in
    let step : doublings (96 - count) doubled c ≡ suc (doublings (96 - (count + 1)) (doubled * 2) c) =
    ap (λ k. doublings k doubled c) one_left ∙ (goes_on (96 - (count + 1)) doubled c le ∙ ap (λ n. suc (doublings (96 - (count + 1)) n c)) twice) in
    record {
      same = omega (arith, is.same, step);
      doubled_is = grown;
      within = omega (arith, le);
    }
  where
    mul_two : (x y : ℕ) → x * y * 2 ≡ x * (y * 2)
    mul_two x y = grind arith

pub doubled_all : (b c doubled count : ℕ) → IsDoubled b c doubled count → c < 2 * doubled → count ≡ doublings 96 b c
doubled_all b c doubled count is lt = omega (arith, is.same, stops (96 - count) doubled c lt)

-- ---- squarings

stays : (k m : ℕ) → m * m / 2 ^ 31 < 2 ^ 32 → fraction (suc k) m ≡ fraction k (m * m / 2 ^ 31)
unfolding fraction
stays k m lt = let e : leb (2 ^ 32) (m * m / 2 ^ 31) ≡ false = grind (arith, nat_tests) in rw e refl

rises : (k m : ℕ) → 2 ^ 32 ≤ m * m / 2 ^ 31 → fraction (suc k) m ≡ 2 ^ k + fraction k (m * m / 2 ^ 31 / 2)
unfolding fraction
rises k m le =
    let e : leb (2 ^ 32) (m * m / 2 ^ 31) ≡ true = grind (arith, nat_tests) in
    let half : m * m / 2 ^ 31 / 2 ≡ m * m / 2 ^ 32 = div-div-eq-div-mul (m * m) (2 ^ 31) 2 in
    rw (e, half) refl

-- the bits so far, and a number whose logarithm has so many bits more
pub record HasBits (start number bits left : ℕ) : Type 0 where
  pub same : bits * 2 ^ left + fraction left number ≡ fraction 10 start
  pub from : 2 ^ 31 ≤ number
  pub below : number < 2 ^ 32
  pub few : (bits + 1) * 2 ^ left ≤ 1024

pub no_bits : (start : ℕ) → 2 ^ 31 ≤ start → start < 2 ^ 32 → HasBits start start 0 10
no_bits start from below = record { same = zero-add (fraction 10 start); from = from; below = below; few = omega arith }

squared : (m : ℕ) → 2 ^ 31 ≤ m → m < 2 ^ 32 → (2 ^ 62 ≤ m * m) × (m * m ≤ 18446744065119617025)
squared m from below =
    (mul-le-mul {n₁ = 2 ^ 31} {m₁ = 2 ^ 31} {n₂ = m} {m₂ = m} from from, mul-le-mul {n₁ = m} {m₁ = m} {n₂ = 4294967295} {m₂ = 4294967295} (omega arith) (omega arith))

pub fits : (start number bits left : ℕ) → HasBits start number bits left → number * number < 2 ^ 64
fits start number bits left has = omega (arith, (squared number has.from has.below).1)

pub few_bits : (start number bits left : ℕ) → HasBits start number bits left → bits < 1024
few_bits start number bits left has =
    omega (arith, has.few, mul-le-mul {n₁ = bits + 1} {m₁ = 1} {n₂ = bits + 1} {m₂ = 2 ^ left} (omega arith) (pow_pos left))

pub bit_low : (start number bits left : ℕ) → HasBits start number bits (suc left) → number * number / 2 ^ 31 < 2 ^ 32 →
    HasBits start (number * number / 2 ^ 31) (bits * 2) left
bit_low start number bits left has lt =
    let (least, most) = squared number has.from has.below in
    let twice : 2 ^ suc left ≡ 2 ^ left * 2 = pow-succ' 2 left ∙ two_times (2 ^ left) in
    let old = rw (twice, stays left number lt) at has.same in
    let few = rw twice at has.few in
    record {
      same = low (2 ^ left) (fraction left (number * number / 2 ^ 31)) old;
      from = omega (arith, least);
      below = lt;
      few = low_few (2 ^ left) few;
    }
  where
    two_times : (p : ℕ) → 2 * p ≡ p * 2
    two_times p = omega arith

    low : (p f : ℕ) → bits * (p * 2) + f ≡ fraction 10 start → bits * 2 * p + f ≡ fraction 10 start
    low p f e = grind (arith, e)

    low_few : (p : ℕ) → (bits + 1) * (p * 2) ≤ 1024 → (bits * 2 + 1) * p ≤ 1024
    low_few p e = grind (arith, e)

pub bit_high : (start number bits left : ℕ) → HasBits start number bits (suc left) → 2 ^ 32 ≤ number * number / 2 ^ 31 →
    HasBits start (number * number / 2 ^ 31 / 2) (bits * 2 + 1) left
bit_high start number bits left has le =
    let (least, most) = squared number has.from has.below in
    let twice : 2 ^ suc left ≡ 2 ^ left * 2 = pow-succ' 2 left ∙ two_times (2 ^ left) in
    let old = rw (twice, rises left number le) at has.same in
    let few = rw twice at has.few in
    record {
      same = high (2 ^ left) (fraction left (number * number / 2 ^ 31 / 2)) old;
      from = omega (arith, le);
      below = omega (arith, most);
      few = high_few (2 ^ left) few;
    }
  where
    two_times : (p : ℕ) → 2 * p ≡ p * 2
    two_times p = omega arith

    high : (p f : ℕ) → bits * (p * 2) + (p + f) ≡ fraction 10 start → (bits * 2 + 1) * p + f ≡ fraction 10 start
    high p f e = grind (arith, e)

    high_few : (p : ℕ) → (bits + 1) * (p * 2) ≤ 1024 → (bits * 2 + 1 + 1) * p ≤ 1024
    high_few p e = grind (arith, e)

pub all_bits : (start number bits : ℕ) → HasBits start number bits 0 → bits ≡ fraction 10 start
unfolding fraction
all_bits start number bits has = omega (arith, has.same)
