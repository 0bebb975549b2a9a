-- The value of digits, and decimals rounded up.
use Rattle.std.proofs.Common.{◌≡◌, ℕ, ◌+◌, ◌*◌, ◌-◌, ◌<◌, ◌≤◌, ◌^◌, List, [], ◌∷◌, ◌++◌, Bool, true, false, length, take, drop, refl, sym, ap, ◌∙◌, arith, zero, suc, pow-suc}
use Rattle.std.proofs.Common.{mul-le-mul_right}
use Rattle.std.proofs.Common.{le_antisymm, pow-add, take-append-drop, mul-pos, mul-le-mul_left, length-append, ltb}
use Rattle.std.proofs.lemmas.Grind.{common_steps, div_ceil_times}
use Rattle.std.proofs.lemmas.Bool.Decides.{nat_tests}
use Rattle.std.specs.Prelude.{◌==◌, min}
use Rattle.std.specs.Int.{div_ceil}
use Rattle.std.specs.List.{list_all, slice_index_or, position_or_len}
use Rattle.std.specs.Char.{digit_value}
use Rattle.std.specs.Str.Parse.{digits_value_after}
use Rattle.std.proofs.lemmas.Int.Digits.{digits_value-lt}
use Rattle.text_fields.specs.Fields.{Text}
use Rattle.text_fields.specs.Numbers.{is_digit, is_number, number, capped, most}
use Rattle.text_fields.specs.Decimals.{IsFraction, is_point, whole_part, fraction_part, scaled_up}
use Rattle.text_fields.proofs.Digits.{own, digits_of_number}
use Rattle.coflow_units.proofs.Fronts.{none_length}
use Rattle.std.proofs.Common.{position, Option, Some, None, append-nil}
use Rattle.std.specs.Prelude.{unwrap_or}

after : (n : ℕ) (b : Text) → digits_value_after 10 n b ≡ n * 10 ^ length b + number b
after n [] = omega arith
after n (c ∷ cs) =
    let one = after (n * 10 + digit_value c) cs in
    let two = after (0 * 10 + digit_value c) cs in
    let p : 10 ^ length (c ∷ cs) ≡ 10 ^ length cs * 10 = pow-suc 10 (length cs) in
    omega (arith, one, two, ap (λ k. n * k) p)

after_append : (n : ℕ) (a b : Text) → digits_value_after 10 n (a ++ b) ≡ digits_value_after 10 (digits_value_after 10 n a) b
after_append n [] b = refl
after_append n (c ∷ cs) b = after_append (n * 10 + digit_value c) cs b

pub joined : (a b : Text) → number (a ++ b) ≡ number a * 10 ^ length b + number b
joined a b = after_append 0 a b ∙ after (number a) b

digit_zero : (c : ℕ) → (c == 48) ≡ true → digit_value c ≡ 0
digit_zero c e = let s : c ≡ 48 = grind (arith, nat_tests) in rw s refl

digit_some : (c : ℕ) → is_digit c ≡ true → (c == 48) ≡ false → 0 < digit_value c
digit_some c d e = grind (arith, nat_tests)

all_parts : (p : ℕ → Bool) (c : ℕ) (cs : Text) → list_all p (c ∷ cs) ≡ true → (p c ≡ true) × (list_all p cs ≡ true)
all_parts p c cs h = grind arith

pub zeros : (xs : Text) → list_all (λ b. b == 48) xs ≡ true → number xs ≡ 0
zeros [] h = refl
zeros (c ∷ cs) h =
    let parts = all_parts (λ b. b == 48) c cs h in
    let rest = zeros cs parts.1 in
    let d = digit_zero c parts.0 in
    let step = after (0 * 10 + digit_value c) cs in
    let none : (0 * 10 + digit_value c) * 10 ^ length cs ≡ 0 = rw d (omega arith) in
    omega (arith, step, rest, none)

pow_some : (n : ℕ) → 1 ≤ 10 ^ n
pow_some zero = omega arith
pow_some (suc n) = let p = pow-suc 10 n in omega (arith, p, pow_some n)

pub some_digit : (xs : Text) → list_all is_digit xs ≡ true → list_all (λ b. b == 48) xs ≡ false → 0 < number xs
some_digit [] d h = cc
some_digit (c ∷ cs) d h = go (c == 48) refl (λ e. some_digit cs (all_parts is_digit c cs d).1 e)
  where
    go : (b : Bool) → (c == 48) ≡ b → (list_all (λ b. b == 48) cs ≡ false → 0 < number cs) → 0 < number (c ∷ cs)
    go true e rest =
        let step = after (0 * 10 + digit_value c) cs in
        let r = rest (rw e at h) in
        omega (arith, step, r)
    go false e rest =
        let step = after (0 * 10 + digit_value c) cs in
        let x = digit_some c (all_parts is_digit c cs d).0 e in
        let y : 1 * 10 ^ length cs ≤ (0 * 10 + digit_value c) * 10 ^ length cs = mul-le-mul_right (10 ^ length cs) (omega (arith, x)) in
        omega (arith, step, y, pow_some (length cs))

abbrev pub powers : List ℕ
powers = 1000000 ∷ 100000 ∷ 10000 ∷ 1000 ∷ 100 ∷ 10 ∷ 1 ∷ []

pub power_is : (m : ℕ) → m ≤ 6 → 10 ^ m * slice_index_or powers m 0 ≡ 1000000
power_is zero le = refl
power_is (suc zero) le = refl
power_is (suc (suc zero)) le = refl
power_is (suc (suc (suc zero))) le = refl
power_is (suc (suc (suc (suc zero)))) le = refl
power_is (suc (suc (suc (suc (suc zero))))) le = refl
power_is (suc (suc (suc (suc (suc (suc zero)))))) le = refl
power_is (suc (suc (suc (suc (suc (suc (suc m))))))) le = absurd (omega arith)

power_some : (m : ℕ) → m ≤ 6 → 1 ≤ slice_index_or powers m 0
power_some zero le = omega arith
power_some (suc zero) le = omega arith
power_some (suc (suc zero)) le = omega arith
power_some (suc (suc (suc zero))) le = omega arith
power_some (suc (suc (suc (suc zero)))) le = omega arith
power_some (suc (suc (suc (suc (suc zero))))) le = omega arith
power_some (suc (suc (suc (suc (suc (suc zero)))))) le = omega arith
power_some (suc (suc (suc (suc (suc (suc (suc m))))))) le = absurd (omega arith)

less : (a b p q : ℕ) → a ≤ p * b → q * b < a + b → p + 1 ≤ q → ⊥
less a b p q low high lt =
    let m : (p + 1) * b ≤ q * b = mul-le-mul_right b lt in
    omega (arith, m)

not_less : (p q : ℕ) → (q + 1 ≤ p → ⊥) → p ≤ q
not_less p q h = go (ltb q p) refl
  where
    go : (b : Bool) → ltb q p ≡ b → p ≤ q
    go true e = absurd (h (grind (arith, nat_tests)))
    go false e = grind (arith, nat_tests)

one_quotient : (a b p q : ℕ) → a ≤ p * b → p * b < a + b → a ≤ q * b → q * b < a + b → p ≡ q
one_quotient a b p q pl ph ql qh = le_antisymm (not_less p q (less a b q p ql ph)) (not_less q p (less a b p q pl qh))

pub ceil_is : (a b q : ℕ) → 0 < b → a ≤ q * b → q * b < a + b → q ≡ div_ceil a b
ceil_is a b q some low high =
    let d = div_ceil_times a b some in
    one_quotient a b q (div_ceil a b) low high d.0 d.1

all_drop : (p : ℕ → Bool) (k : ℕ) (xs : Text) → list_all p xs ≡ true → list_all p (drop k xs) ≡ true
all_drop p zero xs h = h
all_drop p (suc k) [] h = h
all_drop p (suc k) (x ∷ xs) h = all_drop p k xs (all_parts p x xs h).1

all_take : (p : ℕ → Bool) (k : ℕ) (xs : Text) → list_all p xs ≡ true → list_all p (take k xs) ≡ true
all_take p zero xs h = refl
all_take p (suc k) [] h = h
all_take p (suc k) (x ∷ xs) h = let q = all_parts p x xs h in rw (q.0, all_take p k xs q.1) refl

-- the numbers alone: F = G * R + H, and P = T * R
exact : (F G H P R T W : ℕ) → F ≡ G * R + H → P ≡ T * R → T * W ≡ 1000000 → H ≡ 0 → 0 < R → 0 < T → (F * 1000000 ≤ (G * W) * P) × ((G * W) * P < F * 1000000 + P)
exact F G H P R T W f p w h r t =
    let m : G * R * (T * W) ≡ G * R * 1000000 = ap (λ k. G * R * k) w in
    let q : (G * W) * P ≡ F * 1000000 = rw (f, p, h) (omega (arith, m)) in
    let s : 0 < P = rw p (mul-pos t r) in
    (omega (arith, q), omega (arith, q, s))

above : (F G H P R T W : ℕ) → F ≡ G * R + H → P ≡ T * R → T ≡ 1000000 → W ≡ 1 → 0 < H → H < R → (F * 1000000 ≤ (G * W + 1) * P) × ((G * W + 1) * P < F * 1000000 + P)
above F G H P R T W f p t w some less = (rw (f, p, t, w) (omega (arith, less)), rw (f, p, t, w) (omega (arith, some)))

at_most : (G T W u : ℕ) → G < T → T * W ≡ 1000000 → 1 ≤ W → u ≤ 1 → G * W + u ≤ 1000000
at_most G T W u less w some small =
    let m : (G + 1) * W ≤ T * W = mul-le-mul_right W (omega (arith, less)) in
    omega (arith, m, w, some, small)

drop_nothing : (k : ℕ) (xs : Text) → length xs ≤ k → drop k xs ≡ []
drop_nothing zero [] le = refl
drop_nothing zero (x ∷ xs) le = absurd (omega arith)
drop_nothing (suc k) [] le = refl
drop_nothing (suc k) (x ∷ xs) le = drop_nothing k xs (omega arith)

pub record Parts (digits front rest : Text) : Type 0 where
  pub digit : list_all is_digit digits ≡ true
  pub front_is : front ≡ take (min (length digits) 6) digits
  pub rest_is : rest ≡ drop (min (length digits) 6) digits

pub record Sizes (digits front rest : Text) : Type 0 where
  pub sum_is : number digits ≡ number front * 10 ^ length rest + number rest
  pub whole : 10 ^ length digits ≡ 10 ^ length front * 10 ^ length rest
  pub short : length front ≤ 6
  pub front_less : number front < 10 ^ length front
  pub rest_less : number rest < 10 ^ length rest

pub sizes : (digits front rest : Text) → Parts digits front rest → Sizes digits front rest
sizes digits front rest p =
    let k = min (length digits) 6 in
    let whole : front ++ rest ≡ digits = rw (p.front_is, p.rest_is) (take-append-drop k digits) in
    let long : length digits ≡ length front + length rest = ap length (sym whole) ∙ length-append front rest in
    let digits_front : list_all is_digit front ≡ true = rw p.front_is (all_take is_digit k digits p.digit) in
    let digits_rest : list_all is_digit rest ≡ true = rw p.rest_is (all_drop is_digit k digits p.digit) in
    record {
      sum_is = ap number (sym whole) ∙ joined front rest;
      whole = ap (λ n. 10 ^ n) long ∙ pow-add 10 (length front) (length rest);
      short = rw p.front_is (grind (arith, common_steps));
      front_less = digits_value-lt 10 front (own.to front digits_front);
      rest_less = digits_value-lt 10 rest (own.to rest digits_rest);
    }

-- the first six digits, and whether any behind them is more than 0
pub fraction_exact : (digits front rest : Text) → Parts digits front rest → list_all (λ b. b == 48) rest ≡ true →
    IsFraction digits (number front * slice_index_or powers (length front) 0)
fraction_exact digits front rest p z =
    let s = sizes digits front rest p in
    exact (number digits) (number front) (number rest) (10 ^ length digits) (10 ^ length rest) (10 ^ length front) (slice_index_or powers (length front) 0) s.sum_is s.whole
    (power_is (length front) s.short) (zeros rest z) (omega (arith, pow_some (length rest))) (omega (arith, pow_some (length front)))

pub fraction_above : (digits front rest : Text) → Parts digits front rest → list_all (λ b. b == 48) rest ≡ false →
    IsFraction digits (number front * slice_index_or powers (length front) 0 + 1)
fraction_above digits front rest p z =
    let s = sizes digits front rest p in
    let six : length front ≡ 6 = six_long digits front rest p z in
    above (number digits) (number front) (number rest) (10 ^ length digits) (10 ^ length rest) (10 ^ length front) (slice_index_or powers (length front) 0) s.sum_is s.whole
    (rw six refl) (rw six refl) (some_digit rest (rw p.rest_is (all_drop is_digit (min (length digits) 6) digits p.digit)) z) s.rest_less
  where
    six_long : (digits front rest : Text) → Parts digits front rest → list_all (λ b. b == 48) rest ≡ false → length front ≡ 6
    six_long digits front rest p z = go (ltb 6 (length digits)) refl
      where
        go : (b : Bool) → ltb 6 (length digits) ≡ b → length front ≡ 6
        go true e = let long : 6 < length digits = grind (arith, nat_tests) in rw p.front_is (grind (arith, common_steps))
        go false e =
            let short : length digits ≤ 6 = grind (arith, nat_tests) in
            let none : rest ≡ [] = p.rest_is ∙ drop_nothing (min (length digits) 6) digits (omega arith) in
            let bad : true ≡ false = rw none at z in
            cc

pub fraction_most : (digits front rest : Text) (u : ℕ) → Parts digits front rest → u ≤ 1 → number front * slice_index_or powers (length front) 0 + u ≤ 1000000
fraction_most digits front rest u p small =
    let s = sizes digits front rest p in
    at_most (number front) (10 ^ length front) (slice_index_or powers (length front) 0) u s.front_less (power_is (length front) s.short) (power_some (length front) s.short) small

-- a number of six digits is told as it is
pub front_value : (digits front rest : Text) (n : ℕ) → Parts digits front rest → n ≡ capped (number front) → n ≡ number front
front_value digits front rest n p e =
    let s = sizes digits front rest p in
    let m = fraction_most digits front rest 0 p (omega arith) in
    let w = mul-le-mul_left (number front) (power_some (length front) s.short) in
    omega (arith, e, m, w)

pub no_point : (field : Text) → None ≡ position is_point field → (whole_part field ≡ field) × (fraction_part field ≡ [])
no_point field none =
    let e = none_length is_point field none in
    (rw (← e) (grind (arith, common_steps)), drop_nothing (position_or_len is_point field + 1) field (omega (arith, e)))

pub at_point : (field : Text) (point : ℕ) → Some point ≡ position is_point field → (point ≡ position_or_len is_point field) × (point < length field)
at_point field point some = go (ltb (position_or_len is_point field) (length field)) refl
  where
    go : (b : Bool) → ltb (position_or_len is_point field) (length field) ≡ b → (point ≡ position_or_len is_point field) × (point < length field)
    go true e =
        let s : Some point ≡ Some (position_or_len is_point field) = some ∙ rw e refl in
        let p : point ≡ position_or_len is_point field = ap (λ (o : Option ℕ). unwrap_or o 0) s in
        (p, rw p (grind (arith, nat_tests)))
    go false e = let s : Some point ≡ None = some ∙ rw e refl in cc

pub point_parts : (field : Text) (point : ℕ) → Some point ≡ position is_point field →
    (take point field ≡ whole_part field) × (take (length field - (point + 1)) (drop (point + 1) field) ≡ fraction_part field)
point_parts field point some =
    let p = at_point field point some in
    (rw p.0 refl, rw (← p.0) (grind (arith, common_steps)))

pub plain_value : (field : Text) (w k : ℕ) → (whole_part field ≡ field) × (fraction_part field ≡ []) → w ≡ capped (number field) → 1 ≤ k →
    min (w * k) most ≡ capped (scaled_up k field)
plain_value field w k parts e some =
    let n = number field in
    let q : n * k ≡ scaled_up k field = rw (parts.0, parts.1, append-nil) (ceil_is (n * k) 1 (n * k) (omega arith) (omega arith) (omega arith)) in
    rw (← q, e) (capped_times n k some)
  where
    capped_times : (n k : ℕ) → 1 ≤ k → min (min n most * k) most ≡ min (n * k) most
    capped_times n k some = go (ltb n most) refl
      where
        go : (b : Bool) → ltb n most ≡ b → min (min n most * k) most ≡ min (n * k) most
        go true t = let l : n < most = grind (arith, nat_tests) in let m : min n most ≡ n = omega (arith, l) in rw m refl
        go false t =
            let l : most ≤ n = grind (arith, nat_tests) in
            let m : min n most ≡ most = omega (arith, l) in
            let a : most * k ≤ n * k = mul-le-mul_right k l in
            let b : most * 1 ≤ most * k = mul-le-mul_left most some in
            rw m (omega (arith, a, b))

-- w wholes and a part that is at most one whole
sum_up : (F P v w k : ℕ) → 0 < P → (F * k ≤ v * P) × (v * P < F * k + P) → w * k + v ≡ div_ceil ((w * P + F) * k) P
sum_up F P v w k some b = ceil_is ((w * P + F) * k) P (w * k + v) some (omega (arith, b.0)) (omega (arith, b.1))

-- the part of a whole, rounded up to a whole
one_up : (F P v : ℕ) → F < P → (F * 1000000 ≤ v * P) × (v * P < F * 1000000 + P) → (F * 1 ≤ min v 1 * P) × (min v 1 * P < F * 1 + P)
one_up F P zero less b = (omega (arith, b.0), omega (arith, less))
one_up F P (suc v) less b =
    let m : min (suc v) 1 ≡ 1 = omega arith in
    let f : 0 < F = some_F F P v less b.1 in
    rw m (omega (arith, less), omega (arith, f))
  where
    some_F : (F P v : ℕ) → F < P → suc v * P < F * 1000000 + P → 0 < F
    some_F zero P v less h = let g : 1 * P ≤ suc v * P = mul-le-mul_right P (omega arith) in absurd (omega (arith, h, g))
    some_F (suc F) P v less h = omega arith

capped_sum : (w k v : ℕ) → 1 ≤ k → min (min (min w most * k) most + v) most ≡ min (w * k + v) most
capped_sum w k v some = go (ltb w most) refl
  where
    go : (b : Bool) → ltb w most ≡ b → min (min (min w most * k) most + v) most ≡ min (w * k + v) most
    go true t = let l : w < most = grind (arith, nat_tests) in let m : min w most ≡ w = omega (arith, l) in rw m (omega arith)
    go false t =
        let l : most ≤ w = grind (arith, nat_tests) in
        let m : min w most ≡ most = omega (arith, l) in
        let a : most * k ≤ w * k = mul-le-mul_right k l in
        let b : most * 1 ≤ most * k = mul-le-mul_left most some in
        rw m (omega (arith, a, b))

pub point_value : (field : Text) (w v : ℕ) → is_number (fraction_part field) ≡ true → w ≡ capped (number (whole_part field)) → IsFraction (fraction_part field) v →
    (min (min (w * 1000000) most + v) most ≡ capped (scaled_up 1000000 field)) × (min (w + min v 1) most ≡ capped (scaled_up 1 field))
point_value field w v digits e f =
    let n = number (whole_part field) in
    let F = number (fraction_part field) in
    let P = 10 ^ length (fraction_part field) in
    let less : F < P = digits_value-lt 10 (fraction_part field) (own.to (fraction_part field) (digits_of_number (fraction_part field) digits).0) in
    let j : number (whole_part field ++ fraction_part field) ≡ n * P + F = joined (whole_part field) (fraction_part field) in
    let big : n * 1000000 + v ≡ scaled_up 1000000 field = rw j (sum_up F P v n 1000000 (omega (arith, less)) f) in
    let small : n * 1 + min v 1 ≡ scaled_up 1 field = rw j (sum_up F P (min v 1) n 1 (omega (arith, less)) (one_up F P v less f)) in
    let first = capped_sum n 1000000 v (omega arith) in
    let second = capped_sum n 1 (min v 1) (omega arith) in
    (rw (← big, e) first, rw (← small, e) (omega (arith, second)))
