-- Digits that are read one by one.
use Rattle.std.proofs.Common.{◌≡◌, ◌⊎◌, inl, inr, ℕ, zero, suc, ◌+◌, ◌-◌, ◌*◌, ◌/◌, ◌%◌, ◌<◌, ◌≤◌, ◌^◌, List, [], ◌∷◌, ◌++◌, true, false, length}
use Rattle.std.proofs.Common.{append-nil, append_assoc, length-append, replicate, take, drop, get_or, refl, sym, ap, ◌∙◌, arith}
use Rattle.std.proofs.lemmas.Bool.Decides.{nat_tests}
use Rattle.std.proofs.lemmas.Fmt.{decimal-digits_value, decimal_digit, decimal_is_IsNumeral_wide, decimal_nonempty, decimal_step, first_decimal, length-decimal-le}
use Rattle.std.proofs.lemmas.List.{drop_all, get_or-take, length-replicate, length-take-le, take-append-drop, take_all, take_at, take_more}
use Rattle.std.specs.Prelude.{decimal}
use Rattle.std.specs.Char.{digit_value, is_ascii_digit}
use Rattle.std.specs.List.{position_or_len}
use Rattle.std.specs.Str.{all_ascii_digits}
use Rattle.std.specs.Str.Parse.{digits_value, digits_value_after}
use Rattle.coflow_units.specs.Text.{spaced}
use Rattle.report_text.specs.Readers.{IsLeading, Stops}
use Rattle.report_text.proofs.NumberText.{digits_end, is_other, number_parts, own}

-- ---- one more digit

digits_more : (ds : List ℕ) (c : ℕ) → all_ascii_digits ds ≡ true → is_ascii_digit c ≡ true → all_ascii_digits (ds ++ (c ∷ [])) ≡ true
digits_more [] c h d = rw d refl
digits_more (b ∷ bs) c h d =
    let one : is_ascii_digit b ≡ true = grind arith in
    let more : all_ascii_digits bs ≡ true = grind arith in
    rw (one, digits_more bs c more d) refl

value_more : (m c : ℕ) (ds : List ℕ) → digits_value_after 10 m (ds ++ (c ∷ [])) ≡ digits_value_after 10 m ds * 10 + digit_value c
value_more m c [] = refl
value_more m c (b ∷ bs) = value_more (m * 10 + digit_value b) c bs

digit_is : (c : ℕ) → is_ascii_digit c ≡ true → digit_value c ≡ c - 48
digit_is c d = grind (arith, nat_tests)

pub one_more_digit : (bytes : List ℕ) (number count : ℕ) → count < length bytes → is_ascii_digit (get_or bytes count 0) ≡ true → all_ascii_digits (take count bytes) ≡ true →
    digits_value 10 (take count bytes) ≡ number →
    (all_ascii_digits (take (count + 1) bytes) ≡ true) × (digits_value 10 (take (count + 1) bytes) ≡ number * 10 + (get_or bytes count 0 - 48))
one_more_digit bytes number count lt digit digits value =
    let c : ℕ = get_or bytes count 0 in
    let more : take (count + 1) bytes ≡ take count bytes ++ (c ∷ []) = take_more bytes count 0 lt in (
      ap all_ascii_digits more ∙ digits_more (take count bytes) c digits digit,
      ap (digits_value 10) more ∙ (value_more 0 c (take count bytes) ∙ (λ i. value i * 10 + digit_is c digit i)),
    )

-- ---- the value of a front

grows : (m : ℕ) (ds : List ℕ) → m ≤ digits_value_after 10 m ds
grows m [] = omega arith
grows m (b ∷ bs) = omega (arith, grows (m * 10 + digit_value b) bs)

front_value : (m : ℕ) (ds rest : List ℕ) (k : ℕ) → Stops rest → k ≤ length (ds ++ rest) → all_ascii_digits (take k (ds ++ rest)) ≡ true →
    digits_value_after 10 m (take k (ds ++ rest)) ≤ digits_value_after 10 m ds
front_value m ds rest zero stops le h = grows m ds
front_value m [] [] (suc k) stops le h = absurd (omega arith)
front_value m [] (b ∷ bs) (suc k) stops le h = absurd (let bad : is_ascii_digit b ≡ true = grind arith in cc)
front_value m (c ∷ cs) rest (suc k) stops le h = front_value (m * 10 + digit_value c) cs rest k stops (omega arith) (grind arith)

-- digits in front of a number's end are at most the number
pub front_is_less : (bytes rest : List ℕ) (n number count most : ℕ) → n < 2 ^ 128 → Stops rest → bytes ≡ decimal n ++ rest → IsLeading most bytes number count → number ≤ n
front_is_less bytes rest n number count most small stops e h =
    let value : digits_value 10 (decimal n) ≡ n = (decimal_is_IsNumeral_wide n (omega arith)).1 in
    let front = front_value 0 (decimal n) rest count stops (rw e at h.0) (rw e at h.1) in
    omega (arith, value, front, rw e at h.2)

-- ---- all leading digits

pub all_read : (bytes : List ℕ) (number count most : ℕ) → IsLeading most bytes number count → number ≤ most → Stops (drop count bytes)
all_read bytes number count most h le = go h.3
  where
    go : (most < number) ⊎ Stops (drop count bytes) → Stops (drop count bytes)
    go (inl less) = absurd (omega arith)
    go (inr stops) = stops

pub field_is : (bytes rest : List ℕ) (n number count most : ℕ) → n < 2 ^ 128 → Stops rest → bytes ≡ decimal n ++ rest → IsLeading most bytes number count → number ≤ most →
    take count bytes ≡ decimal n
field_is bytes rest n number count most small stops e h le =
    let parts : take count bytes ++ drop count bytes ≡ bytes = take-append-drop count bytes in
    let end : position_or_len is_other (take count bytes ++ drop count bytes) ≡ length (take count bytes) =
    digits_end (take count bytes) (drop count bytes) h.1 (all_read bytes number count most h le) in
    let at : count ≡ position_or_len is_other bytes = sym (sym (ap (position_or_len is_other) parts) ∙ end ∙ length-take-le count bytes h.0) in
    (number_parts bytes rest n count small stops e at).0

-- a number's digits begin with zero only where it is the one digit
plain_decimal : (n : ℕ) → n < 2 ^ 64 → get_or (decimal n) 0 0 ≡ 48 → length (decimal n) ≡ 1
plain_decimal zero small _ = ap length (decimal_digit 0 (omega arith))
plain_decimal (suc n) small first = absurd (omega (arith, first_decimal (suc n) (omega arith) small, first))

pub plain_field : (bytes : List ℕ) (n count : ℕ) → n < 2 ^ 64 → count ≤ length bytes → take count bytes ≡ decimal n → (0 < count) × (get_or bytes 0 0 ≡ 48 → count ≡ 1)
plain_field bytes n count small le e =
    let width : length (decimal n) ≡ count = sym (ap length e) ∙ length-take-le count bytes le in
    let some : 0 < count = omega (arith, decimal_nonempty n small) in
    let first : get_or (decimal n) 0 0 ≡ get_or bytes 0 0 = sym (ap (λ l. get_or l 0 0) e) ∙ get_or-take count bytes 0 0 some in
    (some, λ zero. sym width ∙ plain_decimal n small (first ∙ zero))

-- plain digits are those of their number
pub plain_is : (bytes : List ℕ) (number count most : ℕ) → most < 2 ^ 60 → IsLeading most bytes number count → number ≤ most → 0 < count → (get_or bytes 0 0 ≡ 48 → count ≡ 1) →
    take count bytes ≡ decimal number
plain_is bytes number count most few h le some plain =
    let width : length (take count bytes) ≡ count = length-take-le count bytes h.0 in
    let first : get_or (take count bytes) 0 0 ≡ get_or bytes 0 0 = get_or-take count bytes 0 0 some in
    let value : decimal (digits_value 10 (take count bytes)) ≡ take count bytes =
    decimal-digits_value own (take count bytes) h.1 (omega (arith, width)) (λ zero. width ∙ plain (sym first ∙ zero)) (omega (arith, h.2)) in
    sym value ∙ ap decimal h.2

-- ---- how many digits a number has

abbrev pub tens : ℕ → ℕ
tens zero = 1
tens (suc k) = 10 * tens k

tens_are_some : (k : ℕ) → 1 ≤ tens k
tens_are_some zero = omega arith
tens_are_some (suc k) = omega (arith, tens_are_some k)

digits_at_least : (k n : ℕ) → tens k ≤ n → n < 2 ^ 64 → k + 1 ≤ length (decimal n)
digits_at_least zero n le small = omega (arith, decimal_nonempty n small)
digits_at_least (suc k) n le small =
    let step : decimal n ≡ decimal (n / 10) ++ ((48 + n % 10) ∷ []) = decimal_step n (omega (arith, tens_are_some k, le)) small in
    omega (
      arith,
      ap length step,
      length-append (decimal (n / 10)) ((48 + n % 10) ∷ []),
      digits_at_least k (n / 10) (omega (arith, le)) (omega (arith, small)),
    )

pub has_digits : (k n : ℕ) → tens k ≤ n → n < 10 ^ (k + 1) → n < 2 ^ 64 → k + 1 ≡ length (decimal n)
has_digits k n le lt small = omega (arith, digits_at_least k n le small, length-decimal-le (k + 1) n (omega arith) lt small)

pub has_one_digit : (n : ℕ) → n < 10 → 1 ≡ length (decimal n)
has_one_digit n lt = sym (ap length (decimal_digit n lt))

-- ---- a number that is written where it stays

pub written_there : (text filled written : List ℕ) (n at : ℕ) → filled ≡ text ++ replicate (1 + length (decimal n)) 32 →
    at + length (decimal n) ≡ length text + 1 + length (decimal n) →
    drop at written ≡ decimal n ++ drop (length text + 1 + length (decimal n)) filled → take at written ≡ take at filled → written ≡ text ++ spaced n
written_there text filled written n at grown start behind front =
    let width : ℕ = length (decimal n) in
    let one_more : 1 + width ≡ suc width = omega arith in
    let spaces : filled ≡ (text ++ (32 ∷ [])) ++ replicate width 32 =
    grown ∙ (ap (λ k. text ++ replicate k 32) one_more ∙ sym (append_assoc text (32 ∷ []) (replicate width 32))) in
    let here : length (text ++ (32 ∷ [])) ≡ at = omega (arith, length-append text (32 ∷ [])) in
    let front_is : take at written ≡ text ++ (32 ∷ []) = front ∙ (ap (take at) spaces ∙ take_at (text ++ (32 ∷ [])) (replicate width 32) at here) in
    let long : length filled ≤ length text + 1 + width =
    omega (arith, ap length spaces, length-append (text ++ (32 ∷ [])) (replicate width 32), length-append text (32 ∷ []), length-replicate {A = ℕ} width 32) in
    let none : drop (length text + 1 + width) filled ≡ [] = drop_all (length text + 1 + width) filled long in
    let behind_is : drop at written ≡ decimal n = behind ∙ (ap (λ x. decimal n ++ x) none ∙ append-nil (decimal n)) in
    sym (take-append-drop at written) ∙ ((λ i. front_is i ++ behind_is i) ∙ append_assoc text (32 ∷ []) (decimal n))

-- room for a space and the digits is filled with spaces, and the digits are written to its end
pub pushed_there : (text filled buffer : List ℕ) (n at end count : ℕ) → end ≡ length text + 1 + length (decimal n) → filled ≡ take end text ++ replicate (end - length text) 32 →
    length buffer ≡ length filled → count ≡ length filled → at + length (decimal n) ≡ end → drop at buffer ≡ decimal n ++ drop end filled → take at buffer ≡ take at filled →
    take count (buffer ++ drop (length buffer) filled) ≡ text ++ spaced n
pushed_there text filled buffer n at end count e grown long all start behind front =
    let whole : take end text ≡ text = take_all end text (omega arith) in
    let more : end - length text ≡ 1 + length (decimal n) = omega arith in
    let spaces : filled ≡ text ++ replicate (1 + length (decimal n)) 32 = grown ∙ (λ i. whole i ++ replicate (more i) 32) in
    let kept : take count (buffer ++ drop (length buffer) filled) ≡ buffer = take_at buffer (drop (length buffer) filled) count (omega arith) in
    kept ∙ written_there text filled buffer n at spaces (start ∙ e) (behind ∙ ap (λ k. decimal n ++ drop k filled) e) front

pub is_short : (n : ℕ) → n < 2 ^ 32 → length (decimal n) ≤ 10
is_short n small = length-decimal-le 10 n (omega arith) (omega arith) (omega arith)

-- a number ends at a byte that is no digit
pub stops_there : (bytes : List ℕ) (count : ℕ) → count < length bytes → is_ascii_digit (get_or bytes count 0) ≡ false → Stops (drop count bytes)
stops_there [] count lt e = absurd (omega arith)
stops_there (b ∷ bs) zero lt e = e
stops_there (b ∷ bs) (suc k) lt e = stops_there bs k (omega arith) e

-- and at the end
pub stops_at_end : (bytes : List ℕ) (count : ℕ) → length bytes ≤ count → Stops (drop count bytes)
stops_at_end bytes count le = rw (drop_all count bytes le) tt
