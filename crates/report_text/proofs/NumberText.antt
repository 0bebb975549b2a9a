-- A number behind a space, in front of other text.
use Rattle.std.proofs.Common.{◌≡◌, ℕ, suc, ◌<◌, ◌^◌, List, [], ◌∷◌, ◌++◌, Bool, true, false, not, Result, Ok, Err, length, take, drop, refl, sym, ap, ◌∙◌, arith}
use Rattle.std.proofs.lemmas.Fmt.{IsAscii-decimal_wide, decimal_is_IsNumeral_wide, parse-decimal_wide}
use Rattle.std.proofs.lemmas.Str.{IsUtf8-from_ascii}
use Rattle.std.proofs.lemmas.Str.Parse.{IsNumeralModel, numerals_by_value, tells_all_ascii_digits}
use Rattle.std.proofs.lemmas.List.{take-append-drop}
use Rattle.std.proofs.Math.Seq.{take-append_seam, drop-append_seam}
use Rattle.std.specs.Prelude.{decimal, codes}
use Rattle.std.specs.Char.{is_ascii_digit}
use Rattle.std.specs.List.{position_or_len}
use Rattle.std.specs.Str.{IsUtf8, all_ascii_digits}
use Rattle.std.specs.Str.Parse.{ParsesUnsigned, digits_value}
use Rattle.coflow_units.specs.Text.{spaced}
use Rattle.report_text.specs.Readers.{Stops}

abbrev pub is_other : ℕ → Bool
is_other b = not (is_ascii_digit b)

pub own : IsNumeralModel (λ ds. all_ascii_digits ds ≡ true) (digits_value 10)
own = numerals_by_value _ tells_all_ascii_digits

wide : (n : ℕ) → n < 2 ^ 128 → n < 10 ^ 64
wide n h = omega arith

pub digits_of_decimal : (n : ℕ) → n < 2 ^ 128 → all_ascii_digits (decimal n) ≡ true
digits_of_decimal n h = own.from (decimal n) (decimal_is_IsNumeral_wide n (wide n h)).0.1

pub decimal_one : (m n : ℕ) → m < 2 ^ 128 → n < 2 ^ 128 → decimal m ≡ decimal n → m ≡ n
decimal_one m n hm hn e = sym (decimal_is_IsNumeral_wide m (wide m hm)).1 ∙ (ap (digits_value 10) e ∙ (decimal_is_IsNumeral_wide n (wide n hn)).1)

pub digits_end : (ds behind : List ℕ) → all_ascii_digits ds ≡ true → Stops behind → position_or_len is_other (ds ++ behind) ≡ length ds
digits_end [] [] d e = refl
digits_end [] (b ∷ bs) d e = rw e refl
digits_end (c ∷ cs) behind d e =
    let one : is_ascii_digit c ≡ true = grind arith in
    let more : all_ascii_digits cs ≡ true = grind arith in
    rw (one, digits_end cs behind more e) (omega arith)

-- the digits in front of other text are the number
pub number_parts : (bytes rest : List ℕ) (n k : ℕ) → n < 2 ^ 128 → Stops rest → bytes ≡ decimal n ++ rest → k ≡ position_or_len is_other bytes →
    (take k bytes ≡ decimal n) × (drop k bytes ≡ rest)
number_parts bytes rest n k small stops e at =
    let end : k ≡ length (decimal n) = at ∙ ap (position_or_len is_other) e ∙ digits_end (decimal n) rest (digits_of_decimal n small) stops in
    (rw (end, e) (take-append_seam (decimal n) rest), rw (end, e) (drop-append_seam (decimal n) rest))

-- bytes begin with one number at most
pub spaced_unique : (x y : List ℕ) (m n : ℕ) → m < 2 ^ 128 → n < 2 ^ 128 → Stops x → Stops y → spaced m ++ x ≡ spaced n ++ y → (m ≡ n) × (x ≡ y)
spaced_unique x y m n small_m small_n stops_x stops_y e =
    let bytes : List ℕ = decimal m ++ x in
    let k : ℕ = position_or_len is_other bytes in
    let same : decimal m ++ x ≡ decimal n ++ y = ap (drop 1) e in
    let a = number_parts bytes x m k small_m stops_x refl refl in
    let b = number_parts bytes y n k small_n stops_y same refl in
    (decimal_one m n small_m small_n (sym a.0 ∙ b.0), sym a.1 ∙ b.1)

-- behind the digits no digit follows
pub digits_stop : (bytes : List ℕ) → Stops (drop (position_or_len is_other bytes) bytes)
digits_stop [] = tt
digits_stop (b ∷ bs) = go (is_ascii_digit b) refl (digits_stop bs)
  where
    go : (t : Bool) → is_ascii_digit b ≡ t → Stops (drop (position_or_len is_other bs) bs) → Stops (drop (position_or_len is_other (b ∷ bs)) (b ∷ bs))
    go true e more =
        let at : position_or_len is_other (b ∷ bs) ≡ suc (position_or_len is_other bs) = rw e (omega arith) in
        rw at more
    go false e more =
        let at : position_or_len is_other (b ∷ bs) ≡ 0 = rw e refl in
        rw at e

pub is_text : (field : List ℕ) (n : ℕ) → n < 2 ^ 128 → field ≡ decimal n → IsUtf8 field
is_text field n small e = rw e (IsUtf8-from_ascii (decimal n) (IsAscii-decimal_wide n (wide n small)))

-- the digits of a number are read as it
pub parses : {E : Type 0} (field : List ℕ) (n : ℕ) (r : Result ℕ E) → n < 2 ^ 128 → field ≡ decimal n → ParsesUnsigned 128 10 field r → r ≡ Ok n
parses field n r small e p = parse-decimal_wide 128 n field r small (wide n small) e p

-- what is read is one number
abbrev number_in : {E : Type 0} → Result ℕ E → ℕ
number_in (Ok n) = n
number_in (Err x) = 0

pub same_read : {E : Type 0} (r : Result ℕ E) (m n : ℕ) → r ≡ Ok m → r ≡ Ok n → m ≡ n
same_read r m n a b = ap number_in (sym a ∙ b)

-- a space, the digits and what follows make up the bytes
pub number_found : (bytes digits field rest : List ℕ) (k n : ℕ) → bytes ≡ codes " " ++ digits → field ≡ take k digits → rest ≡ drop k digits → field ≡ decimal n →
    bytes ≡ spaced n ++ rest
number_found bytes digits field rest k n space f r e =
    let whole : digits ≡ decimal n ++ rest = sym (take-append-drop k digits) ∙ (ap (λ x. x ++ drop k digits) (sym f ∙ e) ∙ ap (λ x. decimal n ++ x) (sym r)) in
    space ∙ ap (λ x. codes " " ++ x) whole

pub behind_space : (bytes digits rest : List ℕ) (n : ℕ) → bytes ≡ codes " " ++ digits → bytes ≡ spaced n ++ rest → digits ≡ decimal n ++ rest
behind_space bytes digits rest n a b = ap (drop 1) (sym a ∙ b)
