-- A number in front of other text.
use Rattle.std.proofs.Common.{◌≡◌, ℕ, ◌<◌, ◌^◌, List, [], ◌∷◌, ◌++◌, Bool, true, false, not, append_assoc, length, take, drop, refl, sym, ap, ◌∙◌, arith}
use Rattle.std.proofs.lemmas.Fmt.{decimal_is_IsNumeral_wide}
use Rattle.std.proofs.lemmas.List.{append_cancel_left}
use Rattle.std.proofs.lemmas.Str.Parse.{IsNumeralModel, numerals_by_value, tells_all_ascii_digits}
use Rattle.std.proofs.Math.Seq.{take-append_seam, drop-append_seam}
use Rattle.std.specs.Prelude.{decimal}
use Rattle.std.specs.Char.{is_ascii_digit}
use Rattle.std.specs.List.{position_or_len}
use Rattle.std.specs.Str.{all_ascii_digits}
use Rattle.std.specs.Str.Parse.{digits_value}
use Rattle.picture.specs.Text.{numbered}

-- no digit is in front
abbrev pub EndsNumber : List ℕ → Type 0
EndsNumber [] = Unit {0}
EndsNumber (b ∷ bs) = is_ascii_digit b ≡ false

no_digit : ℕ → Bool
no_digit b = not (is_ascii_digit b)

-- the text of a number has digits alone, and they tell the number
digits_of : (n : ℕ) → n < 2 ^ 128 → (all_ascii_digits (decimal n) ≡ true) × (digits_value 10 (decimal n) ≡ n)
digits_of n h =
    let own : IsNumeralModel (λ ds. all_ascii_digits ds ≡ true) (digits_value 10) = numerals_by_value _ tells_all_ascii_digits in
    let wide : n < 10 ^ 64 = omega arith in
    let is = decimal_is_IsNumeral_wide n wide in
    (own.from (decimal n) is.0.1, is.1)

digits_before : (ds x : List ℕ) → all_ascii_digits ds ≡ true → EndsNumber x → position_or_len no_digit (ds ++ x) ≡ length ds
unfolding no_digit
digits_before [] [] d e = refl
digits_before [] (b ∷ bs) d e = rw e refl
digits_before (c ∷ cs) x d e =
    let one : is_ascii_digit c ≡ true = grind arith in
    let more : all_ascii_digits cs ≡ true = grind arith in
    rw (one, digits_before cs x more e) (omega arith)

-- equal texts with fronts of one length have equal fronts
equal_fronts : (a b x y : List ℕ) → length a ≡ length b → a ++ x ≡ b ++ y → (a ≡ b) × (x ≡ y)
equal_fronts a b x y same e = (
  sym (take-append_seam a x) ∙ (ap (take (length a)) e ∙ (ap (λ k. take k (b ++ y)) same ∙ take-append_seam b y)),
  sym (drop-append_seam a x) ∙ (ap (drop (length a)) e ∙ (ap (λ k. drop k (b ++ y)) same ∙ drop-append_seam b y)),
)

-- equal texts begin with equal numbers
first_number : (m n : ℕ) (x y : List ℕ) → m < 2 ^ 128 → n < 2 ^ 128 → EndsNumber x → EndsNumber y → decimal m ++ x ≡ decimal n ++ y → (m ≡ n) × (x ≡ y)
first_number m n x y small_m small_n ends_x ends_y e =
    let at : length (decimal m) ≡ length (decimal n) =
    sym (digits_before (decimal m) x (digits_of m small_m).0 ends_x) ∙ ap (position_or_len no_digit) e ∙ digits_before (decimal n) y (digits_of n small_n).0 ends_y in
    let parts = equal_fronts (decimal m) (decimal n) x y at e in
    (sym (digits_of m small_m).1 ∙ ap (digits_value 10) parts.0 ∙ (digits_of n small_n).1, parts.1)

-- the same of numbers behind one lead
pub numbers_equal : (lead : List ℕ) (m n : ℕ) (x y : List ℕ) → m < 2 ^ 128 → n < 2 ^ 128 → EndsNumber x → EndsNumber y → numbered lead m ++ x ≡ numbered lead n ++ y →
    (m ≡ n) × (x ≡ y)
numbers_equal lead m n x y small_m small_n ends_x ends_y e =
    let inner : lead ++ (decimal m ++ x) ≡ lead ++ (decimal n ++ y) = sym (append_assoc lead (decimal m) x) ∙ (e ∙ append_assoc lead (decimal n) y) in
    first_number m n x y small_m small_n ends_x ends_y (append_cancel_left lead (decimal m ++ x) (decimal n ++ y) inner)
