-- What a text of digits parses to.
use Rattle.std.proofs.Common.{◌≡◌, ℕ, ◌-◌, ◌<◌, ◌^◌, ◌∷◌, Bool, true, false, length, refl, arith, Ok, Err, ltb}
use Rattle.std.proofs.lemmas.Bool.Decides.{nat_tests}
use Rattle.std.proofs.lemmas.Str.Parse.{IsDigitsTest, IsNumeralModel, numerals_by_value, parse_digits}
use Rattle.std.proofs.lemmas.Fmt.{IsAscii-from_digits}
use Rattle.std.proofs.lemmas.Str.{IsUtf8-from_ascii}
use Rattle.std.specs.Str.{IsUtf8}
use Rattle.std.specs.List.{list_all}
use Rattle.std.specs.Int.{IsInRange}
use Rattle.std.specs.Str.Parse.{ParsesUnsigned}
use Rattle.text_fields.specs.Fields.{Text}
use Rattle.text_fields.specs.Numbers.{is_digit, is_number, number, capped}

abbrev pub AreDigits : Text → Type 0
AreDigits ds = list_all is_digit ds ≡ true

pub digit_parts : (c : ℕ) (cs : Text) → AreDigits (c ∷ cs) → IsInRange 48 57 c × AreDigits cs
digit_parts c cs h = grind (arith, nat_tests)

digit_more : (c : ℕ) (cs : Text) → IsInRange 48 57 c → AreDigits cs → AreDigits (c ∷ cs)
digit_more c cs r h = grind (arith, nat_tests)

tells : IsDigitsTest AreDigits
tells = record { empty = refl; parts = digit_parts; more = digit_more }

pub own : IsNumeralModel AreDigits number
own = numerals_by_value AreDigits tells

pub digits_of_number : (field : Text) → is_number field ≡ true → AreDigits field × (0 < length field)
digits_of_number field h = grind (arith, nat_tests)

pub is_text : (field : Text) → is_number field ≡ true → IsUtf8 field
is_text field h = IsUtf8-from_ascii field (IsAscii-from_digits field (own.to field (digits_of_number field h).0))

-- digits alone are read, and what is too large for the type is the rest
pub overflows : {E : Type 0} (field : Text) (e : E) → is_number field ≡ true → ParsesUnsigned 64 10 field (Err e) → 2 ^ 64 - 1 ≡ capped (number field)
overflows {E} field e h p =
    let d = digits_of_number field h in
    let no = parse_digits own {E = E} 64 field (Err e) p d.0 in
    let large : number field < 2 ^ 64 → ⊥ = λ lt. no (d.1, lt) in
    go (ltb (number field) (2 ^ 64)) refl large
  where
    go : (b : Bool) → ltb (number field) (2 ^ 64) ≡ b → (number field < 2 ^ 64 → ⊥) → 2 ^ 64 - 1 ≡ capped (number field)
    go true t large = absurd (large (grind (arith, nat_tests)))
    go false t large = grind (arith, nat_tests)

pub reads : (E : Type 0) (field : Text) (n : ℕ) → is_number field ≡ true → ParsesUnsigned {E = E} 64 10 field (Ok n) → n ≡ capped (number field)
reads E field n h p =
    let d = digits_of_number field h in
    let yes = parse_digits own {E = E} 64 field (Ok n) p d.0 in
    omega (arith, yes.1, yes.0.1)
