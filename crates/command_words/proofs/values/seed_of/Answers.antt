use Rattle.std.proofs.Common.{◌≡◌, ◌^◌, ℕ, Bool, Ok, Err, Some, None, Result, true, false, refl, ap, ◌∙◌, nat_lt, arith}
use Rattle.std.proofs.lemmas.Str.Parse.{parse_digits}
use Rattle.std.specs.Result.{result_ok}
use Rattle.std.specs.Str.Parse.{ParsesUnsigned}
use Rattle.text_fields.proofs.Digits.{digits_of_number, own}
use Rattle.text_fields.specs.Numbers.{is_number, number}
use Rattle.command_words.specs.Jobs.{seed_of}
use Rattle.command_words.specs.Line.{Text}
use Rattle.command_words.proofs.values.seed_of.Goals as goal

-- Digits are read exactly where their number is below 2^64.
read_as : (E : Type 0) (text : Text) (r : Result ℕ E) → is_number text ≡ true → ParsesUnsigned 64 10 text r → result_ok r ≡ seed_of text
read_as E text (Ok n) h p =
    let (within, is) = parse_digits own {E = E} 64 text (Ok n) p (digits_of_number text h).0 in
    let small : nat_lt (number text) (2 ^ 64) ≡ true = grind (arith, within.1) in
    rw (h, small) (ap Some is)
read_as E text (Err e) h p = by (nat_lt (number text) (2 ^ 64)) refl
  where
    by : (b : Bool) → nat_lt (number text) (2 ^ 64) ≡ b → None ≡ seed_of text
    by true small = absurd (parse_digits own {E = E} 64 text (Err e) p (digits_of_number text h).0 ((digits_of_number text h).1, grind (arith, small)))
    by false large = rw (h, large) refl

pub returns : goal.returns
returns c =
    let digits : is_number c.args.text.now ≡ true = cc in
    c.ok.ensures.value ∙ read_as _ c.args.text.now c.parse.result digits c.parse.ensures.value.0
