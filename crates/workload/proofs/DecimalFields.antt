-- The decimal digits of a number, as a field.
use Rattle.std.proofs.Common.{◌≡◌, ℕ, suc, ◌+◌, ◌*◌, ◌<◌, ◌^◌, [], ◌∷◌, ◌++◌, Bool, true, false, None, get_or, length, drop, refl, sym, append-nil, arith, ltb}
use Rattle.std.specs.Prelude.{decimal, position}
use Rattle.std.specs.List.{after_first, before_first, position_or_len}
use Rattle.std.proofs.lemmas.Bool.Decides.{nat_tests}
use Rattle.std.proofs.lemmas.Fmt.{decimal_is_IsNumeral_wide, length-decimal-le}
use Rattle.std.proofs.lemmas.Grind.{common_steps}
use Rattle.std.proofs.lemmas.List.{get_or_append_left}
use Rattle.std.proofs.lemmas.List.Sums.{AllPass-from_list_all, position_or_len_is}
use Rattle.std.proofs.Math.Seq.{get_or-append_seam, take-append_seam}
use Rattle.text_fields.specs.Decimals.{is_decimal, is_point, scaled_up}
use Rattle.text_fields.specs.Fields.{Text, is_blank, is_full}
use Rattle.text_fields.specs.Lines.{is_line_feed}
use Rattle.text_fields.specs.Numbers.{is_digit, is_number, number}
use Rattle.text_fields.proofs.DecimalDigits.{ceil_is, no_point}
use Rattle.text_fields.proofs.Digits.{AreDigits, own}
use Rattle.trace_reader.specs.Coflow.{is_colon}
use Rattle.workload.proofs.LineWords.{IsWord, Lacks}

digits_lack : (p : ℕ → Bool) → ((b : ℕ) → is_digit b ≡ true → p b ≡ false) → (ds : Text) → AreDigits ds → Lacks p ds
digits_lack p never_digit ds h = λ k d lt. never_digit (get_or ds k d) (AllPass-from_list_all is_digit ds h k d lt)

no_blank : (b : ℕ) → is_digit b ≡ true → is_blank b ≡ false
no_blank b h = grind (arith, nat_tests)

no_feed : (b : ℕ) → is_digit b ≡ true → is_line_feed b ≡ false
no_feed b h = grind (arith, nat_tests)

no_colon : (b : ℕ) → is_digit b ≡ true → is_colon b ≡ false
no_colon b h = grind (arith, nat_tests)

point_no_digit : (b : ℕ) → is_digit b ≡ true → is_point b ≡ false
point_no_digit b h = grind (arith, nat_tests)

full_from_length : (text : Text) → 0 < length text → is_full text ≡ true
full_from_length [] h = absurd (omega arith)
full_from_length (b ∷ bs) h = refl

-- the first byte that passes stands behind those that do not
first_place : (p : ℕ → Bool) (front : Text) (b : ℕ) (rest : Text) → Lacks p front → p b ≡ true → position_or_len p (front ++ b ∷ rest) ≡ length front
first_place p front b rest h e =
    position_or_len_is p (front ++ b ∷ rest) (length front) 0 (grind (arith, common_steps)) (λ k lt. rw (get_or_append_left front (b ∷ rest) 0 k lt) (h k 0 lt))
    (λ lt. rw (get_or-append_seam front b rest 0) e)

pub cut_before : (p : ℕ → Bool) (front : Text) (b : ℕ) (rest : Text) → Lacks p front → p b ≡ true → before_first p (front ++ b ∷ rest) ≡ front
cut_before p front b rest h e = rw (first_place p front b rest h e) (take-append_seam front (b ∷ rest))

pub cut_after : (p : ℕ → Bool) (front : Text) (b : ℕ) (rest : Text) → Lacks p front → p b ≡ true → after_first p (front ++ b ∷ rest) ≡ rest
cut_after p front b rest h e = rw (first_place p front b rest h e) (behind front b rest)
  where
    behind : (front : Text) (b : ℕ) (rest : Text) → drop (length front + 1) (front ++ b ∷ rest) ≡ rest
    behind [] b rest = refl
    behind (x ∷ front) b rest = let e : length (x ∷ front) + 1 ≡ suc (length front + 1) = omega arith in rw e (behind front b rest)

never : (p : ℕ → Bool) (text : Text) → Lacks p text → None ≡ position p text
never p text h =
    let at : position_or_len p text ≡ length text = position_or_len_is p text (length text) 0 (omega arith) (λ k lt. h k 0 lt) (λ lt. absurd (omega arith)) in
    let none : ltb (length text) (length text) ≡ false = grind (arith, nat_tests) in
    rw (at, none) refl

module _ (n : ℕ) (small : n < 2 ^ 64) where
  pub digits_are : AreDigits (decimal n)
  digits_are = own.from (decimal n) (decimal_is_IsNumeral_wide n (omega arith)).0.1

  some_digits : 0 < length (decimal n)
  some_digits = (decimal_is_IsNumeral_wide n (omega arith)).0.0

  pub lacks_colon : Lacks is_colon (decimal n)
  lacks_colon = digits_lack is_colon no_colon (decimal n) digits_are

  pub is_a_number : is_number (decimal n) ≡ true
  is_a_number = let s = some_digits in let d = digits_are in grind (arith, nat_tests)

  pub value_is : number (decimal n) ≡ n
  value_is = (decimal_is_IsNumeral_wide n (omega arith)).1

  pointless : None ≡ position is_point (decimal n)
  pointless = never is_point (decimal n) (digits_lack is_point point_no_digit (decimal n) digits_are)

  pub is_a_decimal : is_decimal (decimal n) ≡ true
  is_a_decimal =
      let parts = no_point (decimal n) pointless in
      rw (parts.0, is_a_number, ← pointless) refl

  pub scaled_is : (k : ℕ) → scaled_up k (decimal n) ≡ n * k
  scaled_is k =
      let parts = no_point (decimal n) pointless in
      rw (parts.0, parts.1, append-nil, value_is) (sym (ceil_is (n * k) 1 (n * k) (omega arith) (omega arith) (omega arith)))

-- a small number is a word
pub is_word : (n : ℕ) → n < 1000000 → IsWord (decimal n)
is_word n lt =
    let small : n < 2 ^ 64 = omega arith in
    record {
      full = full_from_length (decimal n) (some_digits n small);
      short = length-decimal-le 6 n (omega arith) (omega arith) small;
      blanks = digits_lack is_blank no_blank (decimal n) (digits_are n small);
      feeds = digits_lack is_line_feed no_feed (decimal n) (digits_are n small);
    }
