-- The form of a word, as the parser sees it.
use Rattle.std.proofs.Common.{◌≡◌, ℕ, [], ◌∷◌, Option, Some, None, Bool, true, false, refl, cond, arith, inl, inr, ◌⊎◌}
use Rattle.std.proofs.lemmas.Bool.Decides.{nat_tests}
use Rattle.std.specs.Prelude.{◌==◌}
use Rattle.std.specs.List.{after_first, before_first, list_any}
use Rattle.std.specs.Str.{IsUtf8}
use Rattle.command_words.specs.Line.{Form, Text, plain, ends, apart, joined, wrong, form_of, dashed_form, option_form, is_equals, is_option}
use Rattle.command_words.proofs.Turns.{IsPlain, IsShort, Names}
use Rattle.command_words.proofs.Utf8.{second_character}

-- The word names what is no option, or is one dash and a text.
abbrev pub IsWrong : Text → Type 0
IsWrong w = ((o : Text) × (v : Option Text) × Names w o v × (is_option o ≡ false)) ⊎ IsShort w

-- What the parser sees in a word of this form.
abbrev pub Sees : Text → Form → Type 0
Sees w plain = IsPlain w
Sees w ends = w ≡ 45 ∷ 45 ∷ []
Sees w (apart o) = Names w o None × (is_option o ≡ true)
Sees w (joined o v) = Names w o (Some v) × (is_option o ≡ true)
Sees w wrong = IsWrong w

plain_word : (a b : ℕ) (rest : Text) → (a == 45) ≡ false → IsPlain (a ∷ b ∷ rest)
plain_word a b rest t = record { long = rw t refl; short = rw t refl; ends = rw t refl }

short_word : (a b : ℕ) (rest : Text) → IsUtf8 (a ∷ b ∷ rest) → (a == 45) ≡ true → (b == 45) ≡ false → IsShort (a ∷ b ∷ rest)
short_word a b rest u t f =
    let c = second_character a b rest u (grind (arith, nat_tests)) in
    record { flags = b ∷ rest; character = c.0; long = rw (t, f) refl; ends = rw (t, f) refl; short = rw (t, f) refl; some = omega arith; first = c.1 }

option_word : (a b x : ℕ) (xs : Text) → (a == 45) ≡ true → (b == 45) ≡ true → Sees (a ∷ b ∷ x ∷ xs) (option_form (x ∷ xs))
option_word a b x xs s t = by (is_option (before_first is_equals (x ∷ xs))) (list_any is_equals (x ∷ xs)) refl refl
  where
    by : (p q : Bool) → is_option (before_first is_equals (x ∷ xs)) ≡ p → list_any is_equals (x ∷ xs) ≡ q
        → Sees (a ∷ b ∷ x ∷ xs) (cond p (cond q (joined (before_first is_equals (x ∷ xs)) (after_first is_equals (x ∷ xs))) (apart (before_first is_equals (x ∷ xs)))) wrong)
    by true true o e = (record { long = rw (s, t, e) refl; ends = rw (s, t) refl }, o)
    by true false o e = (record { long = rw (s, t, e) refl; ends = rw (s, t) refl }, o)
    by false true o e = inl (before_first is_equals (x ∷ xs), Some (after_first is_equals (x ∷ xs)), record { long = rw (s, t, e) refl; ends = rw (s, t) refl }, o)
    by false false o e = inl (before_first is_equals (x ∷ xs), None, record { long = rw (s, t, e) refl; ends = rw (s, t) refl }, o)

pub sees : (w : Text) → IsUtf8 w → Sees w (form_of w)
sees [] u = record { long = refl; short = refl; ends = refl }
sees (a ∷ []) u = by (a == 45) refl
  where
    by : (p : Bool) → (a == 45) ≡ p → IsPlain (a ∷ [])
    by true t = record { long = rw t refl; short = rw t refl; ends = rw t refl }
    by false t = record { long = rw t refl; short = rw t refl; ends = rw t refl }
sees (a ∷ b ∷ rest) u = by (a == 45) (b == 45) rest refl refl refl
  where
    by : (p q : Bool) (r : Text) → (a == 45) ≡ p → (b == 45) ≡ q → rest ≡ r → Sees (a ∷ b ∷ rest) (cond p (cond q (dashed_form rest) wrong) plain)
    by false q r s t e = plain_word a b rest s
    by true false r s t e = inr (short_word a b rest u s t)
    by true true [] s t e =
        let p : a ≡ 45 = grind (arith, nat_tests) in
        let q : b ≡ 45 = grind (arith, nat_tests) in
        rw (e, p, q) refl
    by true true (x ∷ xs) s t e = rw e (option_word a b x xs s t)
