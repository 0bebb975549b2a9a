-- Behind a single dash of a word stands a character.
use Rattle.std.proofs.Common.{◌≡◌, ℕ, ◌<◌, List, [], ◌∷◌, Some, length, drop, refl, ap, arith}
use Rattle.std.proofs.lemmas.Str.{IsUtf8-drop, IsCharBoundary-after_ascii, encodes-chars, IsUtf8-string_bytes}
use Rattle.std.specs.Prelude.{slice_get}
use Rattle.std.specs.Str.{IsUtf8, chars}
use Rattle.std.specs.declared.string.String.{String}
use Rattle.std.specs.declared.alloc.Global.{Global}
use Rattle.command_words.specs.Line.{Text, texts}

-- Each word is a text of UTF-8.
abbrev pub AllUtf8 : List Text → Type 0
AllUtf8 [] = Unit {0}
AllUtf8 (w ∷ ws) = IsUtf8 w × AllUtf8 ws

all_utf8 : (words : List (String Global)) → AllUtf8 (texts words)
all_utf8 [] = tt
all_utf8 (s ∷ words) = (IsUtf8-string_bytes s, all_utf8 words)

pub utf8_behind : (words : List (String Global)) → AllUtf8 (drop 1 (texts words))
utf8_behind [] = tt
utf8_behind (s ∷ words) = all_utf8 words

first_character : (flags : Text) → IsUtf8 flags → 0 < length flags → (x : ℕ) × (slice_get (chars flags) 0 ≡ Some x)
first_character flags u some = by (chars flags) refl
  where
    by : (cs : List ℕ) → chars flags ≡ cs → (x : ℕ) × (slice_get (chars flags) 0 ≡ Some x)
    by [] e =
        let none : [] ≡ flags = rw e at (encodes-chars flags u) in
        absurd (omega (arith, some, ap length none))
    by (x ∷ cs) e = (x, rw e refl)

-- Behind an ASCII byte stands a character.
pub second_character : (a b : ℕ) (rest : Text) → IsUtf8 (a ∷ b ∷ rest) → a < 128 → (x : ℕ) × (slice_get (chars (b ∷ rest)) 0 ≡ Some x)
second_character a b rest u small =
    let long : 0 < length (a ∷ b ∷ rest) = omega arith in
    let tail : IsUtf8 (b ∷ rest) = IsUtf8-drop (a ∷ b ∷ rest) 1 u (IsCharBoundary-after_ascii (a ∷ b ∷ rest) 0 u long small) in
    first_character (b ∷ rest) tail (omega arith)
