-- The fields of a line whose words stand behind single spaces.
use Rattle.std.proofs.Common.{◌≡◌, ℕ, ◌+◌, ◌*◌, ◌≤◌, List, [], ◌∷◌, ◌++◌, Bool, true, false, length, length-append, refl, ap, append-nil, arith}
use Rattle.std.specs.Prelude.{All, codes}
use Rattle.std.specs.List.{flat_map}
use Rattle.std.proofs.lemmas.List.Elements.{All-append, All-cons, All-nil}
use Rattle.std.proofs.lemmas.List.Splits.{slice_split_at, slice_split_none}
use Rattle.text_fields.specs.Fields.{Text, fields, is_blank, is_full}
use Rattle.text_fields.specs.Lines.{is_line_feed}

-- no byte of the text passes the test
abbrev pub Lacks : (ℕ → Bool) → Text → Type 0
Lacks p text = All (λ b. p b ≡ false) text

-- a word has from 1 to 6 bytes, none of them a blank or a line feed
pub record IsWord (word : Text) : Type 0 where
  pub full : is_full word ≡ true
  pub short : length word ≤ 6
  pub blanks : Lacks is_blank word
  pub feeds : Lacks is_line_feed word

abbrev pub AreWords : List Text → Type 0
AreWords [] = Unit {0}
AreWords (word ∷ words) = IsWord word × AreWords words

-- each word behind a space
abbrev pub behind_spaces : List Text → Text
behind_spaces words = flat_map (λ (word : Text). codes " " ++ word) words

-- the words are the fields
pub words_are_fields : (word : Text) (words : List Text) → IsWord word → AreWords words → fields (word ++ behind_spaces words) ≡ word ∷ words
words_are_fields word [] h hs = rw (append-nil, slice_split_none is_blank word h.blanks, h.full) refl
words_are_fields word (next ∷ words) h hs =
    rw (slice_split_at is_blank word 32 (next ++ behind_spaces words) h.blanks refl, h.full) (ap (λ l. word ∷ l) (words_are_fields next words hs.0 hs.1))

-- words before other words
pub both_words : (xs ys : List Text) → AreWords xs → AreWords ys → AreWords (xs ++ ys)
both_words [] ys hx hy = hy
both_words (x ∷ xs) ys hx hy = (hx.0, both_words xs ys hx.1 hy)

one_space : (text : Text) → Lacks is_line_feed text → Lacks is_line_feed (32 ∷ text)
one_space text h = All-cons (λ b. is_line_feed b ≡ false) 32 text refl h

spaces_lack_feed : (words : List Text) → AreWords words → Lacks is_line_feed (behind_spaces words)
spaces_lack_feed [] h = All-nil (λ b. is_line_feed b ≡ false)
spaces_lack_feed (word ∷ words) h =
    one_space (word ++ behind_spaces words) (All-append (λ b. is_line_feed b ≡ false) word (behind_spaces words) h.0.feeds (spaces_lack_feed words h.1))

-- a line of words has no line feed
pub words_lack_feed : (word : Text) (words : List Text) → IsWord word → AreWords words → Lacks is_line_feed (word ++ behind_spaces words)
words_lack_feed word words h hs = All-append (λ b. is_line_feed b ≡ false) word (behind_spaces words) h.feeds (spaces_lack_feed words hs)

spaces_short : (words : List Text) → AreWords words → length (behind_spaces words) ≤ length words * 7
spaces_short [] h = omega arith
spaces_short (word ∷ words) h = omega (arith, length-append word (behind_spaces words), h.0.short, spaces_short words h.1)

-- a line of words is short
pub words_are_short : (word : Text) (words : List Text) → IsWord word → AreWords words → length (word ++ behind_spaces words) ≤ 6 + length words * 7
words_are_short word words h hs = omega (arith, length-append word (behind_spaces words), h.short, spaces_short words hs)
