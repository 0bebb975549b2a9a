-- Where a line ends.
use Rattle.std.proofs.Common.{◌≡◌, ℕ, ◌+◌, ◌≤◌, List, [], ◌∷◌, Bool, true, false, suc, length, take, drop, refl, arith, length-drop}
use Rattle.std.proofs.lemmas.Bool.Decides.{nat_tests}
use Rattle.std.specs.List.{position_or_len, slice_split, filter}
use Rattle.std.specs.Prelude.{◌==◌}
use Rattle.text_fields.specs.Fields.{Text, fields, is_full}
use Rattle.text_fields.specs.Lines.{is_line_feed, has_fields, numbered, lines_from}

abbrev pub feed_of : Text → ℕ
feed_of = position_or_len is_line_feed

-- The first line, and what the lines behind it are.
cut_feed : (text : Text) → (parts : List Text) × (slice_split is_line_feed text ≡ take (feed_of text) text ∷ parts) ×
    ((n : ℕ) → filter has_fields (numbered n parts) ≡ lines_from n (drop (feed_of text + 1) text))
cut_feed [] = ([], refl, λ n. refl)
cut_feed (x ∷ xs) = go (is_line_feed x) refl (cut_feed xs)
  where
    go : (b : Bool) → is_line_feed x ≡ b
        → (parts : List Text) × (slice_split is_line_feed xs ≡ take (feed_of xs) xs ∷ parts) ×
        ((n : ℕ) → filter has_fields (numbered n parts) ≡ lines_from n (drop (feed_of xs + 1) xs))
        → (parts : List Text) × (slice_split is_line_feed (x ∷ xs) ≡ take (feed_of (x ∷ xs)) (x ∷ xs) ∷ parts) ×
        ((n : ℕ) → filter has_fields (numbered n parts) ≡ lines_from n (drop (feed_of (x ∷ xs) + 1) (x ∷ xs)))
    go true e rest =
        let s : feed_of (x ∷ xs) ≡ 0 = rw e refl in
        (slice_split is_line_feed xs, rw (s, e) refl, λ n. rw s refl)
    go false e rest =
        let s : feed_of (x ∷ xs) ≡ suc (feed_of xs) = rw e (omega arith) in
        let t : suc (feed_of xs) + 1 ≡ suc (feed_of xs + 1) = omega arith in
        (rest.0, rw (s, e, rest.1) refl, λ n. rw (s, t) (rest.2 n))

-- A first line with fields is the first of the lines.
pub line_full : (n : ℕ) (text line rest : Text) → line ≡ take (feed_of text) text → rest ≡ drop (feed_of text + 1) text → is_full (fields line) ≡ true →
    lines_from n text ≡ record { number = n; texts = fields line } ∷ lines_from (n + 1) rest
line_full n text line rest l r full =
    let c = cut_feed text in
    let f : is_full (fields (take (feed_of text) text)) ≡ true = rw (← l) full in
    rw (l, r, ← c.2 (n + 1), c.1, f) refl

-- A first line without fields is skipped.
pub line_blank : (n : ℕ) (text line rest : Text) → line ≡ take (feed_of text) text → rest ≡ drop (feed_of text + 1) text → is_full (fields line) ≡ false →
    lines_from n text ≡ lines_from (n + 1) rest
line_blank n text line rest l r full =
    let c = cut_feed text in
    let f : is_full (fields (take (feed_of text) text)) ≡ false = rw (← l) full in
    rw (r, ← c.2 (n + 1), c.1, f) refl

-- What stands behind a line is shorter.
pub shorter : (text rest : Text) → false ≡ (length text == 0) → rest ≡ drop (feed_of text + 1) text → length rest + 1 ≤ length text
shorter [] rest some e = cc
shorter (x ∷ xs) rest some e = rw (e, length-drop) (omega arith)

-- An empty text has no line with fields.
pub nothing : (n : ℕ) (text : Text) → true ≡ (length text == 0) → lines_from n text ≡ []
nothing n [] none = refl
nothing n (x ∷ xs) none = grind (arith, nat_tests)
