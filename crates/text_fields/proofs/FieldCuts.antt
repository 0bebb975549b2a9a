-- Where a field begins and ends.
use Rattle.std.proofs.Common.{◌≡◌, ℕ, ◌<◌, List, [], ◌∷◌, Bool, true, false, not, suc, add-zero, length, get_or, take, drop, refl, sym, ap, ◌∙◌}
use Rattle.std.proofs.Common.{arith}
use Rattle.std.proofs.lemmas.Grind.{common_steps}
use Rattle.std.proofs.lemmas.Bool.Decides.{nat_tests}
use Rattle.std.proofs.lemmas.List.Sums.{passes_at_first}
use Rattle.std.proofs.Math.Seq.{get_or-drop}
use Rattle.std.specs.List.{position_or_len, slice_split, filter}
use Rattle.std.specs.Prelude.{◌==◌}
use Rattle.text_fields.specs.Fields.{Text, fields, field_at, is_blank, is_full}

abbrev pub start_of : Text → ℕ
start_of = position_or_len (λ b. not (is_blank b))

abbrev pub end_of : Text → ℕ
end_of = position_or_len is_blank

-- Blanks before a field count for nothing.
pub skip : (line : Text) → fields (drop (start_of line) line) ≡ fields line
skip [] = refl
skip (x ∷ xs) = go (is_blank x) refl (skip xs)
  where
    go : (b : Bool) → is_blank x ≡ b → fields (drop (start_of xs) xs) ≡ fields xs → fields (drop (start_of (x ∷ xs)) (x ∷ xs)) ≡ fields (x ∷ xs)
    go true e rest = let s : start_of (x ∷ xs) ≡ suc (start_of xs) = rw e (omega arith) in rw (s, e) rest
    go false e rest = let s : start_of (x ∷ xs) ≡ 0 = rw e refl in rw s refl

-- The first field ends at the first blank.
pub cut : (text : Text) → (parts : List Text) × (slice_split is_blank text ≡ take (end_of text) text ∷ parts) × (filter is_full parts ≡ fields (drop (end_of text) text))
cut [] = ([], refl, refl)
cut (x ∷ xs) = go (is_blank x) refl (cut xs)
  where
    go : (b : Bool) → is_blank x ≡ b
        → (parts : List Text) × (slice_split is_blank xs ≡ take (end_of xs) xs ∷ parts) × (filter is_full parts ≡ fields (drop (end_of xs) xs))
        → (parts : List Text) × (slice_split is_blank (x ∷ xs) ≡ take (end_of (x ∷ xs)) (x ∷ xs) ∷ parts) × (filter is_full parts ≡ fields (drop (end_of (x ∷ xs)) (x ∷ xs)))
    go true e rest =
        let s : end_of (x ∷ xs) ≡ 0 = rw e refl in
        let f : fields (x ∷ xs) ≡ fields xs = rw e refl in
        (slice_split is_blank xs, rw e refl, rw s (sym f))
    go false e rest = let s : end_of (x ∷ xs) ≡ suc (end_of xs) = rw e (omega arith) in (rest.0, rw (s, e, rest.1) refl, rw s rest.2)

-- The first field of a text that does not begin with a blank, and the fields behind it.
pub next_of : (text : Text) → (0 < length text → not (is_blank (get_or text 0 0)) ≡ true) →
    (take (end_of text) text ≡ field_at (fields text) 0) × (fields (drop (end_of text) text) ≡ drop 1 (fields text))
next_of [] h = (refl, refl)
next_of (x ∷ xs) h =
    let e : is_blank x ≡ false = grind (arith, common_steps, h (omega arith)) in
    let c = cut xs in
    let s : end_of (x ∷ xs) ≡ suc (end_of xs) = rw e (omega arith) in
    let f : fields (x ∷ xs) ≡ (x ∷ take (end_of xs) xs) ∷ fields (drop (end_of xs) xs) = rw (e, c.1, c.2) refl in
    (rw (s, f) refl, rw (s, f) refl)

-- The first field of a line, and the fields behind it.
pub next_is : (line text field rest : Text) → text ≡ drop (start_of line) line → field ≡ take (end_of text) text → rest ≡ drop (end_of text) text →
    (field ≡ field_at (fields line) 0) × (fields rest ≡ drop 1 (fields line))
next_is line text field rest t f r =
    let same : fields text ≡ fields line = ap fields t ∙ skip line in
    let starts : 0 < length text →
    not (is_blank (get_or text 0 0)) ≡ true = λ some. rw (t, get_or-drop, add-zero) (passes_at_first (λ b. not (is_blank b)) line 0 (grind (arith, common_steps))) in
    let n = next_of text starts in
    (f ∙ n.0 ∙ ap (λ l. field_at l 0) same, ap fields r ∙ n.1 ∙ ap (drop 1) same)

head_full : (parts : List Text) → is_full (field_at (filter is_full parts) 0) ≡ is_full (filter is_full parts)
head_full [] = refl
head_full ([] ∷ parts) = head_full parts
head_full ((x ∷ xs) ∷ parts) = refl

-- No field is empty.
pub first_is_full : (line field : Text) → field ≡ field_at (fields line) 0 → is_full field ≡ is_full (fields line)
first_is_full line field e = ap is_full e ∙ head_full (slice_split is_blank line)

pub not_empty : (xs : Text) (b : Bool) → b ≡ (length xs == 0) → not b ≡ is_full xs
not_empty [] b e = rw e refl
not_empty (x ∷ xs) b e = rw e (grind (arith, nat_tests))

pub same_zero : {X Y : Type 0} (xs : List X) (ys : List Y) → is_full xs ≡ is_full ys → (length xs == 0) ≡ (length ys == 0)
same_zero [] [] e = refl
same_zero [] (y ∷ ys) e = cc
same_zero (x ∷ xs) [] e = cc
same_zero (x ∷ xs) (y ∷ ys) e = grind (arith, nat_tests)
