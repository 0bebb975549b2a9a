-- A line in front of other text.
use Rattle.std.proofs.Common.{◌≡◌, ◌≢◌, ℕ, suc, ◌+◌, List, [], ◌∷◌, ◌++◌, Bool, true, false, length, take, drop, refl, sym, ap, ◌∙◌, append_assoc, arith}
use Rattle.std.specs.Prelude.{◌==◌, nat_eq}
use Rattle.std.specs.List.{position_or_len}
use Rattle.std.specs.Cmp.Lexicographic.{pointwise}
use Rattle.std.proofs.lemmas.Bool.Decides.{nat_tests, Decides-eqb}
use Rattle.std.proofs.lemmas.Slice.Eq.{slice_eq-Decides}
use Rattle.std.proofs.lemmas.List.{take-append-drop}
use Rattle.std.proofs.Math.Seq.{take-append_seam}
use Rattle.coflow_units.specs.Text.{ended}
use Rattle.report_text.specs.Readers.{IsOneLine}

pub same_list : (xs ys : List ℕ) → pointwise nat_eq xs ys ≡ true → xs ≡ ys
same_list xs ys h = (slice_eq-Decides Decides-eqb xs ys (pointwise nat_eq xs ys) refl).0 h

pub not_same : (xs ys : List ℕ) → pointwise nat_eq xs ys ≡ false → xs ≡ ys → ⊥
not_same xs ys h e = let other : pointwise nat_eq xs ys ≡ true = (slice_eq-Decides Decides-eqb xs ys (pointwise nat_eq xs ys) refl).1 e in cc

-- the bytes begin with the word
pub prefix_found : (word bytes rest : List ℕ) → pointwise nat_eq (take (length word) bytes) word ≡ true → rest ≡ drop (length word) bytes → bytes ≡ word ++ rest
prefix_found word bytes rest h r = sym (take-append-drop (length word) bytes) ∙ (ap (λ x. x ++ drop (length word) bytes) (same_list _ _ h) ∙ ap (λ x. word ++ x) (sym r))

-- the bytes do not begin with the word
pub not_there : (word rest bytes : List ℕ) → pointwise nat_eq (take (length word) bytes) word ≡ false → bytes ≡ word ++ rest → ⊥
not_there word rest bytes h e = not_same (take (length word) bytes) word h (rw e (take-append_seam word rest))

-- bytes begin with one line at most
pub line_unique : (a b x y : List ℕ) → IsOneLine a → IsOneLine b → ended a ++ x ≡ ended b ++ y → (a ≡ b) × (x ≡ y)
line_unique [] [] x y ha hb e = (refl, ap (drop 1) e)
line_unique [] (b ∷ bs) x y ha hb e = let h : 10 ≡ b = cc in absurd (hb.0 (sym h))
line_unique (a ∷ more) [] x y ha hb e = let h : a ≡ 10 = cc in absurd (ha.0 h)
line_unique (a ∷ more) (b ∷ bs) x y ha hb e =
    let head : a ≡ b = cc in
    let rest : ended more ++ x ≡ ended bs ++ y = ap (drop 1) e in
    let others = line_unique more bs x y ha.1 hb.1 rest in
    (λ i. head i ∷ others.0 i, others.1)

abbrev pub is_feed : ℕ → Bool
is_feed b = b == 10

other_byte : (b : ℕ) → is_feed b ≡ false → b ≢ 10
other_byte b h e = grind (arith, nat_tests)

feed_byte : (b : ℕ) → is_feed b ≡ true → b ≡ 10
feed_byte b h = grind (arith, nat_tests)

-- what stands before the first line feed is one line
pub front_is_line : (bytes : List ℕ) → IsOneLine (take (position_or_len is_feed bytes) bytes)
front_is_line [] = tt
front_is_line (b ∷ bs) = go (is_feed b) refl (front_is_line bs)
  where
    go : (t : Bool) → is_feed b ≡ t → IsOneLine (take (position_or_len is_feed bs) bs) → IsOneLine (take (position_or_len is_feed (b ∷ bs)) (b ∷ bs))
    go true e more = rw e tt
    go false e more =
        let step : 1 + position_or_len is_feed bs ≡ suc (position_or_len is_feed bs) = omega arith in
        rw (e, step) (other_byte b e, more)

-- where a line feed stands, the first one ends the front
pub feed_is_next : (line bytes rest : List ℕ) → bytes ≡ ended line ++ rest → (behind : List ℕ) × (drop (position_or_len is_feed bytes) bytes ≡ 10 ∷ behind)
feed_is_next [] bytes rest e = (rest, rw e refl)
feed_is_next (b ∷ bs) bytes rest e = go (is_feed b) refl (feed_is_next bs (ended bs ++ rest) rest refl)
  where
    go : (t : Bool) → is_feed b ≡ t → ((behind : List ℕ) × (drop (position_or_len is_feed (ended bs ++ rest)) (ended bs ++ rest) ≡ 10 ∷ behind)) →
        (behind : List ℕ) × (drop (position_or_len is_feed bytes) bytes ≡ 10 ∷ behind)
    go true t more =
        let at : position_or_len is_feed (b ∷ ended bs ++ rest) ≡ 0 = rw t refl in
        (ended bs ++ rest, rw (e, at) (ap (λ x. x ∷ ended bs ++ rest) (feed_byte b t)))
    go false t more =
        let at : position_or_len is_feed (b ∷ ended bs ++ rest) ≡ suc (position_or_len is_feed (ended bs ++ rest)) = rw t (omega arith) in
        (more.0, rw (e, at) more.1)

-- the front, the line feed and what follows make up the bytes
pub line_found : (bytes line behind rest : List ℕ) (k : ℕ) → line ≡ take k bytes → behind ≡ drop k bytes → behind ≡ 10 ∷ rest → bytes ≡ ended line ++ rest
line_found bytes line behind rest k l b r =
    sym (take-append-drop k bytes) ∙ (ap (λ x. x ++ drop k bytes) (sym l) ∙ (ap (λ x. line ++ x) (sym b ∙ r) ∙ sym (append_assoc line (10 ∷ []) rest)))
