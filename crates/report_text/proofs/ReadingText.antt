-- The lines that bytes begin with, and what text of a report goes on from them.
use Rattle.std.proofs.Common.{◌≡◌, ℕ, ◌+◌, List, [], ◌∷◌, ◌++◌, append_assoc, append-nil, length, length-append, refl, sym, ap, ◌∙◌, arith}
use Rattle.coflow_units.specs.Text.{ended, text_of}
use Rattle.report_text.specs.Readers.{IsOneLine}
use Rattle.report_text.proofs.LineText.{line_unique}

-- each line is one line
abbrev pub AreLines : List (List ℕ) → Type 0
AreLines [] = Unit {0}
AreLines (x ∷ xs) = IsOneLine x × AreLines xs

pub front_lines : (xs ys : List (List ℕ)) → AreLines (xs ++ ys) → AreLines xs
front_lines [] ys h = tt
front_lines (x ∷ xs) ys h = (h.0, front_lines xs ys h.1)

pub more_lines : (xs : List (List ℕ)) (line : List ℕ) → AreLines xs → IsOneLine line → AreLines (xs ++ (line ∷ []))
more_lines [] line h one = (one, tt)
more_lines (x ∷ xs) line h one = (h.0, more_lines xs line h.1 one)

-- a text that begins with the lines xs is of lines that begin with xs
pub text_goes_on : (xs ys : List (List ℕ)) (rest : List ℕ) → AreLines xs → AreLines ys → text_of xs ++ rest ≡ text_of ys →
    (more : List (List ℕ)) × (ys ≡ xs ++ more) × (rest ≡ text_of more) × AreLines more
text_goes_on [] ys rest hx hy e = (ys, refl, e, hy)
text_goes_on (x ∷ xs) [] rest hx hy e =
    absurd (let bad : length (text_of (x ∷ xs) ++ rest) ≡ 0 = ap length e in
    omega (arith, length-append (text_of (x ∷ xs)) rest, length-append (ended x) (text_of xs), length-append x (10 ∷ []), bad))
text_goes_on (x ∷ xs) (y ∷ ys) rest hx hy e =
    let one = line_unique x y (text_of xs ++ rest) (text_of ys) hx.0 hy.0 (sym (append_assoc (ended x) (text_of xs) rest) ∙ e) in
    let more = text_goes_on xs ys rest hx.1 hy.1 one.1 in
    (more.0, (λ i. sym one.0 i ∷ more.1 i), more.2, more.3)

-- one line more than xs, in front of other bytes
pub text_splits : (xs front : List (List ℕ)) (rest behind : List ℕ) → AreLines xs → AreLines front → length front ≡ length xs + 1 → text_of xs ++ rest ≡ text_of front ++ behind →
    (line : List ℕ) × (front ≡ xs ++ (line ∷ [])) × (rest ≡ ended line ++ behind) × IsOneLine line
text_splits [] [] rest behind hx hf n e = absurd (omega (arith, n))
text_splits [] (y ∷ []) rest behind hx hf n e = (y, refl, e ∙ ap (λ t. t ++ behind) (append-nil (ended y)), hf.0)
text_splits [] (y ∷ z ∷ zs) rest behind hx hf n e = absurd (omega (arith, n))
text_splits (x ∷ xs) [] rest behind hx hf n e = absurd (omega (arith, n))
text_splits (x ∷ xs) (y ∷ ys) rest behind hx hf n e =
    let one = line_unique x y (text_of xs ++ rest) (text_of ys ++ behind) hx.0 hf.0
    (sym (append_assoc (ended x) (text_of xs) rest) ∙ (e ∙ append_assoc (ended y) (text_of ys) behind)) in
    let more = text_splits xs ys rest behind hx.1 hf.1 (omega (arith, n)) one.1 in
    (more.0, (λ i. sym one.0 i ∷ more.1 i), more.2, more.3)
