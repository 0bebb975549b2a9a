-- A word and a number in front of other text.
use Rattle.std.proofs.Common.{◌≡◌, ℕ, ◌<◌, ◌^◌, List, [], ◌++◌, append_assoc, append-nil, sym, ap, ◌∙◌}
use Rattle.std.proofs.lemmas.List.{append_cancel_left}
use Rattle.report_text.specs.Readers.{Stops}
use Rattle.coflow_units.specs.Text.{spaced}
use Rattle.report_text.proofs.NumberText.{spaced_unique}

-- bytes begin with a word and one number at most
pub field_unique : (word bytes x y : List ℕ) (m n : ℕ) → m < 2 ^ 128 → n < 2 ^ 128 → Stops x → Stops y → bytes ≡ word ++ (spaced m ++ x) → bytes ≡ word ++ (spaced n ++ y) →
    (m ≡ n) × (x ≡ y)
field_unique word bytes x y m n hm hn sx sy a b = spaced_unique x y m n hm hn sx sy (append_cancel_left word (spaced m ++ x) (spaced n ++ y) (sym a ∙ b))

-- the bytes behind a word
pub behind_word : (word bytes rest more : List ℕ) → bytes ≡ word ++ rest → bytes ≡ word ++ more → rest ≡ more
behind_word word bytes rest more a b = append_cancel_left word rest more (sym a ∙ b)

-- a number that ends the bytes
pub at_end : (word bytes : List ℕ) (n : ℕ) → bytes ≡ word ++ spaced n → bytes ≡ word ++ (spaced n ++ [])
at_end word bytes n e = e ∙ ap (λ x. word ++ x) (sym (append-nil (spaced n)))

pub ends : (word bytes rest : List ℕ) (n : ℕ) → bytes ≡ word ++ (spaced n ++ rest) → rest ≡ [] → bytes ≡ word ++ spaced n
ends word bytes rest n e none = e ∙ ap (λ x. word ++ (spaced n ++ x)) none ∙ ap (λ x. word ++ x) (append-nil (spaced n))

-- one number and more behind it, or two
pub one_front : (word x : List ℕ) (a : ℕ) → (word ++ spaced a) ++ x ≡ word ++ (spaced a ++ x)
one_front word x a = append_assoc word (spaced a) x

pub two_front : (word x : List ℕ) (a b : ℕ) → (word ++ spaced a ++ spaced b) ++ x ≡ word ++ (spaced a ++ (spaced b ++ x))
two_front word x a b = append_assoc (word ++ spaced a) (spaced b) x ∙ append_assoc word (spaced a) (spaced b ++ x)
