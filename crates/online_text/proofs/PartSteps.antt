-- The parts of a line of an online run behind its first word.
use Rattle.std.proofs.Common.{◌≡◌, ℕ, List, ◌++◌, append_assoc, sym, ◌∙◌}
use Rattle.std.proofs.lemmas.List.{append_cancel_left}
use Rattle.coflow_units.specs.Text.{spaced}

-- what stands behind the word and the number
pub behind_both : (word : List ℕ) (k : ℕ) (line rest others : List ℕ) → line ≡ word ++ (spaced k ++ rest) → line ≡ word ++ spaced k ++ others → rest ≡ others
behind_both word k line rest others f e =
    append_cancel_left (spaced k) rest others (append_cancel_left word (spaced k ++ rest) (spaced k ++ others) (sym f ∙ (e ∙ append_assoc word (spaced k) others)))
