-- The words of a board, and what a word that was loaded says of what was published.
-- Word 0 is the front. Each coflow has two words: one for the even versions and one for the odd ones.
use Rattle.std.specs.Prelude.{◌≡◌, ℕ, ◌+◌, ◌-◌, ◌*◌, ◌/◌, ◌%◌, ◌<◌, ◌≤◌, List, [], ◌∷◌, length, slice_index_or}

-- the place of the word that has the coflow's rank in this version
abbrev pub word_at : ℕ → ℕ → ℕ
word_at version coflow = 1 + 2 * coflow + version % 2

-- the coflow of a place
abbrev pub coflow_at : ℕ → ℕ
coflow_at place = (place - 1) / 2

-- a rank with its version; rank 0 is none
abbrev pub rank_word : ℕ → ℕ → ℕ
rank_word version rank = version * 4294967296 + rank

-- the ranks of a version, one for each coflow; version 0 has none
abbrev pub ranks_of : List (List ℕ) → ℕ → List ℕ
ranks_of published version = slice_index_or ([] ∷ published) version []

-- the coflow's rank in a version, and 0 where it has none
abbrev pub rank_of : List (List ℕ) → ℕ → ℕ → ℕ
rank_of published version coflow = slice_index_or (ranks_of published version) coflow 0

-- A look is a place and the word that was loaded there. The word was published: at the front it is a version, elsewhere
-- the rank of that version.
pub record WasPublished (published : List (List ℕ)) (look : ℕ × ℕ) : Type 0 where
  pub front : look.0 ≡ 0 → look.1 ≤ length published
  pub rank : 0 < look.0 → (look.1 / 4294967296 ≤ length published) ×
      (look.1 % 4294967296 ≡ rank_of published (look.1 / 4294967296) (coflow_at look.0))
