-- The text of a comparison of rankers, line by line.
use Rattle.std.specs.Prelude.{ℕ, ◌<◌, ◌≤◌, ◌^◌, ◌++◌, List, [], ◌∷◌, All, codes, length, map}
use Rattle.report_text.specs.Text.{bound_line}
use Rattle.coflow_units.specs.Text.{spaced, text_of}
use Rattle.report_text.specs.declared.compared.Compare.{Compare}
use Rattle.report_text.specs.declared.compared.RowLine.{RowLine}
use Rattle.report_text.specs.declared.compared.RowText.{RowText}
use Rattle.report_text.specs.declared.compared.RowText.TheVariants.{Cost, Unfit}

-- a name that a row may have: from 1 to 16 letters of a to z
pub record IsName (name : List ℕ) : Type 0 where
  pub some : 1 ≤ length name
  pub few : length name ≤ 16
  pub letter : All (λ b. (97 ≤ b) × (b ≤ 122)) name

-- what an answer is worth, behind a space
abbrev pub worth_words : RowText → List ℕ
worth_words (Cost total) = codes " cost" ++ spaced total
worth_words (Unfit place) = codes " unfit" ++ spaced place

-- the line of a row: the ranker's place on the bench, the round, its name, and what its answer is worth
abbrev pub row_line : RowLine → List ℕ
row_line r = codes "row" ++ spaced r.index ++ spaced r.round ++ codes " " ++ r.name ++ worth_words r.scored

-- the lines of a comparison
abbrev pub compare_lines : Compare → List (List ℕ)
compare_lines c = (codes "sincronia compare 1" ∷ bound_line c.bound ∷ []) ++ map row_line c.rows ++ (codes "end" ∷ [])

-- the text of a comparison
abbrev pub compare_text : Compare → List ℕ
compare_text c = text_of (compare_lines c)

-- the number is below 2^128, as each number of its type is
abbrev pub IsSmallWorth : RowText → Type 0
IsSmallWorth (Cost total) = total < 2 ^ 128
IsSmallWorth (Unfit place) = place < 2 ^ 128

-- the numbers of a row are below 2^128, and its name has letters of a to z alone
pub record IsSmallRow (r : RowLine) : Type 0 where
  pub index : r.index < 2 ^ 128
  pub round : r.round < 2 ^ 128
  pub letter : All (λ b. (97 ≤ b) × (b ≤ 122)) r.name
  pub worth : IsSmallWorth r.scored

-- the same of each row, and of the bound
pub record IsSmallCompare (c : Compare) : Type 0 where
  pub bound : c.bound < 2 ^ 128
  pub rows : All IsSmallRow c.rows
