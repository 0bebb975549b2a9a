-- Pulls: how the logic stores them, which of them stand in the looks of a seat, and which agree with what was
-- published.
use Rattle.std.specs.Prelude.{◌≡◌, ℕ, ◌<◌, ◌≤◌, List, ◌⊎◌, Contains, length, refl}
use Rattle.std.specs.Coded.{Coded, code_by, coded×, coded_ℕ, coded_list}
use Rattle.rank_board.specs.declared.pulls.Pull.{Pull}
use Rattle.rank_board.specs.Words.{word_at, rank_word, rank_of}

-- a pull of the coflow, which found this rank in this version
abbrev pub pull_of : ℕ → ℕ → ℕ → ℕ → Pull
pull_of version coflow rank mark = record { version = version; coflow = coflow; rank = rank; mark = mark }

abbrev Parts : Type 0
Parts = ℕ × (ℕ × (ℕ × ℕ))

abbrev to_parts : Pull → Parts
to_parts p = (p.version, (p.coflow, (p.rank, p.mark)))

abbrev from_parts : Parts → Pull
from_parts t = pull_of t.0 t.1.0 t.1.1.0 t.1.1.1

abbrev pub pulls_code : Coded (List Pull)
pulls_code = coded_list (code_by Parts (coded× coded_ℕ (coded× coded_ℕ (coded× coded_ℕ coded_ℕ))) to_parts from_parts
    (λ _. refl))

-- the pull stands in the looks: before anything is published there is no rank, later its rank word is among the looks
abbrev pub IsRead : List (ℕ × ℕ) → Pull → Type 0
IsRead looks p = ((p.version ≡ 0) × (p.rank ≡ 0)) ⊎
    ((0 < p.version) × (p.rank < 4294967296) × Contains looks (word_at p.version p.coflow, rank_word p.version p.rank))

-- the rank is the one that was published with its version
abbrev pub Agrees : List (List ℕ) → Pull → Type 0
Agrees published p = (p.version ≤ length published) × (p.rank ≡ rank_of published p.version p.coflow)
