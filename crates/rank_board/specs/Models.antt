-- What contracts see of a board, its publisher and its seats, and what a pull makes of a seat.
use Rattle.std.specs.Prelude.{ℕ, List, [], ◌∷◌, ◌++◌, cond, ◌==◌, ◌≡◌, ◌<◌}
use Rattle.atomic_table.specs.Seated.{TableId}
use Rattle.rank_board.specs.declared.pulls.Pull.{Pull}
use Rattle.rank_board.specs.Words.{word_at, rank_word}
use Rattle.rank_board.specs.Pulls.{pull_of}

-- a board: which one it is, and how many coflows it ranks
pub record BoardModel : Type 0 where
  pub table : TableId
  pub coflows : ℕ

-- the publisher: its board, and what it published: for each version from 1 on, the rank of each coflow
pub record PublisherModel : Type 0 where
  pub table : TableId
  pub published : List (List ℕ)

-- a seat: its board, which of its seats it is, the greatest version that it has seen, its pulls, and its looks
-- (the words that it loaded, each with its place)
pub record SeatModel : Type 0 where
  pub table : TableId
  pub id : ℕ
  pub seen : ℕ
  pub pulls : List Pull
  pub looks : List (ℕ × ℕ)

-- the publisher of a new board
abbrev pub first_publisher : TableId → PublisherModel
first_publisher table = record { table = table; published = [] }

-- a new seat, which has seen this version
abbrev pub new_seat : TableId → ℕ → ℕ → SeatModel
new_seat table id seen = record { table = table; id = id; seen = seen; pulls = []; looks = [] }

-- the seat loaded a word
abbrev pub looked : ℕ → ℕ → SeatModel → SeatModel
looked place word seat = record seat { looks = seat.looks ++ (place, word) ∷ [] }

-- the seat loaded the front, and has seen its version
abbrev pub saw_front : ℕ → SeatModel → SeatModel
saw_front front seat = record seat { seen = front; looks = seat.looks ++ (0, front) ∷ [] }

-- the seat loaded the coflow's word of this version; of version 0 there is none
abbrev pub saw_word : ℕ → ℕ → ℕ → SeatModel → SeatModel
saw_word version coflow word seat = cond (version == 0) seat (looked (word_at version coflow) word seat)

-- the seat keeps one more pull
abbrev pub kept : Pull → SeatModel → SeatModel
kept p seat = record seat { pulls = seat.pulls ++ p ∷ [] }

-- the seat loaded the coflow's rank in this version, and keeps the pull with its mark
abbrev pub read_rank : ℕ → ℕ → ℕ → ℕ → SeatModel → SeatModel
read_rank version coflow rank mark seat =
    kept (pull_of version coflow rank mark) (saw_word version coflow (rank_word version rank) seat)

-- the seat loaded the front and then the coflow's rank in that version
abbrev pub pulled : ℕ → ℕ → ℕ → ℕ → SeatModel → SeatModel
pulled version coflow rank mark seat = read_rank version coflow rank mark (saw_front version seat)

-- the seat loaded the coflow's word of a version, and found there some rank of the version `found`
abbrev pub FoundAnother : ℕ → ℕ → ℕ → SeatModel → SeatModel → Type 0
FoundAnother version coflow found before after =
    (rank : ℕ) × (rank < 4294967296) × (after ≡ saw_word version coflow (rank_word found rank) before)
