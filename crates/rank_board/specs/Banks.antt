-- The rule of the board's words: the front, the bank of the newest version, and the bank that is written next.
use Rattle.std.specs.Prelude.{◌≡◌, ℕ, ◌+◌, ◌-◌, ◌*◌, ◌/◌, ◌%◌, ◌<◌, ◌≤◌, ◌⊎◌, List, [], All, length, slice_index_or}
use Rattle.std.specs.Prelude.{true, false}
use mathlib.Core.Option.{some}
use lib.ListN.{get_elem?}
use Rattle.atomic_table.specs.Table.{State}
use Rattle.rank_board.specs.declared.view.View.{View}
use Rattle.rank_board.specs.Words.{word_at, coflow_at, rank_word, rank_of, WasPublished}

-- a view that knows nothing
abbrev pub blank : View
blank = record { publishes = false; published = []; next = []; seen = 0; looks = [] }

-- the first view, that of the publisher
abbrev pub publisher_view : View
publisher_view = record blank { publishes = true }

-- the word that was loaded is of the next version, which is being written
abbrev pub IsNext : List (List ℕ) → List ℕ → ℕ × ℕ → Type 0
IsNext published next look =
    (0 < look.0) × (look.1 / 4294967296 ≡ length published + 1) × (coflow_at look.0 < length next)
    × (look.1 % 4294967296 ≡ slice_index_or next (coflow_at look.0) 0)

abbrev pub WasWritten : List (List ℕ) → List ℕ → ℕ × ℕ → Type 0
WasWritten published next look = WasPublished published look ⊎ IsNext published next look

-- what the view at a place knows; one place is the writer's
pub record Knows (published : List (List ℕ)) (next : List ℕ) (writer place : ℕ) (v : View) : Type 0 where
  pub publishes : v.publishes ≡ true → (place ≡ writer) × (v.published ≡ published) × (v.next ≡ next)
  pub seen : v.seen ≤ length published
  pub looks : All (WasWritten published next) v.looks

-- `published` are the ranks of each version, and `next` those of the next version that are written so far.
-- The front is the newest version (front_is), and its bank shows its ranks (shown). The other bank has the next version
-- as far as it is written (written), and behind that the version before the newest (old).
pub record Kept (n : ℕ) (s : State (Unit {0}) View) : Type 0 where
  pub published : List (List ℕ)
  pub next : List ℕ
  pub writer : ℕ
  pub wide : length s.words ≡ 1 + 2 * n
  pub front_is : slice_index_or s.words 0 0 ≡ length published
  pub few : length published < 4294967296
  pub short : length next ≤ n
  pub small : (v c : ℕ) → rank_of published v c < 4294967296
  pub shown : (c : ℕ) → c < n →
      slice_index_or s.words (word_at (length published) c) 0 ≡
      rank_word (length published) (rank_of published (length published) c)
  pub written : (c : ℕ) → c < length next →
      (slice_index_or s.words (word_at (length published + 1) c) 0 ≡
      rank_word (length published + 1) (slice_index_or next c 0))
      × (slice_index_or next c 0 < 4294967296)
  pub old : (c : ℕ) → length next ≤ c → c < n →
      slice_index_or s.words (word_at (length published + 1) c) 0 ≡
      rank_word (length published - 1) (rank_of published (length published - 1) c)
  pub each_seat : (j : ℕ) (v : View) → get_elem? s.views j ≡ some v → Knows published next writer j v
