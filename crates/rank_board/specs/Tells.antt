-- What each step makes of the view of the seat that takes it, and what it tells that seat.
use Rattle.std.specs.Prelude.{◌≡◌, ℕ, ◌/◌, ◌%◌, ◌<◌, ◌≤◌, [], ◌∷◌, ◌++◌, All, length, max, true, false}
use Rattle.atomic_table.specs.Table.{Me, Step}
use Rattle.rank_board.specs.declared.view.View.{View}
use Rattle.rank_board.specs.Words.{WasPublished}
use Rattle.rank_board.specs.Banks.{blank}

abbrev Of : Type 0
Of = Step (Unit {0})

abbrev Sat : Type 0
Sat = Me (Unit {0}) View

-- one more word of the next version is written
abbrev pub writes : Of → Sat → ℕ → Sat → Type 0
writes st m stored m' = m' ≡ (record m.0 { next = m.0.next ++ stored % 4294967296 ∷ [] }, m.1)

-- the next version becomes the newest
abbrev pub raises : Of → Sat → ℕ → Sat → Type 0
raises st m stored m' = m' ≡ (record m.0 { published = m.0.published ++ m.0.next ∷ []; next = [] }, m.1)

-- a seat loads the front
abbrev pub after_look : ℕ → View → View
after_look front v = record v { seen = front; looks = v.looks ++ (0, front) ∷ [] }

abbrev pub looks : Of → Sat → ℕ → Sat → Type 0
looks st m found m' = (m' ≡ (after_look found m.0, m.1)) × (m.0.seen ≤ found) × (found < 4294967296)

-- a seat loads a rank word of the version that it has seen: its version is that one, or greater by an even number
abbrev pub after_read : ℕ → ℕ → View → View
after_read place word v = record v { looks = v.looks ++ (place, word) ∷ [] }

abbrev pub reads : Of → Sat → ℕ → Sat → Type 0
reads st m found m' = (m' ≡ (after_read st.word found m.0, m.1)) × (m.0.seen ≤ found / 4294967296) ×
    ((found / 4294967296) % 2 ≡ m.0.seen % 2)

-- a seat that may publish loads the front: it is the newest version, and all that the seat loaded was published
abbrev pub meets : Of → Sat → ℕ → Sat → Type 0
meets st m found m' =
    (m' ≡ (after_look found m.0, m.1)) × (found ≡ length m.0.published) × (m.0.seen ≤ found)
    × All (WasPublished m.0.published) (m.0.looks ++ (0, found) ∷ [])

-- a seat, or a note, that has seen what this one has seen
abbrev pub same_view : View → View
same_view v = v

abbrev pub newcomer : View → View
newcomer v = record blank { seen = v.seen }

-- a seat hears what a note has seen
abbrev pub hears : View → View → View
hears v note = record v { seen = max v.seen note.seen }

-- the right to publish, with what was published, leaves a view and comes to another
abbrev pub without_right : View → View
without_right v = record v { publishes = false; published = []; next = [] }

abbrev pub right_of : View → View
right_of v = record blank { publishes = true; published = v.published; next = v.next }

abbrev pub takes_right : View → View → View
takes_right v w = record v { publishes = true; published = w.published; next = w.next }
