-- What each step on a word tells the seat that takes it.
use Rattle.std.specs.Prelude.{◌≡◌, ℕ, ◌+◌, ◌<◌, ◌≤◌, [], ◌∷◌, ◌++◌, Contains, length, true, false, ◌==◌, ◌||◌, cond}
use Rattle.std.specs.Prelude.{Some, None}
use Rattle.atomic_table.specs.Table.{Me, Step as At}
use Rattle.port_board.specs.declared.view.Grant.{Grant}
use Rattle.port_board.specs.declared.view.Step.{Step}
use Rattle.port_board.specs.declared.view.Step.TheVariants.{Rests, Loaded, Won, Counted, Offered, Ready}
use Rattle.port_board.specs.declared.view.Kind.TheVariants.{Note}
use Rattle.port_board.specs.declared.view.View.{View}
use Rattle.coflow_units.specs.PortWord.{shows_granted, shows_drawn, shows_reported, slot_of, flow_of}
use Rattle.port_board.specs.Views.{grant, found_idle, looked, reported_as, posted_too, settled_as}
use Rattle.port_board.specs.Views.{last_at, is_unsettled, blank, sees, IsHeld, IsNewest, ShowsLast}
use Rattle.port_board.specs.Rule.{HoldsOnce}
use Rattle.port_board.specs.Agreement.{Agrees, NobodyHad}

abbrev Sat : Type 0
Sat = Me (Unit {0}) View

abbrev Of : Type 0
Of = At (Unit {0})

-- an agent loads the word of a port: it is granted, or not
abbrev pub loaded_now : ℕ → ℕ → View → View
loaded_now port word v = record v { step = Loaded port word; looks = v.looks ++ (port, word) ∷ [] }

abbrev pub after_load : ℕ → ℕ → View → View
after_load port word v = cond (shows_granted word) (loaded_now port word v) (found_idle port word v)

abbrev pub loads : Of → Sat → ℕ → Sat → Type 0
loads st m found m' = (m' ≡ (after_load st.word found m.0, m.1)) × HoldsOnce m'.0

-- an agent exchanges the granted word `old`
abbrev pub after_win : ℕ → ℕ → ℕ → View → View
after_win port word count v = record v {
  step = Won port count;
  looks = v.looks ++ (port, word) ∷ [];
  out = v.out ++ grant port (slot_of word) (flow_of word) count ∷ [];
}

abbrev pub after_miss : ℕ → ℕ → View → View
after_miss port word v = found_idle port word v

abbrev pub after_draw : ℕ → ℕ → ℕ → ℕ → View → View
after_draw port old count found v = cond (found == old) (after_win port found count v) (after_miss port found v)

-- where the exchange wins, the grant is the newest of the posts that the agent has seen at the port, or newer
abbrev pub draws : Of → Sat → ℕ → Sat → Type 0
draws st m found m' = (count : ℕ) × (m' ≡ (after_draw st.word st.first count found m.0, m.1)) × HoldsOnce m'.0
    × (found ≡ st.first → IsNewest (grant st.word (slot_of found) (flow_of found) count) m.0.shown)

abbrev pub won_count : Step → ℕ
won_count (Won port count) = count
won_count _ = 0

-- an agent reads the length of the grant that it drew
abbrev pub after_length : ℕ → ℕ → View → View
after_length place found v = record v { step = Rests; looks = v.looks ++ (place, found) ∷ [] }

-- after the exchange that won the grant, and the read of its length
abbrev pub drawn_now : ℕ → Grant → ℕ → View → View
drawn_now ports g word v = record v {
  step = Rests;
  looks = (v.looks ++ (g.port, word) ∷ []) ++ (ports + g.port, g.length) ∷ [];
  out = v.out ++ g ∷ [];
}

abbrev pub reads_length : Of → Sat → ℕ → Sat → Type 0
reads_length st m found m' = (m' ≡ (after_length st.word found m.0, m.1)) × (found ≡ won_count m.0.step) × (1 ≤ found) ×
    (found ≤ 2199023255552) × HoldsOnce m'.0

-- a number is written in a count word, by the agent that drew or by the poster
abbrev pub counts : Of → Sat → ℕ → Sat → Type 0
counts st m stored m' = m' ≡ (record m.0 { step = Counted st.word stored }, m.1)

abbrev pub counted : Step → ℕ
counted (Counted place count) = count
counted _ = 0

-- what the count word of a drawn grant holds: what was written there, or else the length of the grant
abbrev pub count_held : Step → ℕ → ℕ
count_held (Counted place count) length = count
count_held _ length = length

-- an agent reports the number that the count word holds
abbrev pub reports : Of → Sat → ℕ → Sat → Type 0
reports st m stored m' = (g : Grant) → Contains m.0.out g → g.port ≡ st.word → g.slot ≡ slot_of stored →
    m' ≡ (reported_as g (count_held m.0.step g.length) m.0, m.1)

-- the poster posts a grant whose length it wrote in the count word
abbrev pub posts : Of → Sat → ℕ → Sat → Type 0
posts st m stored m' = (m' ≡ (posted_too (grant st.word (slot_of stored) (flow_of stored) (counted m.0.step)) m.0, m.1))
    × (is_unsettled st.word m'.0.posts m'.0.settled ≡ true)

-- the poster posts a grant whose length the count word holds already
abbrev pub posts_again : Of → Sat → ℕ → Sat → Type 0
posts_again st m stored m' = (long : ℕ) → IsHeld st.word long m.0 →
    (m' ≡ (posted_too (grant st.word (slot_of stored) (flow_of stored) long) m.0, m.1))
    × (is_unsettled st.word m'.0.posts m'.0.settled ≡ true)

-- the poster loads the word of a port
abbrev pub poster_step : ℕ → ℕ → Step
poster_step port word = cond (shows_granted word) (Offered port word) (cond (shows_reported word) (Ready port) Rests)

abbrev pub seen_by_poster : ℕ → ℕ → View → View
seen_by_poster port word v = record v { step = poster_step port word; looks = v.looks ++ (port, word) ∷ [] }

-- an unsettled post is granted, drawn or reported, and the word shows the last post of the port; with no agent out it
-- is not drawn
abbrev pub IsPending : ℕ → ℕ → View → Type 0
IsPending port word v = is_unsettled port v.posts v.settled ≡ true →
    ((shows_granted word || (shows_drawn word || shows_reported word)) ≡ true) ×
    (shows_drawn word ≡ true → length v.back < v.made) × ShowsLast port word v.posts

abbrev pub poster_loads : Of → Sat → ℕ → Sat → Type 0
poster_loads st m found m' = (m' ≡ (seen_by_poster st.word found m.0, m.1)) × IsPending st.word found m.0 × Agrees m'.0

-- the poster exchanges the granted word `old` for 0
abbrev pub after_take : ℕ → ℕ → ℕ → View → View
after_take port old found v = cond (found == old) (looked port found (settled_as port None v))
    (seen_by_poster port found v)

-- where the exchange took the grant back, nobody had it; else the word is no longer granted
abbrev pub TakesOrNot : ℕ → ℕ → ℕ → View → Type 0
TakesOrNot port old found v = (found ≡ old → (g : Grant) → last_at port v.posts ≡ Some g → NobodyHad g v) ×
    ((found ≡ old → ⊥) → shows_granted found ≡ false)

abbrev pub takes_back : Of → Sat → ℕ → Sat → Type 0
takes_back st m found m' = (m' ≡ (after_take st.word st.first found m.0, m.1)) × IsPending st.word found m.0 ×
    TakesOrNot st.word st.first found m.0 × Agrees m'.0

abbrev pub ready_port : Step → ℕ
ready_port (Ready port) = port
ready_port _ = 0

-- the poster reads the number that was reported
abbrev pub reads_sent : Of → Sat → ℕ → Sat → Type 0
reads_sent st m found m' = (m' ≡ (looked st.word found (settled_as (ready_port m.0.step) (Some found) m.0), m.1)) ×
    Agrees m'.0

-- a look by which the poster learns what its lists say of one another
abbrev pub learns : Of → Sat → ℕ → Sat → Type 0
learns st m found m' = (m' ≡ (looked st.word found m.0, m.1)) × (length m.0.back ≤ m.0.made) × Agrees m'.0

abbrev pub note_of : View → View
note_of v = record (blank Note) { shown = v.posts }

abbrev pub hears : View → View → View
hears v note = sees note.shown v

abbrev pub spent : View
spent = blank Note
