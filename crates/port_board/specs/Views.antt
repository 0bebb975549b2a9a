-- What contracts see of a board and of its seats, and what each call makes of the view of a seat.
use Rattle.std.specs.Prelude.{◌≡◌, ℕ, ◌+◌, ◌-◌, ◌≤◌, List, [], ◌∷◌, ◌++◌, All, Contains, length, filter, Bool, true}
use Rattle.std.specs.Prelude.{false, not, ◌==◌, ◌&&◌, ◌||◌, ◌⊎◌, cond, Option, Some, None}
use Rattle.std.specs.List.{list_any}
use Rattle.atomic_table.specs.Seated.{TableId}
use Rattle.port_board.specs.declared.view.Grant.{Grant}
use Rattle.port_board.specs.declared.view.Report.{Report}
use Rattle.port_board.specs.declared.view.Settlement.{Settlement}
use Rattle.port_board.specs.declared.view.Came.{Came}
use Rattle.port_board.specs.declared.view.Kind.{Kind}
use Rattle.port_board.specs.declared.view.Kind.TheVariants.{Note, Agent, Poster}
use Rattle.port_board.specs.declared.view.Step.TheVariants.{Rests}
use Rattle.port_board.specs.declared.view.View.{View}
use Rattle.coflow_units.specs.PortWord.{shows_granted, slot_of, flow_of}

-- a board: which table it is, and how many ports it has
pub record Board : Type 0 where
  pub id : TableId
  pub ports : ℕ

-- a seat of this table, which of its seats it is, and what it knows
pub record Sits : Type 0 where
  pub at : TableId
  pub id : ℕ
  pub view : View

abbrev pub grant : ℕ → ℕ → ℕ → ℕ → Grant
grant port slot flow length = record { port = port; slot = slot; flow = flow; length = length }

abbrev pub report : Grant → ℕ → Report
report g sent = record { grant = g; sent = sent }

abbrev pub settlement : Grant → Option ℕ → Settlement
settlement g sent = record { grant = g; sent = sent }

-- the number of an agent
abbrev pub number_of : Kind → ℕ
number_of Note = 0
number_of (Agent k) = k
number_of Poster = 0

abbrev pub IsPoster : Kind → Type 0
IsPoster kind = kind ≡ Poster

-- the grant is the one of this port and slot
abbrev pub is_of : ℕ → ℕ → Grant → Bool
is_of port slot g = (g.port == port) && (g.slot == slot)

-- the last of these posts at the port
abbrev pub last_at : ℕ → List Grant → Option Grant
last_at port [] = None
last_at port (g ∷ gs) = elim (last_at port gs) [ None ↦ cond (g.port == port) (Some g) None | Some later ↦ Some later ]

abbrev pub slot_or_none : Option Grant → ℕ
slot_or_none None = 0
slot_or_none (Some g) = g.slot

-- the slot of the poster's last post at the port, and 0 where there is none
abbrev pub last_slot : ℕ → List Grant → ℕ
last_slot port posts = slot_or_none (last_at port posts)

-- the word has the slot and the flow of the last of these posts at the port
abbrev pub ShowsLast : ℕ → ℕ → List Grant → Type 0
ShowsLast port word posts = (g : Grant) → last_at port posts ≡ Some g →
    (slot_of word ≡ g.slot) × (flow_of word ≡ g.flow)

abbrev pub is_settled : Grant → List Settlement → Bool
is_settled g settled = list_any (λ (s : Settlement). is_of g.port g.slot s.grant) settled

abbrev pub is_left : Option Grant → List Settlement → Bool
is_left None settled = false
is_left (Some g) settled = not (is_settled g settled)

-- the port has a post that is not settled
abbrev pub is_unsettled : ℕ → List Grant → List Settlement → Bool
is_unsettled port posts settled = is_left (last_at port posts) settled

-- the poster settled its last post at the port by this number
abbrev pub IsHeld : ℕ → ℕ → View → Type 0
IsHeld port n v = (g : Grant) × (last_at port v.posts ≡ Some g) × Contains v.settled (settlement g (Some n))

-- the agents made that have not come back
abbrev pub agents_out : View → ℕ
agents_out v = v.made - length v.back

-- the seat drew this post, or has missed it already
abbrev pub is_listed : View → ℕ → ℕ → Bool
is_listed v port slot =
    list_any (is_of port slot) v.out
    || (list_any (λ (r : Report). is_of port slot r.grant) v.done
    || list_any (λ (m : ℕ × ℕ). (m.0 == port) && (m.1 == slot)) v.missed)

abbrev pub missed_if : View → ℕ → Option Grant → List (ℕ × ℕ)
missed_if v port None = v.missed
missed_if v port (Some g) = cond (is_listed v port g.slot) v.missed (v.missed ++ (port, g.slot) ∷ [])

-- the missed grants, with the last post of the port that the seat has seen, unless it stands in a list already
abbrev pub missed_after : View → ℕ → List (ℕ × ℕ)
missed_after v port = missed_if v port (last_at port v.shown)

-- the last post of the port that the seat has seen, where there is one, stands in its lists as drawn or missed
abbrev pub LastIsListed : ℕ → View → Type 0
LastIsListed port v = (g : Grant) → last_at port v.shown ≡ Some g → is_listed v port g.slot ≡ true

-- no post of these at the grant's port has a later slot, and one of its slot is this grant, with its flow and its
-- length
pub record IsNewest (g : Grant) (posts : List Grant) : Type 0 where
  pub latest : All (λ (h : Grant). h.port ≡ g.port → h.slot ≤ g.slot) posts
  pub same : All (λ (h : Grant). h.port ≡ g.port → h.slot ≡ g.slot → h ≡ g) posts

-- one more look at the word of a place
abbrev pub looked : ℕ → ℕ → View → View
looked place word v = record v { looks = v.looks ++ (place, word) ∷ [] }

-- the seat looked at the port and loaded a word that is not granted
abbrev pub found_idle : ℕ → ℕ → View → View
found_idle port word v = record v { step = Rests; looks = v.looks ++ (port, word) ∷ []; missed = missed_after v port }

-- the seat loaded a granted word, and its exchange found another
abbrev pub found_other : ℕ → ℕ → ℕ → View → View
found_other port loaded found v =
    record v {
      step = Rests;
      looks = (v.looks ++ (port, loaded) ∷ []) ++ (port, found) ∷ [];
      missed = missed_after v port;
    }

-- the seat loaded the granted word, exchanged it, and read the length in the count word
abbrev pub drew : ℕ → ℕ → Grant → View → View
drew ports word g v = record v {
  step = Rests;
  looks = ((v.looks ++ (g.port, word) ∷ []) ++ (g.port, word) ∷ []) ++
      (ports + g.port, g.length) ∷ [];
  out = v.out ++ g ∷ [];
}

-- the seat reported the number for the grant
abbrev pub reported_as : Grant → ℕ → View → View
reported_as g sent v = record v {
  step = Rests;
  out = filter (λ h. not (is_of g.port g.slot h)) v.out;
  done = v.done ++ report g sent ∷ [];
}

-- the poster made one more agent
abbrev pub one_more : View → View
one_more v = record v { made = v.made + 1 }

abbrev pub blank : Kind → View
blank kind = record {
  kind = kind;
  made = 0;
  back = [];
  posts = [];
  settled = [];
  step = Rests;
  shown = [];
  out = [];
  done = [];
  missed = [];
  looks = [];
}

-- the agent that a poster makes next
abbrev pub newcomer : View → View
newcomer v = blank (Agent (v.made + 1))

-- the seat has seen these posts
abbrev pub sees : List Grant → View → View
sees posts v = record v { shown = posts }

-- the lists of a seat
abbrev pub came_of : View → Came
came_of w = record { number = number_of w.kind; done = w.done; missed = w.missed }

-- the poster has the lists of the seat
abbrev pub takes_in : View → View → View
takes_in v w = record v { back = v.back ++ came_of w ∷ [] }

-- the poster posted the grant
abbrev pub posted_too : Grant → View → View
posted_too g v = record v { step = Rests; posts = v.posts ++ g ∷ [] }

-- the settlements, with one more for this post
abbrev pub settled_if : Option Grant → Option ℕ → List Settlement → List Settlement
settled_if None sent settled = settled
settled_if (Some g) sent settled = settled ++ settlement g sent ∷ []

-- the poster settled its last post at the port
abbrev pub settled_as : ℕ → Option ℕ → View → View
settled_as port sent v = record v { step = Rests; settled = settled_if (last_at port v.posts) sent v.settled }

-- the view at the last look of a settling: the one before the call, or after a look that found the word granted, so
-- that an exchange followed
abbrev pub Tried : ℕ → View → View → Type 0
Tried port old before = (before ≡ old) ⊎ ((word : ℕ) × (shows_granted word ≡ true) × (before ≡ looked port word old))

-- a number of units that a grant may have
abbrev pub IsLength : ℕ → Type 0
IsLength n = (1 ≤ n) × (n ≤ 2199023255552)
