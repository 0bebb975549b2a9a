-- The rule of the port words and their counts.
use Rattle.std.specs.Prelude.{◌≡◌, ◌≢◌, ℕ, ◌+◌, ◌<◌, ◌≤◌, ◌==◌, cond, List, [], ◌∷◌, ◌⊎◌, All, AllPairs, Contains}
use Rattle.std.specs.Prelude.{length, slice_index, Option, Some, None}
use mathlib.Core.Option.{some}
use lib.ListN.{get_elem?}
use Rattle.atomic_table.specs.Table.{State}
use Rattle.coflow_units.specs.PortWord.{PortStage, word_of, FitsWord}
use Rattle.coflow_units.specs.PortWord.PortStage.{unposted, granted, drawn, reported, taken_back}
use Rattle.port_board.specs.declared.view.Grant.{Grant}
use Rattle.port_board.specs.declared.view.Report.{Report}
use Rattle.port_board.specs.declared.view.Settlement.{Settlement}
use Rattle.port_board.specs.declared.view.Step.{Step}
use Rattle.port_board.specs.declared.view.Step.TheVariants.{Rests, Loaded, Won, Counted, Offered, Ready}
use Rattle.port_board.specs.declared.view.View.{View}
use Rattle.port_board.specs.declared.view.Came.{Came}
use Rattle.port_board.specs.declared.view.Kind.{Kind}
use Rattle.port_board.specs.declared.view.Kind.TheVariants.{Note, Agent, Poster}
use Rattle.port_board.specs.Views.{blank, number_of, last_slot, report, settlement}

-- the flow and the length of a post
abbrev pub Cargo : Type 0
Cargo = ℕ × ℕ

-- a port's word and its count word, the last slot posted there, and the cargo and the stage of each of its slots
pub record PortOk (word count slot : ℕ) (cargo : ℕ → Cargo) (stage : ℕ → PortStage) : Type 0 where
  pub word_is : word ≡ word_of (stage slot) slot (cargo slot).0
  pub fits : FitsWord slot (cargo slot).0
  pub lengths : (k : ℕ) → stage k ≢ unposted → (1 ≤ (cargo k).1) × ((cargo k).1 ≤ 2199023255552)
  pub later : (k : ℕ) → slot < k → stage k ≡ unposted
  pub granted_last : (k : ℕ) → stage k ≡ granted → k ≡ slot
  pub drawn_last : (k j : ℕ) → stage k ≡ drawn j → k ≡ slot
  pub count_is : stage slot ≡ granted → count ≡ (cargo slot).1

abbrev pub grant_at : (ℕ → ℕ → Cargo) → ℕ → ℕ → Grant
grant_at cargo p k = record { port = p; slot = k; flow = (cargo p k).0; length = (cargo p k).1 }

-- what stands in the count word of the port, among n ports, where the seat has not written another number
abbrev pub count_after : ℕ → Step → ℕ → ℕ → ℕ
count_after n (Counted place m) port held = cond (n + port == place) m held
count_after n Rests port held = held
count_after n (Loaded p w) port held = held
count_after n (Won p m) port held = held
count_after n (Offered p w) port held = held
count_after n (Ready p) port held = held

abbrev pub DifferAt : Grant → Grant → Type 0
DifferAt g h = g.port ≡ h.port → g.slot ≡ h.slot → ⊥

abbrev pub ReportsDiffer : Report → Report → Type 0
ReportsDiffer r s = DifferAt r.grant s.grant

-- no grant is drawn or missed twice
abbrev pub StandOnce : List Report → List (ℕ × ℕ) → Type 0
StandOnce done missed = AllPairs ReportsDiffer done × AllPairs (λ m k. m ≢ k) missed

-- no grant stands twice in the lists of a seat
abbrev pub HoldsOnce : View → Type 0
HoldsOnce v = AllPairs DifferAt v.out × All (λ (g : Grant). All (λ (r : Report). DifferAt r.grant g) v.done) v.out ×
    StandOnce v.done v.missed

abbrev pub stage_after : Option ℕ → PortStage → Type 0
stage_after None s = s ≡ taken_back
stage_after (Some n) s = (a : ℕ) × (s ≡ reported a n)

module _ (cargo : ℕ → ℕ → Cargo) (stage : ℕ → ℕ → PortStage) where
  abbrev pub Posted : Grant → Type 0
  Posted g = (stage g.port g.slot ≢ unposted) × (g ≡ grant_at cargo g.port g.slot)

  -- drawn by this agent, and not reported
  abbrev pub Out : ℕ → Grant → Type 0
  Out agent g = (stage g.port g.slot ≡ drawn agent) × (g ≡ grant_at cargo g.port g.slot)

  -- reported by this agent
  abbrev pub Back : ℕ → Report → Type 0
  Back agent r = (stage r.grant.port r.grant.slot ≡ reported agent r.sent) ×
      (r.grant ≡ grant_at cargo r.grant.port r.grant.slot)

  -- posted, and no longer granted
  abbrev pub Gone : ℕ × ℕ → Type 0
  Gone m = (stage m.0 m.1 ≢ unposted) × (stage m.0 m.1 ≢ granted)

  abbrev pub Closed : Settlement → Type 0
  Closed s = stage_after s.sent (stage s.grant.port s.grant.slot) × (s.grant ≡ grant_at cargo s.grant.port s.grant.slot)

  abbrev pub CameOk : Came → Type 0
  CameOk c = All (Back c.number) c.done × All Gone c.missed × StandOnce c.done c.missed

  -- a granted word that an agent loaded: its slot is not past the port's last one, and all posts of the port that the
  -- agent has seen are no later
  abbrev pub LoadedOk : (ℕ → ℕ) → ℕ → ℕ → View → Type 0
  LoadedOk slot port word v = (at : ℕ) × (word ≡ word_of granted at (cargo port at).0) × (at ≤ slot port) ×
      FitsWord at (cargo port at).0 × (stage port at ≢ unposted) ×
      All (λ (g : Grant). g.port ≡ port → g.slot ≤ at) v.shown

  abbrev pub StepOk : (ℕ → ℕ) → View → Step → Type 0
  StepOk slot v Rests = Unit {0}
  StepOk slot v (Loaded port word) = LoadedOk slot port word v
  StepOk slot v (Won port count) = (g : Grant) × Contains v.out g × (g.port ≡ port) × (g.length ≡ count)
  StepOk slot v (Counted place count) = Unit {0}
  StepOk slot v (Offered port word) = Unit {0}
  StepOk slot v (Ready port) = Unit {0}

  -- the count word of each grant that the seat has out holds its length, or what the seat wrote there
  abbrev pub Counts : ℕ → List ℕ → Step → Grant → Type 0
  Counts n words st g = slice_index words (n + g.port) ≡ count_after n st g.port g.length

  pub record Knows (n : ℕ) (words : List ℕ) (slot : ℕ → ℕ) (v : View) : Type 0 where
    pub shown : All Posted v.shown
    pub out : All (Out (number_of v.kind)) v.out
    pub counts : All (Counts n words v.step) v.out
    pub done : All (Back (number_of v.kind)) v.done
    pub missed : All Gone v.missed
    pub drawn_once : AllPairs DifferAt v.out
    pub once : StandOnce v.done v.missed
    pub stepping : StepOk slot v v.step
    pub came : All CameOk v.back
    pub posts : All Posted v.posts
    pub settled : All Closed v.settled

  -- what the poster is about to do at a port where nothing is granted or drawn, or where it saw a word that it alone
  -- may change
  abbrev pub PosterStep : ℕ → List ℕ → (ℕ → ℕ) → Step → Type 0
  PosterStep n words slot Rests = Unit {0}
  PosterStep n words slot (Loaded port word) = Unit {0}
  PosterStep n words slot (Won port count) = Unit {0}
  PosterStep n words slot (Counted place count) = (q : ℕ) × (place ≡ n + q) × (q < n) ×
      (slice_index words place ≡ count) × (stage q (slot q) ≢ granted) × ((j : ℕ) → stage q (slot q) ≢ drawn j)
  PosterStep n words slot (Offered port word) = (word ≡ word_of granted (slot port) (cargo port (slot port)).0) ×
      (stage port (slot port) ≢ unposted)
  PosterStep n words slot (Ready port) = (a m : ℕ) × (stage port (slot port) ≡ reported a m)

  pub record PosterOk (n : ℕ) (words : List ℕ) (slot : ℕ → ℕ) (v : View) : Type 0 where
    pub slot_is : (p : ℕ) → slot p ≡ last_slot p v.posts
    pub each_post : (p k : ℕ) → stage p k ≢ unposted → Contains v.posts (grant_at cargo p k)
    pub taken : (p k : ℕ) → stage p k ≡ taken_back → Contains v.settled (settlement (grant_at cargo p k) None)
    pub count : (p a m : ℕ) → stage p (slot p) ≡ reported a m → slice_index words (n + p) ≡ count_after n v.step p m
    pub stepping : PosterStep n words slot v.step

abbrev pub total : (View → ℕ) → List View → ℕ
total f [] = 0
total f (v ∷ vs) = f v + total f vs

abbrev pub agent : Kind → ℕ
agent Note = 0
agent (Agent k) = 1
agent Poster = 0

abbrev pub agents : View → ℕ
agents v = agent v.kind

-- the number of a seat that came back is now the poster's
abbrev pub IsNumber : (ℕ → ℕ) → ℕ → ℕ → Came → Type 0
IsNumber who made seat c = (who c.number ≡ seat) × (0 < c.number) × (c.number ≤ made)

-- whose seat it is: `who` tells the seat of each number, and that of 0 is the poster's
abbrev pub Seated : (ℕ → ℕ) → ℕ → ℕ → ℕ → View → Kind → Type 0
Seated who made returned seat v Note = Unit {0}
Seated who made returned seat v (Agent k) = (who k ≡ seat) × (0 < k) × (k ≤ made)
Seated who made returned seat v Poster = (who 0 ≡ seat) × (v.made ≡ made) × (length v.back ≡ returned) ×
    All (IsNumber who made seat) v.back × AllPairs (λ (c d : Came). c.number ≢ d.number) v.back

-- the view of agent k has this grant out
abbrev pub HasOut : ℕ → Grant → View → Type 0
HasOut k g v = (v.kind ≡ Agent k) × Contains v.out g

-- the view of agent k has this report, or it came back with the report
abbrev pub HasDone : ℕ → Report → View → Type 0
HasDone k r v = ((v.kind ≡ Agent k) × Contains v.done r) ⊎
    ((v.kind ≡ Poster) × ((c : Came) × Contains v.back c × (c.number ≡ k) × Contains c.done r))

-- n ports: their words, and behind them their counts
pub record Kept (n : ℕ) (s : State (Unit {0}) View) : Type 0 where
  pub slot : ℕ → ℕ
  pub cargo : ℕ → ℕ → Cargo
  pub stage : ℕ → ℕ → PortStage
  pub who : ℕ → ℕ
  pub made : ℕ
  pub returned : ℕ
  pub wide : length s.words ≡ n + n
  pub each_port : (p : ℕ) → p < n →
      PortOk (slice_index s.words p) (slice_index s.words (n + p)) (slot p) (cargo p) (stage p)
  pub beyond : (p k : ℕ) → n ≤ p → stage p k ≡ unposted
  pub seated : total agents s.views + returned ≡ made
  pub each_seat : (j : ℕ) (v : View) → get_elem? s.views j ≡ some v → Knows cargo stage n s.words slot v
  pub each_sits : (j : ℕ) (v : View) → get_elem? s.views j ≡ some v → Seated who made returned j v v.kind
  pub posting : (j : ℕ) (v : View) → get_elem? s.views j ≡ some v → v.kind ≡ Poster →
      PosterOk cargo stage n s.words slot v
  pub drawn_there : (p k a : ℕ) → stage p k ≡ drawn a →
      (v : View) × (get_elem? s.views (who a) ≡ some v) × HasOut a (grant_at cargo p k) v
  pub reported_there : (p k a m : ℕ) → stage p k ≡ reported a m →
      (v : View) × (get_elem? s.views (who a) ≡ some v) × HasDone a (report (grant_at cargo p k) m) v

-- the poster of a new board
abbrev pub first_poster : View
first_poster = blank Poster
