-- What an agent did at the ports of some wires.
use Rattle.std.specs.Prelude.{◌≡◌, ℕ, ◌+◌, ◌<◌, ◌≤◌, List, [], ◌∷◌, ◌++◌, length, slice_index_or, sum_by, nat_lt}
use Rattle.std.specs.Prelude.{if◌then◌else◌, true, false, ◌≢◌, ◌⊎◌, flat_map, Option, Some, None}
use Rattle.coflow_units.specs.PortWord.{shows_granted, word_of}
use Rattle.coflow_units.specs.PortWord.PortStage.{granted}
use Rattle.outside.specs.Rose.{Rose}
use Rattle.outside.specs.Wire.{Accepts}
use Rattle.port_board.specs.declared.view.Grant.{Grant}
use Rattle.port_board.specs.declared.view.Report.{Report}
use Rattle.port_board.specs.declared.view.View.{View}
use Rattle.port_agent.specs.declared.agent.Served.{Served}
use Rattle.port_board.specs.Views.{LastIsListed, IsLength, IsNewest, is_listed}

-- a place on the board and the word that was found there
abbrev pub Look : Type 0
Look = ℕ × ℕ

-- the port's word was loaded, and is not granted
abbrev pub FoundIdle : ℕ → List Look → Type 0
FoundIdle port looks = (word : ℕ) × (shows_granted word ≡ false) × (looks ≡ (port, word) ∷ [])

-- the port's word was loaded and is granted, and one exchange found another word there
abbrev pub FoundOther : ℕ → List Look → Type 0
FoundOther port looks = (loaded found : ℕ) × (shows_granted loaded ≡ true) × (found ≢ loaded) ×
    (looks ≡ (port, loaded) ∷ (port, found) ∷ [])

-- the port's word was loaded and exchanged where it grants this, and its length was read behind the words of the ports
abbrev pub FoundGrant : ℕ → ℕ → Grant → List Look → Type 0
FoundGrant ports port g looks = (word : ℕ) × (word ≡ word_of granted g.slot g.flow) ×
    (looks ≡ (port, word) ∷ (port, word) ∷ (ports + port, g.length) ∷ [])

-- the looks of one try at a port, of so many ports: nothing was drawn there, or the port's grant of this report
abbrev pub IsTry : ℕ → ℕ → Option Report → List Look → Type 0
IsTry ports port None looks = FoundIdle port looks ⊎ FoundOther port looks
IsTry ports port (Some r) looks = (r.grant.port ≡ port) × FoundGrant ports port r.grant looks

-- the seat tried once at the port, and looked nowhere else
abbrev pub TriedOnce : ℕ → ℕ → View → View → Option Report → Type 0
TriedOnce ports port v w took = (looks : List Look) × IsTry ports port took looks × (w.looks ≡ v.looks ++ looks)

-- The seat tried once at each port from `first` on, in their order, one for each of these, and looked nowhere else: its
-- looks are those that it had, and those of the tries one after the other.
pub record TriedEachOnce (ports first : ℕ) (took : List (Option Report)) (v w : View) : Type 0 where
  pub tries : List (List Look)
  pub as_many : length tries ≡ length took
  pub each : (i : ℕ) → i < length took →
      IsTry ports (first + i) (slice_index_or took i None) (slice_index_or tries i [])
  pub looks : w.looks ≡ v.looks ++ flat_map (λ looks. looks) tries

-- the lists of the seat grew by these reports, and by missed grants
pub record GoesOn (v w : View) (more : List Report) : Type 0 where
  pub out : w.out ≡ v.out
  pub shown : w.shown ≡ v.shown
  pub done : w.done ≡ v.done ++ more
  pub listed : (port slot : ℕ) → is_listed v port slot ≡ true → is_listed w port slot ≡ true

module _ {W : Type 0} (faults : W → ℕ) (runs : W → Option (List (ℕ × ℕ × ℕ))) where
  -- the wire was sent the run of this grant and accepted as much as was reported; less than the length only where its
  -- count of faults rose
  pub record SentOn (before after : W) (r : Report) : Type 0 where
    pub bound : r.sent ≤ r.grant.length
    pub run : Accepts (runs before) (runs after) r.grant.slot r.grant.flow r.sent
    pub cause : r.sent < r.grant.length → Rose (faults before) (faults after)
    pub later : faults before ≤ faults after

  -- one port and its wire: nothing was drawn, and the wire is untouched and the last post that the seat had seen is
  -- listed; or this grant was drawn, sent and reported, and the seat had seen no later one
  abbrev pub Attends : View → ℕ → W → W → Option Report → Type 0
  Attends view port before after None = (after ≡ before) × LastIsListed port view
  Attends view port before after (Some r) = (r.grant.port ≡ port) × SentOn before after r × IsNewest r.grant view.shown

  -- one try at a port, of so many: no grant was drawn, or one of this length, of which so many units were sent
  abbrev pub ServesPort : ℕ → ℕ → View → View → W → W → Option (ℕ × ℕ) → Type 0
  ServesPort ports port v w before after None =
      (after ≡ before) × LastIsListed port w × GoesOn v w [] × TriedOnce ports port v w None
  ServesPort ports port v w before after (Some x) =
      (r : Report) × (r.grant.port ≡ port) × (r.grant.length ≡ x.0) × (r.sent ≡ x.1) × IsLength x.0
      × SentOn before after r × GoesOn v w (r ∷ []) × IsNewest r.grant v.shown × TriedOnce ports port v w (Some r)

  -- the ports from `first` on, one for each wire
  pub record Attended (view : View) (first : ℕ) (before after : List W) (took : List (Option Report)) : Type 0 where
    pub as_many : length took ≡ length before
    pub wires : length after ≡ length before
    pub each : (i : ℕ) (d e : W) → i < length before →
        Attends view (first + i) (slice_index_or before i d) (slice_index_or after i e) (slice_index_or took i None)

-- the reports, in the order of the ports
abbrev pub taken : List (Option Report) → List Report
taken [] = []
taken (None ∷ os) = taken os
taken (Some r ∷ os) = r ∷ taken os

abbrev pub units_of : List Report → ℕ
units_of reports = sum_by (λ (r : Report). r.sent) reports

-- how many were not accepted whole
abbrev pub shorts_of : List Report → ℕ
shorts_of reports = sum_by (λ (r : Report). if nat_lt r.sent r.grant.length then 1 else 0) reports

-- the sums after one more grant of this length, of which so many units were sent
abbrev pub adds : ℕ → ℕ → Served → Served → Type 0
adds length sent old new = (new.drawn ≡ old.drawn + 1) × (new.sent ≡ old.sent + sent) ×
    (new.short ≡ old.short + (if nat_lt sent length then 1 else 0))

module _ {W : Type 0} (faults : W → ℕ) (runs : W → Option (List (ℕ × ℕ × ℕ))) where
  -- One round over the ports from `first` on, one for each wire, of a board with so many: what was drawn at each, by
  -- one try, and how it was counted.
  pub record IsRound (ports first : ℕ) (v w : View) (before after : List W) (served : Served) : Type 0 where
    pub took : List (Option Report)
    pub attended : Attended faults runs w first before after took
    pub tries : TriedEachOnce ports first took v w
    pub done : w.done ≡ v.done ++ taken took
    pub drawn : served.drawn ≡ length (taken took)
    pub sent : served.sent ≡ units_of (taken took)
    pub short : served.short ≡ shorts_of (taken took)
