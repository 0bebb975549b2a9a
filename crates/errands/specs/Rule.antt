-- The rule of a tray: how its word, its slot and the views of its ends fit what was given.
use Rattle.std.specs.Prelude.{◌≡◌, ℕ, [], ◌∷◌, Option, Some, None}
use mathlib.Core.Option as maybe
use mathlib.Core.Option.{none, some}
use lib.ListN.{get_elem?}
use Rattle.atomic_table.specs.Table.{State}
use Rattle.errands.specs.declared.view.Stage.{Stage}
use Rattle.errands.specs.declared.view.Stage.TheVariants.{Free, Busy, Over}
use Rattle.errands.specs.declared.view.Role.{Role}
use Rattle.errands.specs.declared.view.Role.TheVariants.{Giver, Helper}
use Rattle.errands.specs.declared.view.View.{View}

-- where the value is
pub data Phase (T : Type 0) : Type 0 where
  -- the giver may give
  rests : Phase T
  -- this lies there
  lies : T → Phase T
  -- a helper has taken this
  taken : T → Phase T
  -- this was given, and that is answered
  back : T → T → Phase T
  -- nothing is given any more
  ended : Phase T

module _ {T : Type 0} where
  abbrev pub word_of : Phase T → ℕ
  word_of rests = 0
  word_of (lies x) = 1
  word_of (taken x) = 2
  word_of (back x y) = 3
  word_of ended = 4

  abbrev pub home_of : Phase T → maybe.Option (Option T)
  home_of rests = none
  home_of (lies x) = some (Some x)
  home_of (taken x) = none
  home_of (back x y) = some (Some y)
  home_of ended = some None

  -- this was given and has not come back to the giver
  abbrev pub IsOut : T → Phase T → Type 0
  IsOut x rests = ⊥
  IsOut x (lies z) = z ≡ x
  IsOut x (taken z) = z ≡ x
  IsOut x (back z y) = z ≡ x
  IsOut x ended = ⊥

  module _ {K : Type 0} (fits : K → T → Type 0) (done : K → T → T → Type 0) (about : K) where
    abbrev pub Sound : Phase T → Type 0
    Sound rests = Unit {0}
    Sound (lies x) = fits about x
    Sound (taken x) = fits about x
    Sound (back x y) = done about x y
    Sound ended = Unit {0}

  -- what the giver knows
  abbrev pub GiverAt : Phase T → Stage T → Type 0
  GiverAt phase Free = phase ≡ rests
  GiverAt phase (Busy x) = IsOut x phase
  GiverAt phase Over = phase ≡ ended

  -- what a helper knows, which is at this place
  abbrev pub HelperAt : Phase T → ℕ → ℕ → Stage T → Type 0
  HelperAt phase helper seat Free = Unit {0}
  HelperAt phase helper seat (Busy x) = (helper ≡ seat) × (phase ≡ taken x)
  HelperAt phase helper seat Over = ⊥

  abbrev pub Sits : Phase T → ℕ → ℕ → ℕ → Stage T → Role → Type 0
  Sits phase giver helper seat st Giver = (giver ≡ seat) × GiverAt phase st
  Sits phase giver helper seat st Helper = HelperAt phase helper seat st

module _ {T K : Type 0} (fits : K → T → Type 0) (done : K → T → T → Type 0) (about : K) where
  pub record Kept (s : State (Option T) (View T K)) : Type 0 where
    pub phase : Phase T
    pub giver : ℕ
    pub helper : ℕ
    pub word : s.words ≡ word_of phase ∷ []
    pub home : s.homes ≡ home_of phase ∷ []
    pub sound : Sound fits done about phase
    pub each : (j : ℕ) (v : View T K) → get_elem? s.views j ≡ some v →
        Sits phase giver helper j v.stage v.role × (v.about ≡ about)

-- the first view
abbrev pub first_view : {T K : Type 0} → K → View T K
first_view about = record { role = Giver; stage = Over; about = about }
