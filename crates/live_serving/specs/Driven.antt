-- How the driver goes on beside a round, and after the last one.
use Rattle.std.specs.Prelude.{◌≡◌, ℕ, ◌<◌, ◌≤◌, ◌++◌, Bool, if◌then◌else◌, List, [], ◌∷◌, All, map}
use Rattle.client_session.specs.Models.{DriverModel}
use Rattle.live_model.specs.Rounds.{end_of, Spell}
use Rattle.live_rounds.specs.Drivers.{AreOpenings}

-- the opening with its closing stands behind these entries, and ends by the other position
abbrev pub StandsAfter : ℕ → ℕ → Spell → Type 0
StandsAfter low high s = (low < s.opened) × (end_of s ≤ high)

-- The driver opened runs of at most so many slots beside the round of this number, and closed them, behind all that it
-- had seen.
pub record HasOpened (most round : ℕ) (old new : DriverModel) (more : List Spell) : Type 0 where
  pub rounds_are : All (λ (s : Spell). s.round ≡ round) more
  pub openings : (spells : List Spell) → AreOpenings most old.journal spells →
      AreOpenings most new.journal (spells ++ more)
  pub stand : All (StandsAfter old.position new.position) more
  pub later : old.position ≤ new.position

-- so it did where a run of slots was asked for beside the round, and else nothing
pub record HasDriven (most round : ℕ) (asked : Bool) (old new : DriverModel) : Type 0 where
  pub more : List Spell
  pub opened : HasOpened most round old new more
  pub as_asked : map (λ (s : Spell). s.round) more ≡ (if asked then round ∷ [] else [])
