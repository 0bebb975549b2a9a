-- The openings of the driver, one after the other.
use Rattle.std.specs.Prelude.{◌≡◌, ℕ, List, All, flat_map}
use Rattle.journal.specs.declared.command.Entry.{Entry}
use Rattle.live_model.specs.Deeds.{entries_by}
use Rattle.live_model.specs.Rounds.{FitsAnswer, Spell, spell_entries}

-- The driver's entries in the journal are these openings of runs of at most so many slots, each with its closing where a
-- run was opened, and nothing else.
pub record AreOpenings (most : ℕ) (journal : List Entry) (spells : List Spell) : Type 0 where
  pub entries : entries_by journal 0 ≡ flat_map (spell_entries most) spells
  pub answers : All (λ s. FitsAnswer s.answer s.closed) spells
