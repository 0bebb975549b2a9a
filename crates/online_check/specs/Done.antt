-- The lines of completions: one for each coflow, by number.
use Rattle.std.specs.Prelude.{◌≡◌, ◌≢◌, ℕ, ◌+◌, ◌-◌, ◌<◌, ◌≤◌, ◌⊎◌, List, length, map, slice_index}
use Rattle.online_text.specs.declared.value.DoneLine.{DoneLine}

-- the ids of the lines
abbrev pub ids_done : List DoneLine → List ℕ
ids_done lines = map (λ (d : DoneLine). d.id) lines

-- the slots that the lines state
abbrev pub slots_done : List DoneLine → List ℕ
slots_done lines = map (λ (d : DoneLine). d.slot) lines

-- there is such a line, counted from 0, there is a coflow of this number, and the line has its id
pub record IsListed (ids stated : List ℕ) (k : ℕ) : Type 0 where
  pub coflow : k < length ids
  pub line : k < length stated
  pub id_is : slice_index stated k ≡ slice_index ids k

-- the line, counted from 0, has another id than the coflow of this number; or it is missing; or it is one too many
abbrev pub IsUnlisted : List ℕ → List ℕ → ℕ → Type 0
IsUnlisted ids stated k =
    ((k < length ids) × (k < length stated) × (slice_index stated k ≢ slice_index ids k))
    ⊎ ((k < length ids) × (length stated ≤ k))
    ⊎ ((length ids ≤ k) × (k < length stated))

-- the line, counted from 1, is the first that is not right
pub record IsFirstUnlisted (ids stated : List ℕ) (index : ℕ) : Type 0 where
  pub counted : 1 ≤ index
  pub wrong : IsUnlisted ids stated (index - 1)
  pub before : (k : ℕ) → k + 1 < index → IsListed ids stated k

-- the slot that the coflow's line states is not the real one, and those of all coflows with lesser numbers are
pub record IsFirstWrongEnd (stated : List ℕ) (real : ℕ → ℕ) (coflow said is : ℕ) : Type 0 where
  pub line : coflow < length stated
  pub says : slice_index stated coflow ≡ said
  pub should : real coflow ≡ is
  pub differ : said ≢ is
  pub least : (c : ℕ) → c < coflow → slice_index stated c ≡ real c
