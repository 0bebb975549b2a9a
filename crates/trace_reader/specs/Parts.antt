-- What the readers of parts of a trace answer.
use Rattle.std.specs.Prelude.{◌≡◌, ℕ, ◌≤◌, true, false, Option, Some, None, Result, Ok, Err, List}
use Rattle.coflow_units.specs.declared.quantity.Quantity.{Quantity}
use Rattle.text_fields.specs.Decimals.{scaled_up}
use Rattle.text_fields.specs.Fields.{Text}
use Rattle.text_fields.specs.Lines.{Line}
use Rattle.text_fields.specs.Numbers.{capped, number}
use Rattle.trace_reader.specs.Coflow.{arrival_of, id_of, is_reducer, location_part, mappers_of, megabytes_part}
use Rattle.trace_reader.specs.declared.fault.TraceFault.{TraceFault}
use Rattle.trace_reader.specs.declared.fault.TraceFault.TheVariants as fault

-- The count is from least to most and is the value, or it is not and the fault says so.
abbrev pub IsInRange : ℕ → Quantity → ℕ → ℕ → ℕ → Result ℕ TraceFault → Type 0
IsInRange line which least most count (Ok v) = (least ≤ count) × (count ≤ most) × (v ≡ count)
IsInRange line which least most count (Err f) = (least ≤ count → count ≤ most → ⊥) × (f ≡ fault.Limit line which count)

-- The field is no reducer, or these are its location, its millionths and its whole megabytes rounded up, each capped.
abbrev pub CutsReducer : {V : Type 0} → (V → ℕ) → (V → ℕ) → (V → ℕ) → Text → Option V → Type 0
CutsReducer location millionths wholes field None = is_reducer field ≡ false
CutsReducer location millionths wholes field (Some v) = (is_reducer field ≡ true)
    × (location v ≡ capped (number (location_part field))) ×
    (millionths v ≡ capped (scaled_up 1000000 (megabytes_part field))) ×
    (wholes v ≡ capped (scaled_up 1 (megabytes_part field)))

-- The id, the arrival and the mappers of a line.
pub record IsFront {V : Type 0} (id arrival : V → ℕ) (mappers : V → List ℕ) (line : Line) (v : V) : Type 0 where
  pub id_is : id v ≡ id_of line
  pub arrival_is : arrival v ≡ arrival_of line
  pub mappers_are : mappers v ≡ mappers_of line
