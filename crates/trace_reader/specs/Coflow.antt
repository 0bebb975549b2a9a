-- The line of a coflow.
use Rattle.std.specs.Prelude.{ℕ, ◌+◌, ◌-◌, ◌*◌, ◌^◌, ◌==◌, ◌&&◌, nat_eq, nat_le, Bool, not, List, [], ◌∷◌, ◌++◌, length}
use Rattle.coflow_units.specs.declared.limits.TheConstants.{MAX_MAPPERS, MAX_MEGABYTES, MAX_REDUCERS}
use Rattle.std.specs.Prelude.{drop}
use Rattle.std.specs.List.{list_any, before_first, after_first}
use Rattle.coflow_units.specs.declared.quantity.Quantity.TheVariants as quantity
use Rattle.coflow_units.specs.declared.trace.CoflowLine.{CoflowLine}
use Rattle.coflow_units.specs.declared.trace.Reducer.{Reducer}
use Rattle.text_fields.specs.Checks.{Check}
use Rattle.text_fields.specs.Decimals.{is_decimal, scaled_up}
use Rattle.text_fields.specs.Fields.{Text, field_at}
use Rattle.text_fields.specs.Lines.{Line, number_in_field}
use Rattle.text_fields.specs.Numbers.{capped, is_number, number}
use Rattle.trace_reader.specs.Checks.{each, number_checks, values}
use Rattle.trace_reader.specs.declared.fault.TraceFault.{TraceFault}
use Rattle.trace_reader.specs.declared.fault.TraceFault.TheVariants as fault

-- A location is from 0 to the number of ports.
abbrev pub location : ℕ → ℕ → Text → Check TraceFault
location ports line field = (nat_le (number field) ports, fault.PortRange line (capped (number field)))

-- The checks of an id: its form, its range, and that no earlier line has it.
abbrev pub id_checks : List ℕ → ℕ → Text → List (Check TraceFault)
id_checks earlier line field =
    number_checks line 1 quantity.Id 0 (2 ^ 32 - 1) field
    ++ ((not (list_any (nat_eq (number field)) earlier), fault.DuplicateId line (number field)) ∷ [])

-- The checks of a mapper, which is field k of its line: its form, and its range.
abbrev pub mapper_checks : ℕ → ℕ → ℕ → Text → List (Check TraceFault)
mapper_checks ports line k field = (is_number field, fault.BadLine line k) ∷ location ports line field ∷ []

-- A colon stands between the location of a reducer and its megabytes.
abbrev pub is_colon : ℕ → Bool
is_colon b = b == 58

-- What stands before the first colon, or the whole field where there is none.
abbrev pub location_part : Text → Text
location_part field = before_first is_colon field

-- What stands behind the first colon, or nothing where there is none.
abbrev pub megabytes_part : Text → Text
megabytes_part field = after_first is_colon field

-- A reducer is a number, a colon and a decimal.
abbrev pub is_reducer : Text → Bool
is_reducer field = is_number (location_part field) && is_decimal (megabytes_part field)

-- The checks of a reducer, which is field k of its line: its form, the range of its location, and that of its
-- megabytes.
abbrev pub reducer_checks : ℕ → ℕ → ℕ → Text → List (Check TraceFault)
reducer_checks ports line k field =
    (is_reducer field, fault.BadLine line k)
    ∷ location ports line (location_part field)
    ∷ (
      nat_le (scaled_up 1000000 (megabytes_part field)) (MAX_MEGABYTES * 1000000),
      fault.Limit line quantity.Megabytes (capped (scaled_up 1 (megabytes_part field))),
    )
    ∷ []

-- What the field of a reducer says.
abbrev pub reducer_of : Text → Reducer
reducer_of field = record {
  location = number (location_part field);
  millionths = scaled_up 1000000 (megabytes_part field);
}

-- The first field of a line is the id.
abbrev pub id_of : Line → ℕ
id_of line = number_in_field 0 line

-- The second field of a line is the arrival.
abbrev pub arrival_of : Line → ℕ
arrival_of line = number_in_field 1 line

-- The third field of a line is the number of mappers.
abbrev pub mapper_count : Line → ℕ
mapper_count line = number_in_field 2 line

-- The checks of a line up to its last mapper, where the lines before it have the earlier ids.
abbrev pub front_checks : ℕ → List ℕ → Line → List (Check TraceFault)
front_checks ports earlier line =
    id_checks earlier line.number (field_at line.texts 0)
    ++ (number_checks line.number 2 quantity.Arrival 0 (2 ^ 32 - 1) (field_at line.texts 1)
    ++ (number_checks line.number 3 quantity.Mappers 1 MAX_MAPPERS (field_at line.texts 2)
    ++ each (mapper_checks ports line.number) 4 (drop 3 line.texts) (mapper_count line)))

-- The line without its first n fields.
abbrev pub without : ℕ → Line → Line
without n line = record { number = line.number; texts = drop n line.texts }

-- The line behind its last mapper.
abbrev pub behind_mappers : Line → Line
behind_mappers line = without (3 + mapper_count line) line

-- Where the fields up to the last mapper are gone, the number of reducers is the first.
abbrev pub reducer_count : Line → ℕ
reducer_count line = number_in_field 0 line

-- The checks of a line behind its last mapper, where the number of reducers is field k of the whole line: this number,
-- each reducer, and then that there is no field.
abbrev pub back_checks : ℕ → ℕ → Line → List (Check TraceFault)
back_checks ports k line =
    number_checks line.number k quantity.Reducers 0 MAX_REDUCERS (field_at line.texts 0)
    ++ (each (reducer_checks ports line.number) (k + 1) (drop 1 line.texts) (reducer_count line)
    ++ ((
      length (drop (1 + reducer_count line) line.texts) == 0,
      fault.BadLine line.number (k + 1 + reducer_count line),
    ) ∷ []))

-- The checks of a line, from left to right, where the lines before it have the earlier ids.
abbrev pub line_checks : ℕ → List ℕ → Line → List (Check TraceFault)
line_checks ports earlier line = front_checks ports earlier line ++
    back_checks ports (4 + mapper_count line) (behind_mappers line)

-- The locations of the mappers of a line.
abbrev pub mappers_of : Line → List ℕ
mappers_of line = values number (drop 3 line.texts) (mapper_count line)

-- The reducers of a line, where the fields up to the last mapper are gone.
abbrev pub reducers_of : Line → List Reducer
reducers_of line = values reducer_of (drop 1 line.texts) (reducer_count line)

-- What a line says.
abbrev pub coflow_of : Line → CoflowLine
coflow_of line = record {
  id = id_of line;
  arrival = arrival_of line;
  mappers = mappers_of line;
  reducers = reducers_of (behind_mappers line);
}
