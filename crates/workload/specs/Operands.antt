-- What the fields behind the word of a command say.
use Rattle.std.specs.Prelude.{ℕ, ◌+◌, List, [], ◌∷◌, Option, Some, None, cond, nat_eq, option_map, unwrap_or}
use Rattle.text_fields.specs.Fields.{Text, field_at}
use Rattle.text_fields.specs.Lines.{Line, number_in_field}
use Rattle.text_fields.specs.Numbers.{number}

-- The first coflow that has the id, by number.
abbrev pub coflow_with : ℕ → List ℕ → Option ℕ
coflow_with id [] = None
coflow_with id (x ∷ ids) = cond (nat_eq id x) (Some 0) (option_map (λ k. k + 1) (coflow_with id ids))

-- The first answer, or else the second.
abbrev pub or_else : Option ℕ → Option ℕ → Option ℕ
or_else (Some x) y = Some x
or_else None y = y

-- The first coflow that has the id which the field spells. A field that spells no id is refused.
abbrev pub coflow_at : List ℕ → Text → ℕ
coflow_at ids field = unwrap_or (coflow_with (number field) ids) 0

-- The coflow behind the word.
abbrev pub coflow_in : List ℕ → Line → ℕ
coflow_in ids line = coflow_at ids (field_at line.texts 0)

-- The weight behind the coflow.
abbrev pub weight_in : Line → ℕ
weight_in line = number_in_field 1 line
