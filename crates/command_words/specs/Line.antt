-- A command line, by what each word names.
use Rattle.std.specs.Prelude.{◌≡◌, ℕ, ◌==◌, Bool, List, [], ◌∷◌, Option, Some, None, codes, find, if◌then◌else◌, map}
use Rattle.std.specs.Prelude.{option_map, suc, zero}
use Rattle.std.specs.List.{after_first, before_first, list_any}
use Rattle.std.specs.Str.{bytes_eq}
use Rattle.std.specs.String.{string_bytes}
use Rattle.std.specs.declared.alloc.Global.{Global}
use Rattle.std.specs.declared.string.String.{String}

-- A text is a list of bytes.
abbrev pub Text : Type 0
Text = List ℕ

-- The bytes of each word.
abbrev pub texts : List (String Global) → List Text
texts = map (λ (s : String Global). string_bytes s)

-- The options. Each has a value.
abbrev pub options : List Text
options = codes "weights" ∷ codes "unit" ∷ codes "agents" ∷ codes "epoch" ∷ codes "run" ∷ codes "slot-ms" ∷
    codes "classes" ∷ codes "fold" ∷ codes "policy" ∷ []

abbrev pub is_option : Text → Bool
is_option name = list_any (λ o. bytes_eq o name) options

-- The names that stand by their place among the names of a line.
abbrev pub name_at : ℕ → Option Text
name_at zero = None
name_at (suc zero) = Some (codes "COMMAND")
name_at (suc (suc zero)) = Some (codes "FIRST")
name_at (suc (suc (suc zero))) = Some (codes "SECOND")
name_at (suc (suc (suc (suc k)))) = None

-- What a word is by itself.
pub data Form : Type 0 where
  -- a name, or the value of the option before it
  plain : Form
  -- `--`, which ends the options
  ends : Form
  -- `--NAME`, an option whose value is the next word
  apart : Text → Form
  -- `--NAME=VALUE`
  joined : Text → Text → Form
  -- any other word that begins with a dash and is not `-`
  wrong : Form

-- An equals sign.
abbrev pub is_equals : ℕ → Bool
is_equals b = b == 61

-- What stands behind the two dashes. A first equals sign ends the name, and its value follows.
abbrev pub option_form : Text → Form
option_form rest = if is_option (before_first is_equals rest)
    then (if list_any is_equals rest then joined (before_first is_equals rest) (after_first is_equals rest) else apart
    (before_first is_equals rest))
    else wrong

-- The form of a word by what stands behind its two dashes.
abbrev pub dashed_form : Text → Form
dashed_form [] = ends
dashed_form (b ∷ bs) = option_form (b ∷ bs)

-- A dash.
abbrev pub is_dash : ℕ → Bool
is_dash b = b == 45

-- The form of a word. A word that begins with a dash is a name only where it is `-`.
abbrev pub form_of : Text → Form
form_of [] = plain
form_of (a ∷ []) = plain
form_of (a ∷ b ∷ rest) = if is_dash a then (if is_dash b then dashed_form rest else wrong) else plain

-- An argument by its name, and the text that it is given.
abbrev pub Use : Type 0
Use = Text × Text

-- The uses with one before them, where there is such an argument and the rest is not refused.
abbrev pub with_use : Option Text → Text → Option (List Use) → Option (List Use)
with_use (Some id) value (Some uses) = Some ((id, value) ∷ uses)
with_use _ value _ = None

-- The words behind `--` are names, the first of which stands at place k.
abbrev pub named : ℕ → List Text → Option (List Use)
named k [] = Some []
named k (word ∷ words) = with_use (name_at k) word (named (suc k) words)

-- The uses from a word on that no option waits for, by its form. `rest` has those of the words behind it.
abbrev pub uses_by : Form → ℕ → Text → List Text → (Option Text → ℕ → Option (List Use)) → Option (List Use)
uses_by plain k word words rest = with_use (name_at k) word (rest None (suc k))
uses_by ends k word words rest = named k words
uses_by (apart o) k word words rest = rest (Some o) k
uses_by (joined o value) k word words rest = with_use (Some o) value (rest None k)
uses_by wrong k word words rest = None

-- The uses from the value of option o on.
abbrev pub value_by : Form → Text → ℕ → Text → (Option Text → ℕ → Option (List Use)) → Option (List Use)
value_by plain o k word rest = with_use (Some o) word (rest None k)
value_by _ o k word rest = None

-- The arguments that the words use, in order, or none where a word is refused. An option may wait for its value, and
-- the next name stands at place k.
unfoldable pub uses : Option Text → ℕ → List Text → Option (List Use)
uses None k [] = Some []
uses (Some o) k [] = None
uses None k (word ∷ words) = uses_by (form_of word) k word words (λ o j. uses o j words)
uses (Some o) k (word ∷ words) = value_by (form_of word) o k word (λ o j. uses o j words)

-- The text of the first use of an argument, or none where it is not used.
abbrev pub value_of : Text → List Use → Option Text
value_of id us = option_map (λ u. u.1) (find (λ u. bytes_eq u.0 id) us)

-- No argument is used twice.
abbrev pub IsOnce : List Use → Type 0
IsOnce [] = Unit {0}
IsOnce (u ∷ us) = (value_of u.0 us ≡ None) × IsOnce us
