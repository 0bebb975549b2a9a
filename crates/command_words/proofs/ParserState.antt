-- Where the parser stands between two words, and what it makes of the words from there.
use Rattle.std.proofs.Common.{◌≡◌, ℕ, List, [], Option, Some, None, false, true, refl, ap₂}
use Rattle.std.specs.Prelude.{drop, fold, is_some}
use Rattle.clap.specs.Words.{Kinds, Row, Rule, Shape, Text, built, fault_of}
use Rattle.clap.specs.Kinds.{or_else}
use Rattle.clap.specs.Walk.{Held, Walk, finished, idle, nothing_held, option, settled, walk, walked}
use Rattle.clap.specs.Faults.{check_fault, defaults_fault, entered_fault, level_fault, settle_fault, walk_fault}
use Rattle.clap.specs.Simple.{entered}
use Rattle.command_words.specs.Parser.{app}

abbrev pub shape : Shape
shape = (built app).top

abbrev pub rules : List Rule
rules = shape.rules

abbrev pub held : List Row → Option (Text × List Text) → Held
held rows pending = record { rows = rows; pending = pending; skip = 0 }

-- No option waits for its value.
abbrev pub ready : List Row → Option (Text × List Text) → ℕ → Walk
ready rows pending position = record { held = held rows pending; waiting = idle; position = position; is_trailing = false; stopped = None }

-- The option waits for its value.
abbrev pub waits : List Row → Text → ℕ → Walk
waits rows id position = record { held = held rows (Some (id, [])); waiting = option id; position = position; is_trailing = false; stopped = None }

-- Behind `--`.
abbrev pub trails : List Row → Option (Text × List Text) → ℕ → Walk
trails rows pending position = record { held = held rows pending; waiting = idle; position = position; is_trailing = true; stopped = None }

-- What is found at the end.
abbrev pub rest_rows : Walk → List Text → List Row
rest_rows w words = finished rules (fold (walked rules []) w words).held

-- The kinds of the fault, or none.
abbrev pub rest_fault : Walk → List Text → Kinds
rest_fault w words =
    let end = (fold (walked rules []) w words).held in
    or_else (walk_fault shape [] w words)
    (or_else [] (or_else (settle_fault rules false end) (or_else (defaults_fault (settled rules end).rows rules) (check_fault shape (finished rules end) false))))

no_command_below : (stop : Option (Text × List Text)) → (is_some (entered (built app) stop) ≡ false) × (entered_fault (built app) stop ≡ [])
no_command_below None = (refl, refl)
no_command_below (Some p) = (refl, refl)

pub whole_fault : (words : List Text) → fault_of app words ≡ rest_fault (ready [] None 1) (drop 1 words)
whole_fault words =
    let none = no_command_below (walk rules [] nothing_held (drop 1 words)).stopped in
    ap₂ (λ b ks. level_fault shape [] nothing_held (drop 1 words) b ks) none.0 none.1
