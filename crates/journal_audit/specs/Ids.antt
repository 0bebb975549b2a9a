-- Ids that are looked up.
use Rattle.std.specs.Prelude.{◌≡◌, ℕ, ◌==◌, List, Option, position}

-- the answers of a lookup by ids are the coflows that have them, by number
abbrev pub Finds : List ℕ → (ℕ → Option ℕ) → Type 0
Finds ids find = (id : ℕ) → find id ≡ position (λ x. x == id) ids
