-- What a wire accepts. A run (slot, flow, n) stands for n units of the flow: one in the slot, one in the slot after it,
-- and so on.
use Rattle.std.specs.Prelude.{◌≡◌, ℕ, ◌==◌, if◌then◌else◌, List, [], ◌∷◌, ◌++◌, Option, Some, None}

-- the run of the first n units that were sent, where there are any
abbrev pub accepted : ℕ → ℕ → ℕ → List (ℕ × ℕ × ℕ)
accepted slot flow n = if n == 0 then [] else (slot, flow, n) ∷ []

-- n units were accepted, where the wire tells its runs
abbrev pub Accepts : Option (List (ℕ × ℕ × ℕ)) → Option (List (ℕ × ℕ × ℕ)) → ℕ → ℕ → ℕ → Type 0
Accepts None new slot flow n = new ≡ None
Accepts (Some old) new slot flow n = new ≡ Some (old ++ accepted slot flow n)
