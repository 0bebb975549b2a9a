-- What the readers of the lines of an online run answer.
use Rattle.std.specs.Prelude.{◌≡◌, ℕ, ◌<◌, ◌≤◌, ◌^◌, ◌++◌, List, Option, Some, None}
use Rattle.coflow_units.specs.declared.fabric.Port.{Port}
use Rattle.report_text.specs.Readers.{Stops}
use Rattle.coflow_units.specs.Text.{spaced}
use Rattle.online_text.specs.declared.value.DoneLine.{DoneLine}
use Rattle.online_text.specs.declared.value.OnlinePlace.{OnlinePlace}
use Rattle.online_text.specs.declared.value.ReleaseLine.{ReleaseLine}
use Rattle.online_text.specs.Online.{IsSmallCharge, IsSmallDone, IsSmallRelease}
use Rattle.online_text.specs.Text.{charge_words, done_line, order_line, release_line, time_line}

-- the bytes are a space and this number; or they are not a space and a number of at most `most`
abbrev pub IsNumberOf : ℕ → List ℕ → Option ℕ → Type 0
IsNumberOf most bytes (Some n) = (n ≤ most) × (bytes ≡ spaced n)
IsNumberOf most bytes None = (n : ℕ) → n ≤ most → bytes ≡ spaced n → ⊥

-- the line begins with the word and the number k, and this is what follows; or it does not begin so
abbrev pub IsNumberedThen : {V : Type 0} → (V → List ℕ) → List ℕ → ℕ → List ℕ → Option V → Type 0
IsNumberedThen view word k line (Some v) = (line ≡ word ++ (spaced k ++ view v)) × Stops (view v)
IsNumberedThen view word k line None = (rest : List ℕ) → Stops rest → line ≡ word ++ (spaced k ++ rest) → ⊥

-- the bytes begin with what a line says of a place, and these are the place and what follows; or they do not begin so
abbrev pub IsChargeThen : {V : Type 0} → (V → OnlinePlace × List ℕ) → List ℕ → Option V → Type 0
IsChargeThen view bytes (Some v) = IsSmallCharge (view v).0.id (view v).0.port (view v).0.y ×
    (bytes ≡ charge_words (view v).0.id (view v).0.port (view v).0.y ++ (view v).1) × Stops (view v).1
IsChargeThen view bytes None = (id : ℕ) (port : Port) (y : ℕ) (rest : List ℕ) → IsSmallCharge id port y →
    Stops rest → bytes ≡ charge_words id port y ++ rest → ⊥

-- the line is that of a publishing at this time; or it is that of none
abbrev pub IsTimeOf : List ℕ → Option ℕ → Type 0
IsTimeOf line (Some time) = (time < 2 ^ 64) × (line ≡ time_line time)
IsTimeOf line None = (time : ℕ) → time < 2 ^ 64 → line ≡ time_line time → ⊥

-- the line is that of place k of an order, and this is the place; or it is not
abbrev pub IsPlaceOf : ℕ → List ℕ → Option OnlinePlace → Type 0
IsPlaceOf k line (Some p) = IsSmallCharge p.id p.port p.y × (line ≡ order_line k p)
IsPlaceOf k line None = (p : OnlinePlace) → IsSmallCharge p.id p.port p.y → line ≡ order_line k p → ⊥

-- the line is that of this completion; or it is that of none
abbrev pub IsDoneOf : List ℕ → Option DoneLine → Type 0
IsDoneOf line (Some d) = IsSmallDone d × (line ≡ done_line d)
IsDoneOf line None = (d : DoneLine) → IsSmallDone d → line ≡ done_line d → ⊥

-- the line is that of place k of a released certificate, and this is the place; or it is not
abbrev pub IsReleaseOf : ℕ → List ℕ → Option ReleaseLine → Type 0
IsReleaseOf k line (Some r) = IsSmallRelease r × (line ≡ release_line k r)
IsReleaseOf k line None = (r : ReleaseLine) → IsSmallRelease r → line ≡ release_line k r → ⊥
