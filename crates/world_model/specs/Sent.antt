-- The runs that agents sent. A run stands for one unit of its flow in each slot, from its first slot on.
use Rattle.std.specs.Prelude.{ℕ, ◌+◌, ◌-◌, ◌==◌, ◌&&◌, Bool, nat_le, nat_lt, min, max, if◌then◌else◌, List, [], ◌∷◌}
use Rattle.journal.specs.State.{Run}
use Rattle.world_model.specs.declared.event.SentRun.{SentRun}

-- the run's units, where it was sent at the port and begins with the slot, and else 0
abbrev pub units_at : SentRun → ℕ → ℕ → ℕ
units_at x port slot = if (x.port == port) && (x.slot == slot) then x.units else 0

-- the units that were sent at the port by runs that begin with the slot
abbrev pub sent_for : List SentRun → ℕ → ℕ → ℕ
sent_for [] port slot = 0
sent_for (x ∷ xs) port slot = units_at x port slot + sent_for xs port slot

-- the units of the flow that were sent
abbrev pub sent_of : List SentRun → ℕ → ℕ
sent_of [] f = 0
sent_of (x ∷ xs) f = (if x.flow == f then x.units else 0) + sent_of xs f

-- the run has a unit of the flow in the slot
abbrev pub sends : SentRun → ℕ → ℕ → Bool
sends x slot f = (x.flow == f) && (nat_le x.slot slot && nat_lt slot (x.slot + x.units))

-- how often the pair of the slot and the flow was sent
abbrev pub times_sent : List SentRun → ℕ → ℕ → ℕ
times_sent [] slot f = 0
times_sent (x ∷ xs) slot f = (if sends x slot f then 1 else 0) + times_sent xs slot f

-- how many slots the sent run has from this slot on and before that one
abbrev pub slots_within : SentRun → ℕ → ℕ → ℕ
slots_within x first end = min (x.slot + x.units) end - max x.slot first

-- the units of the flow that were sent in the slots of the run
abbrev pub sent_in : List SentRun → Run → ℕ → ℕ
sent_in [] r f = 0
sent_in (x ∷ xs) r f = (if x.flow == f then slots_within x r.first (r.first + r.slots) else 0) + sent_in xs r f
