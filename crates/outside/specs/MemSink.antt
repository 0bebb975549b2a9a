-- How many bytes a sink in memory takes in all.
use Rattle.std.specs.Prelude.{ℕ, Option, Some, None, min}

-- the room, or fewer where the sink is to fail
abbrev pub limit : ℕ → Option ℕ → ℕ
limit room None = room
limit room (Some fail_after) = min room fail_after
