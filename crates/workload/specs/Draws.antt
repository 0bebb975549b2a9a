-- The random numbers of the generator: a linear congruential generator, of which the high bits are used.
use Rattle.std.specs.Prelude.{ℕ, zero, suc, ◌+◌, ◌*◌, ◌/◌, ◌%◌, ◌^◌}

-- A draw moves the state on to the next one, modulo 2^64.
unfoldable pub next : ℕ → ℕ
next x = (x * 6364136223846793005 + 1442695040888963407) % 2 ^ 64

-- A draw below m, in state x, is the next state without its 33 low bits, modulo m.
unfoldable pub draw : ℕ → ℕ → ℕ
draw m x = (next x / 2 ^ 33) % m

-- The state after n draws, from state x on.
abbrev pub after : ℕ → ℕ → ℕ
after zero x = x
after (suc n) x = next (after n x)
