-- Binary logarithms of quotients, in parts of 1024, by whole numbers: a plain program gets the same by these steps.
use Rattle.std.specs.Prelude.{ℕ, ◌+◌, ◌*◌, ◌/◌, ◌^◌, leb, suc, zero, if◌then◌else◌}

-- how often b can be doubled without passing c, at most k times
unfoldable pub doublings : ℕ → ℕ → ℕ → ℕ
doublings zero b c = 0
doublings (suc k) b c = if leb (2 * b) c then suc (doublings k (2 * b) c) else 0

-- The logarithm of a number from 1 to 2 in parts of 2^k, where the number is told in parts of 2^31. It is squared,
-- which doubles the logarithm; where the square is 2 or more, that gives a bit, and the square is halved. Each square
-- is rounded down to a part.
unfoldable pub fraction : ℕ → ℕ → ℕ
fraction zero m = 0
fraction (suc k) m = if leb (2 ^ 32) (m * m / 2 ^ 31) then 2 ^ k + fraction k (m * m / 2 ^ 32)
    else fraction k (m * m / 2 ^ 31)

-- the logarithm of c over b, of which so many doublings of b make the whole part
abbrev pub log_with : ℕ → ℕ → ℕ → ℕ
log_with c b whole = 1024 * whole + fraction 10 (c * 2 ^ 31 / (b * 2 ^ whole))

-- The binary logarithm of c over b in parts of 1024, where b is from 1 to c, and c is at most 2^96.
abbrev pub log_of : ℕ → ℕ → ℕ
log_of c b = log_with c b (doublings 96 b c)
