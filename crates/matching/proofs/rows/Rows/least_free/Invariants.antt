-- to no free port of the words so far is anything owed
use Rattle.std.proofs.Common.{◌≡◌, ◌*◌, ◌<◌, ℕ}
use Rattle.matching.specs.Rows.{bit_of, owes_at}
use Rattle.matching.proofs.rows.Rows.least_free.Given as goal

abbrev pub invariant-loop-word : goal.invariant-loop-word
invariant-loop-word l = (e : ℕ) → e < 64 * l.word → owes_at l.self l.row e ≡ 1 → bit_of l.free 0 e ≡ 0
