-- The answers of a settling, told apart.
use Rattle.std.specs.Prelude.{ℕ, Bool, true, false}
use Rattle.port_board.specs.declared.answer.Settled.{Settled}
use Rattle.port_board.specs.declared.answer.Settled.TheVariants.{Sent, TakenBack, Busy}

-- the post stays unsettled
abbrev pub is_busy : Settled → Bool
is_busy (Sent n) = false
is_busy TakenBack = false
is_busy (Busy word) = true

-- the number by which the post is settled, and 0 where there is none
abbrev pub number_sent : Settled → ℕ
number_sent (Sent n) = n
number_sent TakenBack = 0
number_sent (Busy word) = 0
