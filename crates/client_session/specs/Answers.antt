-- The answer that a turn gives.
use Rattle.std.specs.Prelude.{ℕ, Bool, false, Result, Ok, Err}
use Rattle.journal.specs.Journal.{is_version}
use Rattle.client_session.specs.declared.receipt.Answer.{Answer}
use Rattle.client_session.specs.declared.receipt.Answer.TheVariants.{Done, Full}
use Rattle.client_session.specs.declared.receipt.Receipt.{Receipt}

-- the answer where a turn was taken
abbrev pub answer_of : Result Receipt ℕ → Answer
answer_of (Ok r) = Done r
answer_of (Err count) = Full count

-- the turn was answered by a version
abbrev pub makes_version : Result Receipt ℕ → Bool
makes_version (Ok r) = is_version r.reply
makes_version (Err count) = false
