-- What one line comes to.
use Rattle.std.specs.Prelude.{◌≡◌, ℕ, ◌+◌, ◌∷◌, [], length, option_to_list, Option, Some, None, Result, Ok, Err}
use Rattle.journal.specs.declared.opening.Opening.{Opening}
use Rattle.journal.specs.Answer.{pulled}
use Rattle.workload.specs.declared.script.ScriptLine.{ScriptLine}
use Rattle.client_session.specs.declared.receipt.Answer.{Answer}
use Rattle.client_session.specs.declared.receipt.Answer.TheVariants.{Done, Full, Spent}
use Rattle.client_session.specs.declared.receipt.Receipt.{Receipt}
use Rattle.client_session.specs.Models.{SessionModel}
use Rattle.live_rounds.specs.declared.answer.PullDone.{PullDone}
use Rattle.live_rounds.specs.declared.answer.TurnStop.{TurnStop}
use Rattle.live_rounds.specs.declared.answer.TurnStop.TheVariants as stop
use Rattle.live_rounds.specs.Acts.{act, entries_at, HasActed, Outcome, pulls_in, rank_in}
use Rattle.live_rounds.specs.Stops.{IsStoppedAt}

-- what the pull of a line was told
abbrev pub pull_told : ScriptLine → ℕ → ℕ → ℕ → PullDone
pull_told line coflow version rank =
    record { client = line.client; line = line.line; coflow = coflow; version = version; rank = rank }

-- what a turn that is no pull comes to
abbrev pub without_pull : Answer → Result (Option PullDone) TurnStop
without_pull (Done r) = Ok None
without_pull (Full entries) = Err (stop.Full entries)
without_pull Spent = Err stop.Spent

-- the receipt tells the newest version, and a rank in it or that there is none
abbrev pub TellsVersion : Answer → Type 0
TellsVersion a = (r : Receipt) → a ≡ Done r → r.reply ≡ pulled r.version (rank_in r.reply)

-- what a turn that is a pull comes to
abbrev pub with_pull : ScriptLine → ℕ → Answer → Result (Option PullDone) TurnStop
with_pull line coflow (Done r) = Ok (Some (pull_told line coflow r.version (rank_in r.reply)))
with_pull line coflow (Full entries) = Err (stop.Full entries)
with_pull line coflow Spent = Err stop.Spent

-- the line was carried out, and what it was told where it is a pull; or the client stopped at it
abbrev pub ComesTo :
    Opening → ScriptLine → SessionModel → SessionModel → Result (Option PullDone) TurnStop → Type 0
ComesTo o line old new (Ok pull) =
    (x : Outcome) × HasActed old new (act line x ∷ []) × (option_to_list pull ≡ pulls_in (act line x ∷ []))
    × (new.left + length (entries_at x) ≡ old.left)
ComesTo o line old new (Err stop) = HasActed old new [] × IsStoppedAt o old new 0 stop
