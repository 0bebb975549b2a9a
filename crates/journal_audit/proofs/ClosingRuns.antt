-- The run that a command closes, and its slots.
use Rattle.std.proofs.Common.{◌≡◌, ℕ, ◌<◌, ◌≤◌, Bool, false, arith, List, [], ◌++◌, length, map, replicate, refl, sym, ap, ◌∙◌, true≢false}
use Rattle.std.specs.Prelude.{None, Option, Some, if◌then◌else◌, option_to_list}
use Rattle.std.specs.List.{flat_map}
use Rattle.std.proofs.lemmas.Bool.{lt-leb}
use Rattle.std.proofs.lemmas.List.{map-append}
use Rattle.std.proofs.lemmas.List.Concat.{flat_map-append}
use Rattle.journal.specs.declared.command.Command.{Command}
use Rattle.journal.specs.declared.command.Command.TheVariants.{Close, Short}
use Rattle.journal.specs.declared.command.Entry.{Entry}
use Rattle.journal.specs.declared.command.Reply.{Reply}
use Rattle.journal.specs.declared.command.Reply.TheVariants.{Closed, Full, NoneOpen}
use Rattle.journal.specs.declared.opening.Opening.{Opening}
use Rattle.journal.specs.State.{Run, State}
use Rattle.journal.specs.Answer.{answer, on_run, reply_of, room}
use Rattle.journal.specs.Closed.{closed_by}
use Rattle.journal.specs.Counts.{run_line}
use Rattle.journal.specs.Entries.{TellsEntry}
use Rattle.journal.specs.Fold.{state_of}
use Rattle.journal.proofs.EntryTells.{reply_tells}
use Rattle.journal_audit.specs.Replay.{closes, closing_run, even_slots}

-- an entry within the limit has room
pub room_least : (o : Opening) (k : Command) → o.limit ≤ room o k
room_least o (Short port units) = omega arith
room_least o Close = omega arith
room_least o k = omega arith

closes_open : (run : Option Run) → closed_by (on_run run (λ r. Closed r.first) NoneOpen) run ≡ option_to_list run
closes_open None = refl
closes_open (Some r) = refl

closes_none : (o : Opening) (s : State) (k : Command) (reply : Reply) → TellsEntry o s k reply → closes k ≡ false → closed_by reply s.run ≡ []
closes_none o s k (Closed slot) tells e = absurd (true≢false (ap closes (sym tells.1) ∙ e))
closes_none o s k reply tells e = refl

-- what a command closes is what its reply closes
pub closing_is : (o : Opening) (journal : List Entry) (k : Command) → length journal < room o k →
    closed_by (reply_of o journal k) (state_of o journal).run ≡ closing_run k (state_of o journal).run
closing_is o journal Close lt =
    ap (λ (b : Bool). closed_by (if b then Full (length journal) else answer o (state_of o journal) Close) (state_of o journal).run)
    (lt-leb (room o Close) (length journal) lt)
    ∙ closes_open (state_of o journal).run
closing_is o journal k lt = closes_none o (state_of o journal) k (reply_of o journal k) (reply_tells o journal k) refl

-- the slots of further runs come behind
pub even_push : (runs more : List Run) → even_slots (runs ++ more) ≡ even_slots runs ++ even_slots more
even_push runs more =
    ap (flat_map (λ (r : ℕ × List ℕ). replicate r.0 r.1)) (map-append run_line runs more)
    ∙ flat_map-append (λ (r : ℕ × List ℕ). replicate r.0 r.1) (map run_line runs) (map run_line more)
