-- In every world that comes from a new one the journal is legal, its commands are in range, and the opening is as it was.
use Rattle.std.proofs.Common.{◌≡◌, ℕ, Bool, true, false, List, [], ◌∷◌, ◌++◌, refl, sym, subst, Option, Some, None, append-nil}
use Rattle.std.specs.Prelude.{if◌then◌else◌, nat_lt}
use Rattle.std.proofs.lemmas.Bool.{and_parts}
use Rattle.std.proofs.lemmas.List.Elements.{All-push}
use Rattle.journal.specs.declared.command.Command.{Command}
use Rattle.journal.specs.declared.command.Command.TheVariants.{Close as CloseRun}
use Rattle.journal.specs.declared.command.Entry.{Entry}
use Rattle.journal.specs.declared.opening.Opening.{Opening}
use Rattle.journal.specs.declared.command.Reply.{Reply}
use Rattle.journal.specs.State.{Run}
use Rattle.journal.specs.Answer.{in_range, reply_of}
use Rattle.journal.specs.Journal.{entry, is_full}
use Rattle.journal.specs.Sound.{InRange}
use Rattle.journal.proofs.Legal.{legal_after}
use Rattle.world_model.specs.declared.event.Event.{Event}
use Rattle.world_model.specs.declared.event.Event.TheVariants.{Ask, Post, Draw, Send, Report, Settle, Note, Close}
use Rattle.world_model.specs.World.{WorldFacts, port_at, run_of}
use Rattle.world_model.specs.Guards.{can, in_run, is_free, is_short}
use Rattle.world_model.specs.Steps.{asks, moved, posted, settled_note, world_after}
use Rattle.world_model.specs.Lawful.{IsLegalWorld}

in_range_more : (o : Opening) (journal : List Entry) (who : ℕ) (k : Command) (r : Reply) (b : Bool) → InRange o journal → in_range o k ≡ true →
    InRange o (journal ++ (if b then [] else entry who k r ∷ []))
in_range_more o journal who k r true all ok = subst (InRange o) (sym (append-nil journal)) all
in_range_more o journal who k r false all ok = All-push (λ (e : Entry). in_range o e.command ≡ true) journal (entry who k r) all ok

asks_legal : (w : WorldFacts) (who : ℕ) (k : Command) → IsLegalWorld w → in_range w.opening k ≡ true → IsLegalWorld (asks w who k)
asks_legal w who k h ok = (
  legal_after w.opening w.journal who k h.0,
  in_range_more w.opening w.journal who k (reply_of w.opening w.journal k) (is_full (reply_of w.opening w.journal k)) h.1 ok,
)

posted_legal : (w : WorldFacts) (port : ℕ) (r : Option Run) → IsLegalWorld w → IsLegalWorld (posted w port r)
posted_legal w port None h = h
posted_legal w port (Some r) h = h

pub moved_legal : (w : WorldFacts) (e : Event) → IsLegalWorld w → can w e ≡ true → IsLegalWorld (moved w e)
moved_legal w (Ask who k) h may = asks_legal w who k h (and_parts (is_free k) (in_range w.opening k) may).1
moved_legal w (Post port) h may = posted_legal w port (run_of w) h
moved_legal w (Draw agent port) h may = h
moved_legal w (Send agent port units) h may = h
moved_legal w (Report agent port) h may = h
moved_legal w (Settle port) h may = h
moved_legal w (Note port) h may =
    asks_legal w 0 (settled_note w port) h (and_parts (nat_lt port w.opening.table.ports) (in_run (run_of w) (λ r. is_short r (port_at w port))) may).0
moved_legal w Close h may = asks_legal w 0 CloseRun h refl

posted_opening : (w : WorldFacts) (port : ℕ) (r : Option Run) → (posted w port r).opening ≡ w.opening
posted_opening w port None = refl
posted_opening w port (Some r) = refl

moved_opening : (w : WorldFacts) (e : Event) → (moved w e).opening ≡ w.opening
moved_opening w (Ask who k) = refl
moved_opening w (Post port) = posted_opening w port (run_of w)
moved_opening w (Draw agent port) = refl
moved_opening w (Send agent port units) = refl
moved_opening w (Report agent port) = refl
moved_opening w (Settle port) = refl
moved_opening w (Note port) = refl
moved_opening w Close = refl

step_opening : (w : WorldFacts) (e : Event) (b : Bool) → (if b then moved w e else w).opening ≡ w.opening
step_opening w e true = moved_opening w e
step_opening w e false = refl

-- no step changes the opening
pub opening_stays : (w : WorldFacts) (e : Event) → (world_after w e).opening ≡ w.opening
opening_stays w e = step_opening w e (can w e)
