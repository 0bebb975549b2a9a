-- A replay goes on by one entry.
use Rattle.std.proofs.Common.{◌≡◌, ℕ, ◌+◌, ◌<◌, Bool, true, List, [], ◌∷◌, ◌++◌, length, refl, sym, ap, ◌∙◌, subst, arith}
use Rattle.std.specs.Prelude.{if◌then◌else◌}
use Rattle.std.proofs.lemmas.List.Elements.{All-push}
use Rattle.journal.specs.declared.command.Command.{Command}
use Rattle.journal.specs.declared.command.Entry.{Entry}
use Rattle.journal.specs.declared.command.Reply.{Reply}
use Rattle.journal.specs.declared.opening.Opening.{Opening}
use Rattle.journal.specs.Answer.{in_range, IsInRange, reply_of, room}
use Rattle.journal.specs.Closed.{closed_by, closed_runs, schedule_of}
use Rattle.journal.specs.Fold.{state_of}
use Rattle.journal.specs.Journal.{entry, is_version, journal_after, version_of}
use Rattle.journal.proofs.ClosedSteps.{closed_push}
use Rattle.journal.proofs.Growth.{version_append}
use Rattle.journal.proofs.Legal.{legal_snoc}
use Rattle.journal.proofs.Schedules.{schedule_length}
use Rattle.journal.proofs.WholeRuns.{schedule_by_runs}
use Rattle.master_core.proofs.StepTells.{not_full, range_told}
use Rattle.journal_audit.specs.Replay.{closing_run, even_slots, IsPlainCommand, IsReplay}
use Rattle.journal_audit.proofs.ClosingRuns.{closing_is, even_push}

-- before the first entry
pub none_anew : (o : Opening) → IsReplay o [] []
none_anew o = record {
  legal = tt;
  in_range = λ k d lt. absurd (omega arith);
  plain = λ k d lt. absurd (omega arith);
  slots_are = refl;
}

-- the slots are the schedule of the journal
pub replayed_schedule : (o : Opening) (journal : List Entry) (slots : List (List ℕ)) → IsReplay o journal slots → slots ≡ schedule_of o journal
replayed_schedule o journal slots h = h.slots_are ∙ sym (schedule_by_runs o journal h.legal h.in_range h.plain)

-- so the slots that passed are those of the schedule
pub passed : (o : Opening) (journal : List Entry) (slots : List (List ℕ)) → IsReplay o journal slots → length slots + 1 ≡ (state_of o journal).next
passed o journal slots h = ap (λ l. length l + 1) (replayed_schedule o journal slots h) ∙ schedule_length o journal h.legal h.in_range

-- the command adds one entry
pub one_entry : (o : Opening) (journal : List Entry) (who : ℕ) (k : Command) → length journal < room o k →
    journal_after o journal who k ≡ journal ++ entry who k (reply_of o journal k) ∷ []
one_entry o journal who k lt = ap (λ (b : Bool). journal ++ (if b then [] else entry who k (reply_of o journal k) ∷ [])) (not_full o journal k lt)

-- the entry of a command, and the slots of the run that it closes
pub entry_anew : (o : Opening) (journal after : List Entry) (slots more : List (List ℕ)) (who : ℕ) (k : Command) (reply : Reply) → IsReplay o journal slots →
    length journal < room o k → IsInRange o k → IsPlainCommand k → reply ≡ reply_of o journal k → after ≡ journal_after o journal who k →
    more ≡ slots ++ even_slots (closing_run k (state_of o journal).run) → IsReplay o after more
entry_anew o journal after slots more who k reply h lt range plain reply_is adds grows =
    subst (λ j. IsReplay o j more) (sym (adds ∙ one_entry o journal who k lt)) (record {
      legal = legal_snoc o journal e h.legal refl (not_full o journal k lt);
      in_range = All-push (λ (e : Entry). in_range o e.command ≡ true) journal e h.in_range (range_told o k range);
      plain = All-push (λ (e : Entry). IsPlainCommand e.command) journal e h.plain plain;
      slots_are =
          grows ∙ ap (λ l. l ++ even_slots (closing_run k (state_of o journal).run)) h.slots_are
          ∙ ap (λ l. even_slots (closed_runs o journal) ++ even_slots l) (sym (closing_is o journal k lt))
          ∙ sym (even_push (closed_runs o journal) (closed_by (reply_of o journal k) (state_of o journal).run))
          ∙ ap even_slots (sym (closed_push o journal e));
    })
  where
    e : Entry
    e = entry who k (reply_of o journal k)

-- how many versions there are then
pub one_more : (before : List Entry) (e : Entry) (b : Bool) → is_version e.reply ≡ b → version_of (before ++ e ∷ []) ≡ version_of before + (if b then 1 else 0)
one_more before e b is = version_append before (e ∷ []) ∙ ap (λ (b : Bool). version_of before + ((if b then 1 else 0) + 0)) is ∙ omega arith
