-- How far a command came with its files.
use Rattle.std.proofs.Common.{◌≡◌, ℕ, List, Option, Some, None, refl, sym, subst, ◌∙◌}
use Rattle.std.specs.Prelude.{IfSome}
use Rattle.command_words.specs.Jobs.{Job, report_name, script_name, trace_name}
use Rattle.command_words.specs.Jobs.Job.{audit_job, check_job, classes_job, compare_job, live_job, make_job, online_job, plan_job, record_job, replay_job, serve_job}
use Rattle.command_words.specs.Words.{Said}
use Rattle.outside.specs.declared.shelf.Place4.TheVariants as place
use Rattle.outside.specs.Shelf.{Told}
use Rattle.command_files.specs.declared.status.Status.{Status}
use Rattle.command_files.specs.declared.status.Status.TheVariants as status
use Rattle.command_files.specs.Causes.{FilesGiveTable}
use Rattle.command_files.specs.Ends.{IsReadFault}
use Rattle.command_files.specs.FileCauses.{NameFailed, NameFailedIf}
use Rattle.command_files.specs.ReportCauses.{IsReportCause}
use Rattle.command_files.specs.Shelves.{AllReadOut, AreReadOut, IsAsBefore, IsAsBeforeUnless, KeepsFiles, KeepsOthers, OfBoth}
use Rattle.command_files.specs.Turns.{FailsAt, FilesInTurn, InputInTurn}
use Rattle.command_files.specs.Turns.FilesInTurn.{at_input, at_report}
use Rattle.command_files.specs.Turns.InputInTurn.{at_trace}
use Rattle.command_files.proofs.CauseFacts.{script_not_report, still_both_out}
use Rattle.command_files.proofs.ShelfFacts.{both_and, both_joined, both_same, left_unless, named_before, of_both, still_before}
use Rattle.command_files.proofs.InputTurns.{fails_if, no_read}

pub input_in_turn : (old new : Option Told) (said : Said) (s : Status) → OfBoth old new (InputInTurn (trace_name said.job) said.weights s) →
    OfBoth old new (IsAsBefore place.Report) → OfBoth old new (IsAsBefore place.Script) →
    OfBoth old new (FilesInTurn said s)
input_in_turn old new said s input report script =
    of_both old new (λ a b. InputInTurn (trace_name said.job) said.weights s a b × (IsAsBefore place.Report a b × IsAsBefore place.Script a b)) (FilesInTurn said s)
    (λ a b (i, (r, t)). at_input i r t)
    (both_joined old new (InputInTurn (trace_name said.job) said.weights s) (λ a b. IsAsBefore place.Report a b × IsAsBefore place.Script a b) input
    (both_joined old new (IsAsBefore place.Report) (IsAsBefore place.Script) report script))

-- how the places are left where trace and weights were read to their ends
abbrev IsLeft : Said → Told → Told → Type 0
IsLeft said a b =
    AreReadOut (trace_name said.job) said.weights a b × (IsAsBeforeUnless place.Report (report_name said.job) a b × IsAsBefore place.Script a b)

past_input : (old new : Option Told) (said : Said) (s : Status) → script_name said.job ≡ None → IfSome old (FilesGiveTable said) → OfBoth old new (IsLeft said) →
    ((count : ℕ) → s ≡ status.ReadFault count → OfBoth old new (NameFailedIf (report_name said.job))) → OfBoth old new (FilesInTurn said s)
past_input old new said s none table left failed =
    both_and old new (FilesGiveTable said) (λ a b. FailsAt (report_name said.job) s a b × IsLeft said a b) (FilesInTurn said s)
    (λ a b gives (f, (out, (report, script))). at_report none gives out report script f) table (fails_if old new (report_name said.job) (IsLeft said) s left failed)

-- after all files of a job without a script no call to the shelf failed
pub done_in_turn : (old new : Option Told) (said : Said) (s : Status) → script_name said.job ≡ None → (IsReadFault s → ⊥) → IfSome old (FilesGiveTable said) →
    OfBoth old new (AllReadOut said) → OfBoth old new (FilesInTurn said s)
done_in_turn old new said s none other table out =
    past_input old new said s none table (of_both old new (AllReadOut said) (IsLeft said) left out) (λ count e. absurd (no_read s count other e))
  where
    left : (a b : Told) → AllReadOut said a b → IsLeft said a b
    left a b (both, (report, script)) = (both, (left_unless place.Report (report_name said.job) a b report, left_unless place.Script (script_name said.job) a b script none))

-- a job that reads a report reads no script
pub report_alone : (k : Job) (name : List ℕ) → report_name k ≡ Some name → script_name k ≡ None
report_alone (plan_job trace) name is = refl
report_alone (check_job trace report) name is = refl
report_alone (make_job seed) name is = refl
report_alone (compare_job trace) name is = refl
report_alone (classes_job trace) name is = refl
report_alone (audit_job trace journal) name is = refl
report_alone (online_job trace) name is = refl
report_alone (live_job trace script) name is = cc
report_alone (serve_job trace order) name is = refl
report_alone (replay_job trace) name is = refl
report_alone (record_job trace policy) name is = refl

-- a file that is read in the place of the report after trace and weights
pub other_in_turn : (old mid new : Option Told) (said : Said) (name : List ℕ) (s : Status) → report_name said.job ≡ Some name → KeepsFiles old mid →
    IfSome old (FilesGiveTable said) → OfBoth old mid (AreReadOut (trace_name said.job) said.weights) → OfBoth old mid (IsAsBefore place.Script) →
    OfBoth mid new (KeepsOthers place.Report) → ((count : ℕ) → s ≡ status.ReadFault count → OfBoth mid new (NameFailed name)) → OfBoth old new (FilesInTurn said s)
other_in_turn old mid new said name s is keeps table out script others failed =
    past_input old new said s (report_alone said.job name is) table left
    (λ count e. subst (λ o. OfBoth old new (NameFailedIf o)) (sym is)
    (named_before old mid new (Some name) keeps (of_both mid new (NameFailed name) (NameFailedIf (Some name)) (λ a b h. h) (failed count e))))
  where
    named : report_name said.job ≡ None → ⊥
    named none = let clash : Some name ≡ None = sym is ∙ none in cc

    left : OfBoth old new (IsLeft said)
    left =
        of_both old new (λ a b. AreReadOut (trace_name said.job) said.weights a b × IsAsBefore place.Script a b) (IsLeft said)
        (λ a b (both, untouched). (both, (λ none. absurd (named none), untouched)))
        (both_joined old new (AreReadOut (trace_name said.job) said.weights) (IsAsBefore place.Script) (still_both_out old mid new said out others)
        (still_before old mid new place.Script place.Report script_not_report script others))

module _ (IsBad : List ℕ → ℕ → Type 0) (old mid new : Option Told) (said : Said) (name : List ℕ) (s : Status) where
  pub report_in_turn : (mid_count now : ℕ) → report_name said.job ≡ Some name → KeepsFiles old mid → IfSome old (FilesGiveTable said) →
      OfBoth old mid (AreReadOut (trace_name said.job) said.weights) → OfBoth old mid (IsAsBefore place.Script) → OfBoth mid new (KeepsOthers place.Report) →
      IsReportCause IsBad mid_count now mid new name s →
      OfBoth old new (FilesInTurn said s)
  report_in_turn mid_count now is keeps table out script others cause =
      other_in_turn old mid new said name s is keeps table out script others
      (λ count e. failed count (subst (λ (x : Status). IsReportCause IsBad mid_count now mid new name x) e cause))
    where
      failed : (count : ℕ) → IsReportCause IsBad mid_count now mid new name (status.ReadFault count) → OfBoth mid new (NameFailed name)
      failed count (one, rose, named) = named

-- where nothing is looked at
pub untouched_in_turn : (told : Option Told) (said : Said) (s : Status) → (IsReadFault s → ⊥) → OfBoth told told (FilesInTurn said s)
untouched_in_turn told said s other =
    of_both told told (λ a b. FailsAt (Some (trace_name said.job)) s a b × (a ≡ b)) (FilesInTurn said s) (λ a b (f, same). of f same)
    (fails_if told told (Some (trace_name said.job)) (λ a b. a ≡ b) s (both_same told (λ a b. a ≡ b) (λ t. refl)) (λ count e. absurd (no_read s count other e)))
  where
    of : {a b : Told} → FailsAt (Some (trace_name said.job)) s a b → a ≡ b → FilesInTurn said s a b
    of {a = a} {b = b} f same =
        let weights : IsAsBefore place.Weights a b = subst (λ (t : Told). IsAsBefore place.Weights a t) same (refl, refl) in
        let report : IsAsBefore place.Report a b = subst (λ (t : Told). IsAsBefore place.Report a t) same (refl, refl) in
        let script : IsAsBefore place.Script a b = subst (λ (t : Told). IsAsBefore place.Script a t) same (refl, refl) in
        at_input (at_trace f weights) report script
