-- How far `live` came with its files.
use Rattle.std.proofs.Common.{◌≡◌, ℕ, List, Option, Some, None, sym, subst}
use Rattle.std.specs.Prelude.{IfSome}
use Rattle.command_words.specs.Jobs.{report_name, script_name, trace_name}
use Rattle.command_words.specs.Words.{Said}
use Rattle.outside.specs.declared.shelf.Place4.TheVariants as place
use Rattle.outside.specs.Shelf.{Told}
use Rattle.command_files.specs.declared.status.Status.{Status}
use Rattle.command_files.specs.declared.status.Status.TheVariants as status
use Rattle.command_files.specs.Causes.{FilesGiveShared, FilesGiveTable, IsGiven}
use Rattle.command_files.specs.Ends.{IsReadFault}
use Rattle.command_files.specs.FileCauses.{NameFailed, NameFailedIf}
use Rattle.command_files.specs.ScriptCauses.{IsScriptCause}
use Rattle.command_files.specs.Shelves.{AllReadOut, AreReadOut, IsAsBefore, KeepsFiles, KeepsOthers, OfBoth}
use Rattle.command_files.specs.Turns.{FailsAt, FilesInTurn, InputInTurn}
use Rattle.command_files.specs.Turns.FilesInTurn.{at_script}
use Rattle.command_files.specs.Turns.InputInTurn.{at_weights}
use Rattle.command_files.proofs.FileTurns.{input_in_turn}
use Rattle.command_files.proofs.InputTurns.{fails_if, no_read}
use Rattle.command_files.proofs.LiveCauses.{report_not_script, still_before_script}
use Rattle.command_files.proofs.ShelfFacts.{both_and, both_joined, left_unless, named_before, of_both, still_before}

module _ (old new : Option Told) (said : Said) (s : Status) where
  past_shared : IsGiven (script_name said.job) → IfSome old (FilesGiveShared said) →
      OfBoth old new (AreReadOut (trace_name said.job) said.weights) → OfBoth old new (IsAsBefore place.Report) →
      ((count : ℕ) → s ≡ status.ReadFault count → OfBoth old new (NameFailedIf (script_name said.job))) → OfBoth old new (FilesInTurn said s)
  past_shared named shared out report failed =
      both_and old new (FilesGiveShared said)
      (λ a b. FailsAt (script_name said.job) s a b × (AreReadOut (trace_name said.job) said.weights a b × IsAsBefore place.Report a b)) (FilesInTurn said s)
      (λ a b gives (f, (out, report)). at_script named gives out report f) shared
      (fails_if old new (script_name said.job) (λ a b. AreReadOut (trace_name said.job) said.weights a b × IsAsBefore place.Report a b) s
      (both_joined old new (AreReadOut (trace_name said.job) said.weights) (IsAsBefore place.Report) out report) failed)

  -- after all files no call to the shelf failed
  pub live_in_turn : IsGiven (script_name said.job) → report_name said.job ≡ None → (IsReadFault s → ⊥) →
      IfSome old (FilesGiveShared said) → OfBoth old new (AllReadOut said) → OfBoth old new (FilesInTurn said s)
  live_in_turn named none other shared out =
      past_shared named shared (of_both old new (AllReadOut said) (AreReadOut (trace_name said.job) said.weights) (λ a b (both, rest). both) out)
      (of_both old new (AllReadOut said) (IsAsBefore place.Report)
      (λ a b (both, (report, script)). left_unless place.Report (report_name said.job) a b report none) out) (λ count e. absurd (no_read s count other e))

  -- where the table has too many units the script was not looked at
  pub units_in_turn : (IsReadFault s → ⊥) → IfSome old (FilesGiveTable said) → OfBoth old new (AreReadOut (trace_name said.job) said.weights) →
      OfBoth old new (IsAsBefore place.Report) → OfBoth old new (IsAsBefore place.Script) → OfBoth old new (FilesInTurn said s)
  units_in_turn other table out report script =
      input_in_turn old new said s
      (both_and old new (FilesGiveTable said) (λ a b. FailsAt said.weights s a b × AreReadOut (trace_name said.job) said.weights a b)
      (InputInTurn (trace_name said.job) said.weights s) (λ a b g (f, (trace, weights)).
      at_weights g.gives.trace_text trace (left_unless place.Weights said.weights a b weights) f) table
      (fails_if old new said.weights (AreReadOut (trace_name said.job) said.weights) s out (λ count e. absurd (no_read s count other e))))
      report script

module _ (ids : List ℕ) (old mid new : Option Told) (said : Said) (name : List ℕ) (s : Status) where
  pub script_in_turn : (mid_count now : ℕ) → script_name said.job ≡ Some name → KeepsFiles old mid → IfSome old (FilesGiveShared said) →
      OfBoth old mid (AreReadOut (trace_name said.job) said.weights) → OfBoth old mid (IsAsBefore place.Report) → OfBoth mid new (KeepsOthers place.Script) →
      IsScriptCause ids mid_count now mid new name s → OfBoth old new (FilesInTurn said s)
  script_in_turn mid_count now is keeps shared out report others cause =
      past_shared old new said s (subst IsGiven (sym is) tt) shared (still_before_script old mid new said out others)
      (still_before old mid new place.Report place.Script report_not_script report others)
      (λ count e. failed count (subst (λ (x : Status). IsScriptCause ids mid_count now mid new name x) e cause))
    where
      failed : (count : ℕ) → IsScriptCause ids mid_count now mid new name (status.ReadFault count) → OfBoth old new (NameFailedIf (script_name said.job))
      failed count (one, rose, named) =
          subst (λ o. OfBoth old new (NameFailedIf o)) (sym is)
          (named_before old mid new (Some name) keeps (of_both mid new (NameFailed name) (NameFailedIf (Some name)) (λ a b h. h) named))
