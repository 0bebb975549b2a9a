-- In which order a command looks at its files: how far it came, by what the shelf tells of its places.
use Rattle.std.specs.Prelude.{◌≡◌, ℕ, List, Option, Some, None}
use Rattle.command_words.specs.Jobs.{report_name, script_name, trace_name}
use Rattle.command_words.specs.Words.{Said}
use Rattle.outside.specs.declared.shelf.Place4.TheVariants as place
use Rattle.outside.specs.Shelf.{Told, bytes_of}
use Rattle.command_files.specs.declared.status.Status.{Status}
use Rattle.command_files.specs.declared.status.Status.TheVariants.{ReadFault}
use Rattle.command_files.specs.Causes.{FilesGiveShared, FilesGiveTable, IsGiven}
use Rattle.command_files.specs.FileCauses.{NameFailedIf}
use Rattle.command_files.specs.Inputs.{IsTraceText}
use Rattle.command_files.specs.Shelves.{AreReadOut, IsAsBefore, IsAsBeforeUnless, IsReadOut}

-- at a read fault it was this file that failed: there is a name, and its count of faults rose
abbrev pub FailsAt : Option (List ℕ) → Status → Told → Told → Type 0
FailsAt name (ReadFault count) old new = NameFailedIf name old new
FailsAt name status old new = Unit {0}

-- Trace and weights in turn. Either the weights were not looked at, or the trace was read to its end and has no fault;
-- nor were they where none are named. A read fault is that of the file that was looked at last.
pub data InputInTurn (trace : List ℕ) (weights : Option (List ℕ)) (status : Status) (old new : Told) : Type 0 where
  at_trace : FailsAt (Some trace) status old new → IsAsBefore place.Weights old new →
      InputInTurn trace weights status old new
  at_weights : IsTraceText (bytes_of old trace) → IsReadOut place.Trace trace old new →
      IsAsBeforeUnless place.Weights weights old new → FailsAt weights status old new →
      InputInTurn trace weights status old new

-- All files in turn. Either the report, the printed journal, the order and the script were not looked at, or trace and
-- weights were read to their ends and give a table within its limits. Before a script is looked at, it is one that
-- clients may share live. In the place of the script no file is looked at but for a job that names one, and so it is
-- with the report. A printed journal and an order are looked at in the place of the report.
pub data FilesInTurn (said : Said) (status : Status) (old new : Told) : Type 0 where
  at_input : InputInTurn (trace_name said.job) said.weights status old new → IsAsBefore place.Report old new →
      IsAsBefore place.Script old new → FilesInTurn said status old new
  at_report : script_name said.job ≡ None → FilesGiveTable said old →
      AreReadOut (trace_name said.job) said.weights old new →
      IsAsBeforeUnless place.Report (report_name said.job) old new → IsAsBefore place.Script old new →
      FailsAt (report_name said.job) status old new → FilesInTurn said status old new
  at_script : IsGiven (script_name said.job) → FilesGiveShared said old →
      AreReadOut (trace_name said.job) said.weights old new → IsAsBefore place.Report old new →
      FailsAt (script_name said.job) status old new → FilesInTurn said status old new
