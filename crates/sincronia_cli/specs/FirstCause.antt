-- What the files of a command call for.
use Rattle.std.specs.Prelude.{◌≡◌, List}
use Rattle.command_words.specs.Jobs.{Job}
use Rattle.command_words.specs.Words.{Said}
use Rattle.outside.specs.Shelf.{Told}
use Rattle.rankers.specs.Meaning.{Meaning}
use Rattle.command_files.specs.declared.status.Status.{Status}
use Rattle.command_files.specs.declared.status.Status.TheVariants.{BadOrder, BadReport, BadScript, BadTrace, BadWeights, Limit, NoMemory, Ok, ReadFault, WireFault, WriteFault}
use Rattle.command_files.specs.Causes.{FilesBadOrder, FilesBadScript, FilesTraceFault, FilesWeightsFault}
use Rattle.command_files.specs.JobCauses.{FilesReportFault}
use Rattle.sincronia_cli.specs.Complete.{EndsWell}
use Rattle.command_files.specs.GoodFiles.{HasGoodFiles}
use Rattle.command_jobs.specs.Publishing.{CommandLimit, PublishesFew}
use Rattle.command_files.specs.OrderCauses.{IsOrderForm}
use Rattle.command_files.specs.TraceCauses.{IsTraceForm}
use Rattle.command_files.specs.WeightsCauses.{IsWeightsForm}

-- The status says the first thing that is wrong with the files of a command, or is Ok where they are good. Of a file
-- nothing is wrong where an online run, or the replay of a ranker of the bench, would publish too many orders; this comes
-- last.
abbrev pub IsFirstCause : List Meaning → Said → Told → Status → Type 0
IsFirstCause bench said t (BadTrace fault) = IsTraceForm fault × FilesTraceFault said fault t
IsFirstCause bench said t (BadWeights fault) = IsWeightsForm fault × FilesWeightsFault said fault t
IsFirstCause bench said t (Limit which count) = CommandLimit bench said which count t
IsFirstCause bench said t (BadReport line) = FilesReportFault said line t
IsFirstCause bench said t (BadScript line field) = FilesBadScript said line field t
IsFirstCause bench said t (BadOrder fault) = IsOrderForm fault × FilesBadOrder said fault t
IsFirstCause bench said t Ok = HasGoodFiles said.job said t × PublishesFew bench said.job said t
IsFirstCause bench said t status = ⊥

-- the status of a command whose files call for this one
abbrev pub EndsBy : Job → Status → Status → Type 0
EndsBy job Ok status = EndsWell job status
EndsBy job cause status = status ≡ cause

-- a call to the shelf or the sink failed, a wire did not accept a unit, or no memory was to be had
abbrev pub IsInterrupted : Status → Type 0
IsInterrupted (ReadFault count) = Unit {0}
IsInterrupted (WriteFault count) = Unit {0}
IsInterrupted (WireFault port count) = Unit {0}
IsInterrupted NoMemory = Unit {0}
IsInterrupted status = ⊥
