-- Why the files of `live` give nothing, and that they are read to their ends.
use Rattle.std.proofs.Common.{◌≡◌, ◌≢◌, ℕ, ◌≤◌, List, Option, Some, None, refl, sym, subst}
use Rattle.std.specs.Prelude.{IfSome}
use Rattle.command_words.specs.Jobs.{report_name, script_name, trace_name}
use Rattle.command_words.specs.Jobs.Job.{live_job}
use Rattle.command_words.specs.Words.{Said}
use Rattle.coflow_units.specs.declared.quantity.Quantity.{Quantity}
use Rattle.coflow_units.specs.declared.quantity.Quantity.TheVariants as quantity
use Rattle.flow_table.specs.Table.{TableFacts}
use Rattle.outside.specs.declared.shelf.Place4.TheVariants as place
use Rattle.outside.specs.Shelf.{Told, bytes_of}
use Rattle.workload.specs.declared.script.Script.{Script}
use Rattle.command_files.specs.declared.status.Status.{Status}
use Rattle.command_files.specs.declared.status.Status.TheVariants as status
use Rattle.command_files.specs.Causes.{FileFailed, FilesBadScript, FilesGiveScript, FilesGiveShared, FilesGiveTable, FilesLimit, HasCauseInFiles, IsGiven}
use Rattle.command_files.specs.Causes.FileFailed.{at_script}
use Rattle.command_files.specs.Causes.FilesLimit.{in_script, in_shared}
use Rattle.command_files.specs.FileCauses.{NameFailed, NameFailedIf}
use Rattle.command_files.specs.Inputs.{Gives, IsInput, bytes_if}
use Rattle.command_files.specs.ScriptCauses.{IsBadScript, IsScriptCause, ScriptLimit}
use Rattle.command_files.specs.Scripts.{HasMoreUnits, HasScriptText, IsScriptOf, IsShared}
use Rattle.command_files.specs.Shelves.{AreReadOut, IsAsBefore, IsReadOut, IsReadOutIf, KeepsFiles, KeepsOthers, OfBoth, ReadsOut}
use Rattle.command_files.proofs.CauseFacts.{all_out, still_both}
use Rattle.command_files.proofs.LimitFacts.{job_may}
use Rattle.command_files.proofs.ShelfFacts.{both_and, if_some, later_out, named_before, of_both, rose_before, still_before, told_before, with_both}

trace_not_script : place.Trace ≢ place.Script
trace_not_script e = cc

weights_not_script : place.Weights ≢ place.Script
weights_not_script e = cc

pub report_not_script : place.Report ≢ place.Script
report_not_script e = cc

-- trace and weights are still read to their ends after the script is read
pub still_before_script : (old mid new : Option Told) (said : Said) → OfBoth old mid (AreReadOut (trace_name said.job) said.weights) → OfBoth mid new (KeepsOthers place.Script) →
    OfBoth old new (AreReadOut (trace_name said.job) said.weights)
still_before_script old mid new said out others = still_both place.Script trace_not_script weights_not_script (trace_name said.job) said.weights old mid new out others

-- every file of `live` is read to its end
pub scripted_out : (old mid new : Option Told) (said : Said) (trace name : List ℕ) → script_name said.job ≡ Some name → report_name said.job ≡ None → KeepsFiles old mid →
    OfBoth old mid (AreReadOut (trace_name said.job) said.weights) → OfBoth old mid (IsAsBefore place.Report) →
    OfBoth mid new (KeepsOthers place.Script) → OfBoth mid new (IsReadOut place.Script name) →
    OfBoth old new (ReadsOut (live_job trace name) said)
scripted_out old mid new said trace name is none keeps out report others script =
    all_out old new said (still_before_script old mid new said out others)
    (subst (λ o. OfBoth old new (IsReadOutIf place.Report o)) (sym none) (still_before old mid new place.Report place.Script report_not_script report others))
    (subst (λ o. OfBoth old new (IsReadOutIf place.Script o)) (sym is) (later_out old mid new place.Script name keeps script))

-- ---- the table of the files is this one

-- the files give a table that clients may share live, and it is this one
abbrev pub GiveAs : TableFacts → Said → Told → Type 0
GiveAs table said t = (s : FilesGiveShared said t) × (s.given.table ≡ table)

-- the same without a limit of its units
abbrev pub GiveTableAs : TableFacts → Said → Told → Type 0
GiveTableAs table said t = (g : FilesGiveTable said t) × (g.table ≡ table)

module _ (old : Option Told) (said : Said) (table : TableFacts) (weights : List ℕ) (input : IsInput old (trace_name said.job) said.weights said.unit table weights)
    (given : IfSome old (FilesGiveTable said)) where
  pub table_as : IfSome old (GiveTableAs table said)
  table_as =
      with_both old (λ t. Gives (bytes_of t (trace_name said.job)) (bytes_if t said.weights) said.unit table weights) (FilesGiveTable said) (GiveTableAs table said)
      (λ t gives g. (record { table = table; list = weights; gives = gives; fits = g.fits }, refl)) input.gives given

  pub shared_as : IsShared table → IfSome old (GiveAs table said)
  shared_as shared =
      if_some old (GiveTableAs table said) (GiveAs table said)
      (λ t (g, is). (record { given = g; shared = subst IsShared (sym is) shared }, is)) table_as

  pub shared_given : IsShared table → IfSome old (FilesGiveShared said)
  shared_given shared = if_some old (GiveAs table said) (FilesGiveShared said) (λ t (s, is). s) (shared_as shared)

  -- the table has more units than clients may share live
  pub from_units : (IsBad : List ℕ → ℕ → Type 0) (before now : ℕ) (new : Option Told) (name : List ℕ) (count : ℕ) (s : Status) → script_name said.job ≡ Some name →
      s ≡ status.Limit quantity.Units count → HasMoreUnits table count → HasCauseInFiles IsBad before now old new said s
  from_units IsBad before now new name count s named is more =
      subst (λ (x : Status). HasCauseInFiles IsBad before now old new said x) (sym is) (
        tt,
        if_some old (GiveTableAs table said) (FilesLimit said quantity.Units count)
            (λ t (g, same). in_shared (subst IsGiven (sym named) tt) g refl (subst (λ (x : TableFacts). HasMoreUnits x count) (sym same) more)) table_as,
      )

-- ---- a script that is read after them

module _ (IsBad : List ℕ → ℕ → Type 0) (before mid_count now : ℕ) (old mid new : Option Told) (said : Said) (name : List ℕ) (table : TableFacts)
    (is : script_name said.job ≡ Some name) (keeps : KeepsFiles old mid) (gives : IfSome old (GiveAs table said)) where
  bad_script : (line field : ℕ) → IfSome mid (λ t. IsBadScript table.ids (Some (bytes_of t name)) line field) →
      IsGiven (script_name said.job) × IfSome old (FilesBadScript said line field)
  bad_script line field h = (
    subst IsGiven (sym is) tt,
    with_both old (GiveAs table said) (λ t. IsBadScript table.ids (bytes_if t (Some name)) line field) (FilesBadScript said line field)
        (λ t (s, same) bad. (
          s,
          subst (λ (o : Option (List ℕ)). IsBadScript s.given.table.ids (bytes_if t o) line field) (sym is)
              (subst (λ (x : TableFacts). IsBadScript x.ids (bytes_if t (Some name)) line field) (sym same) bad),
        )) gives
        (told_before old mid (Some name) (λ b. IsBadScript table.ids b line field) keeps h),
  )

  long_script : (which : Quantity) (count : ℕ) → IfSome mid (λ t. ScriptLimit table.ids (Some (bytes_of t name)) which count) → IfSome old (FilesLimit said which count)
  long_script which count h =
      with_both old (GiveAs table said) (λ t. ScriptLimit table.ids (bytes_if t (Some name)) which count) (FilesLimit said which count)
      (λ t (s, same) limit. in_script s
      (subst (λ (o : Option (List ℕ)). ScriptLimit s.given.table.ids (bytes_if t o) which count) (sym is)
      (subst (λ (x : TableFacts). ScriptLimit x.ids (bytes_if t (Some name)) which count) (sym same) limit))) gives
      (told_before old mid (Some name) (λ b. ScriptLimit table.ids b which count) keeps h)

  script_failed : OfBoth mid new (NameFailed name) → OfBoth old new (FileFailed said)
  script_failed failed =
      both_and old new (GiveAs table said) (NameFailedIf (script_name said.job)) (FileFailed said) (λ a b (s, same) f. at_script s f) gives
      (subst (λ o. OfBoth old new (NameFailedIf o)) (sym is)
      (named_before old mid new (Some name) keeps (of_both mid new (NameFailed name) (NameFailedIf (Some name)) (λ a b h. h) failed)))

  pub from_script : (s : Status) → before ≤ mid_count → IsScriptCause table.ids mid_count now mid new name s → HasCauseInFiles IsBad before now old new said s
  from_script (status.BadScript line field) le h = bad_script line field h
  from_script (status.Limit which count) le (may, h) = (job_may said.job name which is may, long_script which count h)
  from_script (status.ReadFault count) le (one, rose, failed) = (one, rose_before before mid_count now le rose, script_failed failed)
  from_script status.NoMemory le h = tt
  from_script status.Ok le h = absurd h
  from_script status.No le h = absurd h
  from_script status.Usage le h = absurd h
  from_script status.UnknownPolicy le h = absurd h
  from_script (status.BadTrace fault) le h = absurd h
  from_script (status.BadWeights fault) le h = absurd h
  from_script (status.BadReport line) le h = absurd h
  from_script (status.BadOrder fault) le h = absurd h
  from_script (status.WriteFault count) le h = absurd h
  from_script (status.WireFault port count) le h = absurd h

-- the files give a table that clients may share live, and a script over its coflows
pub script_good : (old mid : Option Told) (said : Said) (name : List ℕ) (table : TableFacts) (script : Script) → script_name said.job ≡ Some name → KeepsFiles old mid →
    IfSome old (GiveAs table said) → IsScriptOf mid name table.ids script → IfSome old (FilesGiveScript said)
script_good old mid said name table script is keeps gives read =
    with_both old (GiveAs table said) (λ t. HasScriptText table.ids (bytes_if t (Some name))) (FilesGiveScript said)
    (λ t (s, same) text. (
      s,
      subst (λ (o : Option (List ℕ)). HasScriptText s.given.table.ids (bytes_if t o)) (sym is)
          (subst (λ (x : TableFacts). HasScriptText x.ids (bytes_if t (Some name))) (sym same) text),
    )) gives
    (told_before old mid (Some name) (HasScriptText table.ids) keeps (there mid read.reads))
  where
    there : (m : Option Told) → IfSome m (λ t. read.text ≡ bytes_of t name) → IfSome m (λ t. HasScriptText table.ids (Some (bytes_of t name)))
    there None h = tt
    there (Some t) h = subst (λ (xs : List ℕ). HasScriptText table.ids (Some xs)) h read.is_text
