-- What the bytes of a script give, and why they give nothing.
use Rattle.std.proofs.Common.{◌≡◌, ℕ, ◌^◌, ◌≤◌, inl, inr, List, Option, Some, None, Err, length, sym, ap, subst, ◌∙◌}
use Rattle.std.specs.Prelude.{IfSome}
use Rattle.command_words.specs.Jobs.Job.{live_job}
use Rattle.coflow_units.specs.declared.quantity.Quantity.{Quantity}
use Rattle.outside.specs.Shelf.{Told, bytes_of}
use Rattle.workload.specs.Checks.{Answers, text_checks}
use Rattle.workload.specs.Script.{script_of}
use Rattle.workload.specs.declared.fault.ScriptFault.{ScriptFault}
use Rattle.workload.specs.declared.fault.ScriptFault.TheVariants as script_fault
use Rattle.workload.specs.declared.script.Script.{Script}
use Rattle.text_fields.specs.Checks.{first_fault}
use Rattle.command_files.specs.declared.status.Status.{Status}
use Rattle.command_files.specs.declared.status.Status.TheVariants as status
use Rattle.command_files.specs.FileCauses.{IsFileCause}
use Rattle.command_files.specs.ScriptCauses.{HasScriptFault, IsScriptCause, ScriptLimit}
use Rattle.command_files.specs.Faults.{IsStatusOfScript}
use Rattle.command_files.specs.Scripts.{IsScriptOf}
use Rattle.command_files.specs.Shelves.{HasBytes, KeepsFiles}
use Rattle.command_files.specs.TraceCauses.{IsTooLong}
use Rattle.command_files.proofs.LimitFacts.{script_may, text_may}
use Rattle.command_files.proofs.ShelfFacts.{told_before}

pub script_of_file : (ids : List ℕ) (old : Option Told) (name bytes lent : List ℕ) (script : Script) → HasBytes old name bytes → lent ≡ bytes → length bytes ≤ 2 ^ 26 →
    first_fault (text_checks ids lent) ≡ None → script ≡ script_of ids lent → IsScriptOf old name ids script
script_of_file ids old name bytes lent script has e short passes is = record {
  text = bytes;
  is_text = record { short = short; passes = ap (λ (xs : List ℕ). first_fault (text_checks ids xs)) (sym e) ∙ passes };
  script_is = is ∙ ap (λ (xs : List ℕ). script_of ids xs) e;
  reads = has;
}

-- the bytes, where there are any, are this text
abbrev pub IsTheText : List ℕ → Option (List ℕ) → Type 0
IsTheText text None = Unit {0}
IsTheText text (Some bytes) = text ≡ bytes

pub script_before : (ids : List ℕ) (old mid : Option Told) (name : List ℕ) (script : Script) → KeepsFiles old mid → IsScriptOf mid name ids script → IsScriptOf old name ids script
script_before ids old mid name script keeps is = record {
  text = is.text;
  is_text = is.is_text;
  script_is = is.script_is;
  reads = told_before old mid (Some name) (IsTheText is.text) keeps is.reads;
}

module _ (ids : List ℕ) (before now : ℕ) (old new : Option Told) (name : List ℕ) where
  script_has : (told : Option Told) (bytes lent : List ℕ) (fault : ScriptFault) → HasBytes told name bytes → lent ≡ bytes → length bytes ≤ 2 ^ 26 →
      first_fault (text_checks ids lent) ≡ Some fault → IfSome told (λ t. HasScriptFault ids (Some (bytes_of t name)) fault)
  script_has None bytes lent fault has e short first = tt
  script_has (Some t) bytes lent fault has e short first =
      (subst (λ (xs : List ℕ). length xs ≤ 2 ^ 26) has short, ap (λ (xs : List ℕ). first_fault (text_checks ids xs)) (sym (e ∙ has)) ∙ first)

  script_limit : (told : Option Told) (bytes lent : List ℕ) (which : Quantity) (count : ℕ) → HasBytes told name bytes → lent ≡ bytes → length bytes ≤ 2 ^ 26 →
      first_fault (text_checks ids lent) ≡ Some (script_fault.Limit which count) → IfSome told (λ t. ScriptLimit ids (Some (bytes_of t name)) which count)
  script_limit None bytes lent which count has e short first = tt
  script_limit (Some t) bytes lent which count has e short first = inr (script_has (Some t) bytes lent (script_fault.Limit which count) has e short first)

  -- why what was read is no script
  pub script_cause : (bytes lent : List ℕ) (P : Script → Type 0) (fault : ScriptFault) (s : Status) → HasBytes old name bytes → lent ≡ bytes → length bytes ≤ 2 ^ 26 →
      Answers (text_checks ids lent) P (Err fault) → IsStatusOfScript fault s → IsScriptCause ids before now old new name s
  script_cause bytes lent P (script_fault.Bad line field) s has e short first is =
      subst (λ (x : Status). IsScriptCause ids before now old new name x) (sym is) (script_has old bytes lent (script_fault.Bad line field) has e short first)
  script_cause bytes lent P (script_fault.Limit which count) s has e short first is =
      subst (λ (x : Status). IsScriptCause ids before now old new name x) (sym is)
      (script_may ids lent which count first, script_limit old bytes lent which count has e short first)
  script_cause bytes lent P script_fault.NoMemory s has e short first is = subst (λ (x : Status). IsScriptCause ids before now old new name x) (sym is) tt

  pub file_to_script : (s : Status) → IsFileCause 67108864 before now old new name s → IsScriptCause ids before now old new name s
  file_to_script (status.Limit which count) (text, number, long) = (λ trace script. text_may which text (live_job trace script), go old long) where
    go : (o : Option Told) → IfSome o (λ t. IsTooLong (bytes_of t name)) → IfSome o (λ t. ScriptLimit ids (Some (bytes_of t name)) which count)
    go None h = tt
    go (Some t) h = inl (text, number, h)
  file_to_script (status.ReadFault count) h = h
  file_to_script status.NoMemory h = tt
  file_to_script status.Ok h = absurd h
  file_to_script status.No h = absurd h
  file_to_script status.Usage h = absurd h
  file_to_script status.UnknownPolicy h = absurd h
  file_to_script (status.BadTrace fault) h = absurd h
  file_to_script (status.BadWeights fault) h = absurd h
  file_to_script (status.BadReport line) h = absurd h
  file_to_script (status.BadScript line field) h = absurd h
  file_to_script (status.BadOrder fault) h = absurd h
  file_to_script (status.WriteFault count) h = absurd h
  file_to_script (status.WireFault port count) h = absurd h
