-- Scripts that were read.
use Rattle.std.specs.Prelude.{◌≡◌, ℕ, List, None}
use Rattle.workload.specs.Checks.{text_checks}
use Rattle.workload.specs.Script.{script_of}
use Rattle.workload.specs.declared.script.Script.{Script}
use Rattle.text_fields.specs.Checks.{first_fault}
use Rattle.text_fields.specs.Fields.{Text}

-- some text without a fault gives the script over the coflows of these ids
pub record IsRead (ids : List ℕ) (script : Script) : Type 0 where
  pub text : Text
  pub passes : first_fault (text_checks ids text) ≡ None
  pub script_is : script ≡ script_of ids text
