-- The script of a file.
use Rattle.std.specs.Prelude.{◌≡◌, ℕ, ◌<◌, ◌≤◌, List, Option, Some, None, IfSome, length, sum_by}
use Rattle.coflow_units.specs.declared.fabric.Flow.{Flow}
use Rattle.coflow_units.specs.declared.limits.TheConstants.{MAX_LIVE_UNITS, MAX_TEXT}
use Rattle.flow_table.specs.Table.{TableFacts}
use Rattle.outside.specs.Shelf.{Told, bytes_of}
use Rattle.workload.specs.Checks.{text_checks}
use Rattle.workload.specs.Script.{script_of}
use Rattle.workload.specs.declared.script.Script.{Script}
use Rattle.text_fields.specs.Checks.{first_fault}

-- the text is that of a script over the coflows of these ids: it is short, and all its checks hold
pub record IsScriptText (ids text : List ℕ) : Type 0 where
  pub short : length text ≤ MAX_TEXT
  pub passes : first_fault (text_checks ids text) ≡ None

-- A script that was read over the coflows of these ids: some text gives it. Where the bytes under its name are told, they
-- are that text.
pub record IsScriptOf (told : Option Told) (name : List ℕ) (ids : List ℕ) (script : Script) : Type 0 where
  pub text : List ℕ
  pub is_text : IsScriptText ids text
  pub script_is : script ≡ script_of ids text
  pub reads : IfSome told (λ t. text ≡ bytes_of t name)

-- there is a file of a script, and it has the text of one
abbrev pub HasScriptText : List ℕ → Option (List ℕ) → Type 0
HasScriptText ids None = ⊥
HasScriptText ids (Some text) = IsScriptText ids text

-- the units of all flows of a table
abbrev pub table_units : TableFacts → ℕ
table_units t = sum_by (λ (x : Flow). x.units) t.flows

-- the table has no more units than clients may share live
abbrev pub IsShared : TableFacts → Type 0
IsShared t = table_units t ≤ MAX_LIVE_UNITS

-- the table has more units than clients may share live, and so many
abbrev pub HasMoreUnits : TableFacts → ℕ → Type 0
HasMoreUnits t count = (count ≡ table_units t) × (MAX_LIVE_UNITS < table_units t)
