-- The command that the library's parser is given, and what it finds.
use Rattle.std.specs.Prelude.{◌≡◌, ◌≢◌, List, None, Some, true, codes, drop}
use Rattle.clap.specs.Words.{App, Rule, first_value, new_app, new_rule, with_rule}
use Rattle.clap.specs.Simple.{on_top}
use Rattle.clap.specs.declared.builder.ArgAction.TheVariants.{Set, SetTrue}
use Rattle.clap.specs.declared.parser.matches.Found.{Found}
use Rattle.command_words.specs.Line.{IsOnce, Text, Use, uses, value_of}

-- An argument with one value, by its place.
abbrev pub name_rule : Text → Rule
name_rule id = record (new_rule id) { action = Some Set }

-- The same, without which the words are refused.
abbrev pub needed_rule : Text → Rule
needed_rule id = record (new_rule id) { action = Some Set; required = true }

-- An option with one value.
abbrev pub option_rule : Text → Rule
option_rule id = record (new_rule id) { action = Some Set; long = Some id }

-- An option without a value.
abbrev pub flag_rule : Text → Rule
flag_rule id = record (new_rule id) { action = Some SetTrue; long = Some id }

-- The command before it has arguments. No word asks for help or for the version.
abbrev pub empty_app : App
empty_app = on_top (λ s. record s { disable_help_flag = true; disable_version_flag = true })
    (new_app (codes "sincronia"))

abbrev pub app_with_names : App
app_with_names = with_rule (with_rule (with_rule empty_app (needed_rule (codes "COMMAND")))
    (needed_rule (codes "FIRST"))) (name_rule (codes "SECOND"))

abbrev pub with_option : App → Text → App
with_option a name = with_rule a (option_rule name)

-- The command.
abbrev pub app : App
app = with_option (with_option (with_option (with_option (with_option
    (with_option (with_option (with_option (with_option app_with_names (codes "weights")) (codes "unit"))
    (codes "agents")) (codes "epoch")) (codes "run")) (codes "slot-ms")) (codes "classes")) (codes "fold"))
    (codes "policy")

-- No argument is used twice, and COMMAND and FIRST are used.
abbrev pub IsAccepted : List Use → Type 0
IsAccepted us = IsOnce us × (value_of (codes "COMMAND") us ≢ None) × (value_of (codes "FIRST") us ≢ None)

-- What was found is what the words use.
pub record Finds (words : List Text) (found : Found) : Type 0 where
  pub used : List Use
  pub uses_are : uses None 1 (drop 1 words) ≡ Some used
  pub once : IsOnce used
  pub value : (id : Text) → first_value found id ≡ value_of id used
