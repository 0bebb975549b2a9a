-- The command that the library's parser is given, and what it finds.
use Rattle.std.specs.Prelude.{◌≡◌, List, [], codes, true}
use Rattle.clap.specs.Words.{App, fault_of, first_of, first_value, matches_of, new_app, with_rule}
use Rattle.clap.specs.Simple.{on_top}
use Rattle.clap.specs.declared.parser.matches.Found.{Found}
use Rattle.command_words.specs.Line.{Text}
use Rattle.command_words.specs.Parser.{flag_rule, name_rule, needed_rule, with_option}

-- The command before it has arguments. No word asks for help or for the version.
abbrev pub empty_app : App
empty_app = on_top (λ s. record s { disable_help_flag = true; disable_version_flag = true })
    (new_app (codes "sincronia_picture"))

-- Two names by their places, the first of which is needed.
abbrev pub app_with_names : App
app_with_names = with_rule (with_rule empty_app (needed_rule (codes "TRACE"))) (name_rule (codes "REPORT"))

-- The command with its options of one value each.
abbrev pub app_with_options : App
app_with_options = with_option (with_option
    (with_option (with_option (with_option (with_option app_with_names (codes "weights")) (codes "unit"))
    (codes "from")) (codes "to")) (codes "side")) (codes "slot-ms")

-- The command, with a flag too. An option and a flag stand once at most.
abbrev pub app : App
app = with_rule app_with_options (flag_rule (codes "policies"))

-- The parser accepts the words, and what was found is what they give each argument.
pub record IsFound (words : List Text) (found : Found) : Type 0 where
  pub accepted : fault_of app words ≡ []
  pub value : (id : Text) → first_value found id ≡ first_of id (matches_of app words)
