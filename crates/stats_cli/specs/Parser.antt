-- The command that the library's parser is given, and what it finds.
use Rattle.std.specs.Prelude.{◌≡◌, List, [], codes, true}
use Rattle.clap.specs.Words.{App, fault_of, first_of, first_value, matches_of, new_app, with_rule}
use Rattle.clap.specs.Simple.{on_top}
use Rattle.clap.specs.declared.parser.matches.Found.{Found}
use Rattle.command_words.specs.Line.{Text}
use Rattle.command_words.specs.Parser.{flag_rule, needed_rule, with_option}

-- The command before it has arguments. No word asks for help or for the version.
abbrev pub empty_app : App
empty_app = on_top (λ s. record s { disable_help_flag = true; disable_version_flag = true })
    (new_app (codes "sincronia_stats"))

-- Two names by their places, both needed.
abbrev pub with_names : App → App
with_names a = with_rule (with_rule a (needed_rule (codes "TRACE"))) (needed_rule (codes "REPORT"))

-- The command, with options of one value each and a flag. An option and a flag stand once at most.
abbrev pub app : App
app = with_rule
    (with_option (with_option (with_option (with_names empty_app) (codes "weights")) (codes "unit")) (codes "slot-ms"))
    (flag_rule (codes "csv"))

-- The parser accepts the words, and what was found is what they give each argument.
pub record IsFound (words : List Text) (found : Found) : Type 0 where
  pub accepted : fault_of app words ≡ []
  pub value : (id : Text) → first_value found id ≡ first_of id (matches_of app words)
