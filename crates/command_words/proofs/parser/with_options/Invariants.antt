-- The command has the options that were looked at.
use Rattle.std.proofs.Common.{◌≡◌, IfOk, map, take}
use Rattle.std.specs.List.{fold}
use Rattle.clap.specs.Words.{App, app_of}
use Rattle.command_words.specs.Parser.{with_option}
use Rattle.command_words.proofs.parser.with_options.Given as goal

abbrev pub invariant-loop-name : goal.invariant-loop-name
invariant-loop-name l = record {
  made : (a : App) → IfOk l.initial.command (λ c. app_of c ≡ a) → IfOk l.command (λ c. app_of c ≡ fold with_option a (take l.name-index (map (λ s. s.now) l.names)));
}
