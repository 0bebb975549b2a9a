use Rattle.command_words.specs.Parser.{app_with_names}
use Rattle.command_words.proofs.parser.command.Goals as goal

pub returns : goal.returns
returns c = c.with_options.ensures app_with_names c.command_with_names.ensures
