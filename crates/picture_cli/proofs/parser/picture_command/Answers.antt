use Rattle.std.proofs.Common.{◌≡◌, IfOk, subst}
use Rattle.clap.specs.Words.{App, app_of}
use Rattle.picture_cli.specs.Parser.{app_with_options}
use Rattle.picture_cli.proofs.parser.picture_command.Goals as goal

pub returns : goal.returns
returns c =
    subst (λ (a : App). IfOk c.with_arg.result (λ made. app_of made ≡ a)) (cc) (c.with_arg.ensures.arg app_with_options c.command_with_options-command.ensures)
