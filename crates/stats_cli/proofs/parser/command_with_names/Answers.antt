use Rattle.std.proofs.Common.{◌≡◌, IfOk, subst}
use Rattle.clap.specs.Words.{App, app_of}
use Rattle.stats_cli.specs.Parser.{empty_app}
use Rattle.stats_cli.proofs.parser.command_with_names.Goals as goal

pub returns : goal.returns
returns c =
    let one = c.with_arg-command.ensures.arg empty_app c.empty_command.ensures in
    subst (λ (a : App). IfOk c.with_arg.result (λ made. app_of made ≡ a)) (cc) (c.with_arg.ensures.arg _ one)
