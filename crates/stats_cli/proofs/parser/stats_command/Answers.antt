use Rattle.std.proofs.Common.{◌≡◌, IfOk, subst}
use Rattle.clap.specs.Words.{App, app_of}
use Rattle.stats_cli.specs.Parser.{empty_app, with_names}
use Rattle.stats_cli.proofs.parser.stats_command.Goals as goal

pub returns : goal.returns
returns c =
    let one = c.with_arg-command.ensures.arg (with_names empty_app) c.command_with_names-command.ensures in
    let two = c.with_arg-command-2.ensures.arg _ one in
    let three = c.with_arg-command-3.ensures.arg _ two in
    subst (λ (a : App). IfOk c.with_arg.result (λ made. app_of made ≡ a)) (cc) (c.with_arg.ensures.arg _ three)
