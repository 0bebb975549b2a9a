use Rattle.std.proofs.Common.{◌≡◌, IfOk, subst}
use Rattle.clap.specs.Words.{App, app_of}
use Rattle.picture_cli.specs.Parser.{app_with_names}
use Rattle.picture_cli.proofs.parser.command_with_options.Goals as goal

pub returns : goal.returns
returns c =
    let one = c.with_arg-command.ensures.arg app_with_names c.command_with_names-command.ensures in
    let two = c.with_arg-command-2.ensures.arg _ one in
    let three = c.with_arg-command-3.ensures.arg _ two in
    let four = c.with_arg-command-4.ensures.arg _ three in
    let five = c.with_arg-command-5.ensures.arg _ four in
    subst (λ (a : App). IfOk c.with_arg.result (λ made. app_of made ≡ a)) (cc) (c.with_arg.ensures.arg _ five)
