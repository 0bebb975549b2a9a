use Rattle.picture_cli.specs.Words.{report_by}
use Rattle.picture_cli.proofs.RunFacts.{draws_run}
use Rattle.picture_cli.proofs.run_drawing.draw_run.Goals as goal

pub returns-clause-drawn : goal.returns-clause-drawn
returns-clause-drawn c =
    draws_run c.yes_bounds_released_schedules.ensures.total c.args.input.now.table c.args.input.now.weights c.args.online.now (report_by c.args.words) c.in_ok-text.text.items
    c.in_ok-picture.picture c.requires.right c.in_ok-picture.ensures.shows c.in_ok-text.ensures.text
