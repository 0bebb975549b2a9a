use Rattle.picture_cli.specs.Words.{report_by}
use Rattle.picture_cli.proofs.PictureFacts.{draws_plan}
use Rattle.picture_cli.proofs.drawing.draw_plan.Goals as goal

pub returns-clause-drawn : goal.returns-clause-drawn
returns-clause-drawn c =
    draws_plan c.args.input.now.table c.args.input.now.weights c.args.report.now (report_by c.args.words) c.in_ok-text.text.items c.in_ok-picture.picture c.requires.right
    c.in_ok-picture.ensures.shows c.in_ok-text.ensures.text
