use Rattle.picture_cli.specs.Words.{report_by}
use Rattle.picture_cli.specs.declared.status.PictureStatus.TheVariants.{Ended}
use Rattle.picture_cli.proofs.AnswerFacts.{ends_at_files}
use Rattle.picture_cli.proofs.TextFacts.{ends_by, report_cause, report_complete, report_drawn, report_in_turn}
use Rattle.picture_cli.proofs.texts.report_text.Goals as goal

pub returns-in_err-files-clause-complete : goal.returns-in_err-files-clause-complete
returns-in_err-files-clause-complete g c = λ answer call still.
    ends_by c.from_residual.result (Ended c.in_err-files.field-0.0) answer c.from_residual.ensures.1
    (ends_at_files (g.H.Shelf.faults c.args.shelf.now) (g.H.Shelf.faults c.read_files.new.shelf)
    (g.H.Shelf.told c.args.shelf.now) (g.H.Shelf.told c.read_files.new.shelf) (report_by c.args.words) c.in_err-files.field-0.0 answer c.in_err-files.ensures.cause call still)

pub returns-clause-drawn : goal.returns-clause-drawn
returns-clause-drawn g c =
    let files = c.in_ok-files.files in
    let came = c.picture_of-drawn.ensures in
    report_drawn (λ text. text.items) (g.H.Shelf.faults c.args.shelf.now) (g.H.Shelf.faults c.read_files.new.shelf)
    (g.H.Shelf.told c.args.shelf.now) (g.H.Shelf.told c.read_files.new.shelf) (report_by c.args.words) files.input.table files.input.weights
    files.report c.in_ok-files.ensures.input c.in_ok-files.ensures.report c.picture_of-drawn.result came.right came.drawn

pub returns-clause-complete : goal.returns-clause-complete
returns-clause-complete g c = λ answer call still.
    let files = c.in_ok-files.files in
    let came = c.picture_of-drawn.ensures in
    report_complete (λ text. text.items) (g.H.Shelf.faults c.args.shelf.now) (g.H.Shelf.faults c.read_files.new.shelf)
    (g.H.Shelf.told c.args.shelf.now) (g.H.Shelf.told c.read_files.new.shelf) (report_by c.args.words) files.input.table files.input.weights
    files.report c.in_ok-files.ensures.input c.in_ok-files.ensures.report c.picture_of-drawn.result came.right came.drawn
    came.cause answer call

pub returns-clause-in_turn : goal.returns-clause-in_turn
returns-clause-in_turn g c =
    let files = c.in_ok-files.files in
    report_in_turn (λ text. text.items) (g.H.Shelf.faults c.args.shelf.now) (g.H.Shelf.faults c.read_files.new.shelf)
    (g.H.Shelf.told c.args.shelf.now) (g.H.Shelf.told c.read_files.new.shelf) (report_by c.args.words) files.input.table files.input.weights
    files.report c.in_ok-files.ensures.input c.in_ok-files.ensures.report c.picture_of-drawn.result
    c.picture_of-drawn.ensures.cause c.in_ok-files.ensures.good c.in_ok-files.ensures.read_out

pub returns-clause-cause : goal.returns-clause-cause
returns-clause-cause g c =
    let files = c.in_ok-files.files in
    report_cause (λ text. text.items) (g.H.Shelf.faults c.args.shelf.now) (g.H.Shelf.faults c.read_files.new.shelf)
    (g.H.Shelf.told c.args.shelf.now) (g.H.Shelf.told c.read_files.new.shelf) (report_by c.args.words) files.input.table files.input.weights
    files.report c.in_ok-files.ensures.input c.in_ok-files.ensures.report c.picture_of-drawn.result
    c.picture_of-drawn.ensures.cause
