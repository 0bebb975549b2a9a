use Rattle.online_check.specs.AnyReport.{IsAnyBadAt}
use Rattle.command_files.proofs.CauseFacts.{input_cause}
use Rattle.picture_cli.specs.Drawn.{HasPictureCause}
use Rattle.picture_cli.specs.Policies.{compare_of}
use Rattle.picture_cli.specs.Words.{policies_by}
use Rattle.picture_cli.specs.Words.PictureSaid.{of_policies}
use Rattle.picture_cli.specs.declared.status.PictureStatus.TheVariants.{Ended}
use Rattle.picture_cli.proofs.AnswerFacts.{policies_end_at_files}
use Rattle.picture_cli.proofs.TextFacts.{ends_by, err_by, policies_complete}
use Rattle.picture_cli.proofs.texts.policies_text.Goals as goal

pub returns-in_err-input-clause-complete : goal.returns-in_err-input-clause-complete
returns-in_err-input-clause-complete g c = λ answer call still.
    ends_by c.from_residual.result (Ended c.in_err-input.field-0.0) answer c.from_residual.ensures.1
    (policies_end_at_files (g.H.Shelf.faults c.args.shelf.now) (g.H.Shelf.faults c.read_input.new.shelf) (g.H.Shelf.told c.args.shelf.now) (g.H.Shelf.told c.read_input.new.shelf)
    (policies_by c.args.words) c.in_err-input.field-0.0 answer
    (input_cause IsAnyBadAt (g.H.Shelf.faults c.args.shelf.now) (g.H.Shelf.faults c.read_input.new.shelf) (g.H.Shelf.told c.args.shelf.now) (g.H.Shelf.told c.read_input.new.shelf)
    (compare_of (policies_by c.args.words)) c.in_err-input.field-0.0 c.in_err-input.ensures.cause) call still)

pub returns-in_err-input-clause-cause : goal.returns-in_err-input-clause-cause
returns-in_err-input-clause-cause g c =
    err_by (HasPictureCause (g.H.Shelf.faults c.args.shelf.now) (g.H.Shelf.faults c.read_input.new.shelf) (g.H.Shelf.told c.args.shelf.now) (g.H.Shelf.told c.read_input.new.shelf)
    (of_policies (policies_by c.args.words))) c.from_residual.result (Ended c.in_err-input.field-0.0) c.from_residual.ensures.1
    (input_cause IsAnyBadAt (g.H.Shelf.faults c.args.shelf.now) (g.H.Shelf.faults c.read_input.new.shelf) (g.H.Shelf.told c.args.shelf.now) (g.H.Shelf.told c.read_input.new.shelf)
    (compare_of (policies_by c.args.words)) c.in_err-input.field-0.0 c.in_err-input.ensures.cause)

pub returns-clause-complete : goal.returns-clause-complete
returns-clause-complete g c = λ answer call still.
    let input = c.in_ok-input.input in
    let came = c.policies_of-drawn.ensures in
    policies_complete (g.H.Shelf.told c.args.shelf.now) (policies_by c.args.words) input.table input.weights c.policies_of-drawn.result c.in_ok-input.ensures.input
    came.some came.cause answer call
