use Rattle.command_words.specs.Jobs.Job.{classes_job}
use Rattle.command_words.specs.Words.{Said, said_with}
use Rattle.command_files.proofs.JobFacts.{from_input}
use Rattle.command_files.proofs.ShelfFacts.{passed_on}
use Rattle.command_files.specs.Shelves.{OfBoth}
use Rattle.command_files.specs.Turns.{FilesInTurn}
use Rattle.command_files.proofs.FileTurns.{input_in_turn}
use Rattle.command_jobs.proofs.classing.list_classes.Goals as goal

pub returns-in_err-input-clause-cause : goal.returns-in_err-input-clause-cause
returns-in_err-input-clause-cause g c =
    passed_on c.from_residual.result c.in_err-input.field-0.0 _ c.from_residual.ensures.1
    (from_input (g.H.Shelf.faults c.args.shelf.now) (g.H.Shelf.faults c.read_input.new.shelf) (g.H.Shelf.told c.args.shelf.now) (g.H.Shelf.told c.read_input.new.shelf)
    (said_with (classes_job c.args.trace.now) c.args.options) c.in_err-input.field-0.0 c.in_err-input.ensures.cause)

pub returns-in_err-input-clause-in_turn : goal.returns-in_err-input-clause-in_turn
returns-in_err-input-clause-in_turn g c =
    let old = g.H.Shelf.told c.args.shelf.now in
    let new = g.H.Shelf.told c.read_input.new.shelf in
    let said : Said = said_with (classes_job c.args.trace.now) c.args.options in
    passed_on c.from_residual.result c.in_err-input.field-0.0 (λ status. OfBoth old new (FilesInTurn said status)) c.from_residual.ensures.1
    (input_in_turn old new said c.in_err-input.field-0.0 c.in_err-input.ensures.in_turn c.read_input.ensures.no_report c.read_input.ensures.no_script)
