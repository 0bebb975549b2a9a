use Rattle.std.proofs.Common.{refl}
use Rattle.std.proofs.lemmas.List.Elements.{All-nil}
use Rattle.command_words.specs.Jobs.Job.{compare_job}
use Rattle.command_words.specs.Words.{Said, said_with}
use Rattle.command_files.proofs.JobFacts.{from_input}
use Rattle.command_jobs.proofs.CompareFacts.{left_of_files}
use Rattle.command_files.proofs.ShelfFacts.{passed_on}
use Rattle.command_files.specs.Shelves.{OfBoth}
use Rattle.command_files.specs.Turns.{FilesInTurn}
use Rattle.command_files.proofs.FileTurns.{input_in_turn}
use Rattle.command_jobs.proofs.comparing.compare_rankers.Goals as goal

pub returns-in_err-input-clause-cause : goal.returns-in_err-input-clause-cause
returns-in_err-input-clause-cause g c =
    passed_on c.from_residual.result c.in_err-input.field-0.0 _ c.from_residual.ensures.1
    (from_input (g.H.Shelf.faults c.args.shelf.now) (g.H.Shelf.faults c.read_input.new.shelf) (g.H.Shelf.told c.args.shelf.now) (g.H.Shelf.told c.read_input.new.shelf)
    (said_with (compare_job c.args.trace.now) c.args.options) c.in_err-input.field-0.0 c.in_err-input.ensures.cause)

pub returns-in_err-input-clause-in_turn : goal.returns-in_err-input-clause-in_turn
returns-in_err-input-clause-in_turn g c =
    let old = g.H.Shelf.told c.args.shelf.now in
    let new = g.H.Shelf.told c.read_input.new.shelf in
    let said : Said = said_with (compare_job c.args.trace.now) c.args.options in
    passed_on c.from_residual.result c.in_err-input.field-0.0 (λ status. OfBoth old new (FilesInTurn said status)) c.from_residual.ensures.1
    (input_in_turn old new said c.in_err-input.field-0.0 c.in_err-input.ensures.in_turn c.read_input.ensures.no_report c.read_input.ensures.no_script)

pub returns-in_err-input-clause-left : goal.returns-in_err-input-clause-left
returns-in_err-input-clause-left g c = (0, refl, All-nil _)

pub returns-in_default-clause-left : goal.returns-in_default-clause-left
returns-in_default-clause-left g c = (0, refl, All-nil _)

pub returns-in_err-text-clause-left : goal.returns-in_err-text-clause-left
returns-in_err-text-clause-left g c =
    left_of_files (g.H.Shelf.told c.args.shelf.now) (said_with (compare_job c.args.trace.now) c.args.options) c.in_ok-input.input.table c.in_ok-input.input.weights
    c.as_slice-2.result.now c.in_ok-input.ensures.input c.as_slice-2.ensures (λ b f. (goal.Ranker-dyn g (b.vtable, b.value)).answered b.value f) c.args.bench.now.items
    c.comparison_text-written.new.bench.items c.comparison_text-written.ensures.left

pub returns-clause-left : goal.returns-clause-left
returns-clause-left g c =
    left_of_files (g.H.Shelf.told c.args.shelf.now) (said_with (compare_job c.args.trace.now) c.args.options) c.in_ok-input.input.table c.in_ok-input.input.weights
    c.as_slice-2.result.now c.in_ok-input.ensures.input c.as_slice-2.ensures (λ b f. (goal.Ranker-dyn g (b.vtable, b.value)).answered b.value f) c.args.bench.now.items
    c.comparison_text-written.new.bench.items c.comparison_text-written.ensures.left
