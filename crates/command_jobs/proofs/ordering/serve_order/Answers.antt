use Rattle.std.proofs.Common.{◌≡◌, ◌∙◌, List, refl, subst, sym, ℕ}
use Rattle.std.specs.Prelude.{Contains}
use Rattle.command_words.specs.Jobs.Job.{serve_job}
use Rattle.command_words.specs.Words.{Said, said_with}
use Rattle.flow_table.specs.Table.{instance_of}
use Rattle.plans.specs.ServedReport.{IsServedReport}
use Rattle.command_files.specs.declared.status.Status.{Status}
use Rattle.command_files.specs.declared.status.Status.TheVariants.{NoMemory}
use Rattle.command_files.specs.Ends.{IsReadFault}
use Rattle.command_files.specs.JobCauses.{IsBadFor}
use Rattle.command_files.specs.Shelves.{OfBoth}
use Rattle.command_files.specs.Turns.{FilesInTurn}
use Rattle.command_files.proofs.CauseFacts.{checked_out}
use Rattle.command_files.proofs.JobFacts.{from_input}
use Rattle.command_files.proofs.OrderFacts.{order_before}
use Rattle.command_files.proofs.OrderFiles.{from_order, order_good, order_in_turn}
use Rattle.command_files.proofs.ShelfFacts.{files_kept, passed_as, passed_on}
use Rattle.command_files.proofs.FileTurns.{done_in_turn, input_in_turn}
use Rattle.command_jobs.proofs.ordering.serve_order.Goals as goal

pub returns-in_err-input-clause-cause : goal.returns-in_err-input-clause-cause
returns-in_err-input-clause-cause g c =
    passed_on c.from_residual.result c.in_err-input.field-0.0 _ c.from_residual.ensures.1
    (from_input (g.H.Shelf.faults c.args.shelf.now) (g.H.Shelf.faults c.read_input.new.shelf) (g.H.Shelf.told c.args.shelf.now) (g.H.Shelf.told c.read_input.new.shelf)
    (said_with (serve_job c.args.trace.now c.args.order.now) c.args.options) c.in_err-input.field-0.0 c.in_err-input.ensures.cause)

pub returns-in_err-input-clause-in_turn : goal.returns-in_err-input-clause-in_turn
returns-in_err-input-clause-in_turn g c =
    let old = g.H.Shelf.told c.args.shelf.now in
    let new = g.H.Shelf.told c.read_input.new.shelf in
    let said : Said = said_with (serve_job c.args.trace.now c.args.order.now) c.args.options in
    passed_on c.from_residual.result c.in_err-input.field-0.0 (λ status. OfBoth old new (FilesInTurn said status)) c.from_residual.ensures.1
    (input_in_turn old new said c.in_err-input.field-0.0 c.in_err-input.ensures.in_turn c.read_input.ensures.no_report c.read_input.ensures.no_script)

pub returns-in-Err-clause-keeps : goal.returns-in-Err-clause-keeps
returns-in-Err-clause-keeps g c = files_kept (g.H.Shelf.told c.args.shelf.now) (g.H.Shelf.told c.read_input.new.shelf) (g.H.Shelf.told c.read_order_file.new.shelf)
    c.read_input.ensures.keeps c.read_order_file.ensures.keeps

pub returns-in_err-report-clause-keeps : goal.returns-in_err-report-clause-keeps
returns-in_err-report-clause-keeps g c = files_kept (g.H.Shelf.told c.args.shelf.now) (g.H.Shelf.told c.read_input.new.shelf) (g.H.Shelf.told c.read_order_file.new.shelf)
    c.read_input.ensures.keeps c.read_order_file.ensures.keeps

pub returns-in_err-text-clause-keeps : goal.returns-in_err-text-clause-keeps
returns-in_err-text-clause-keeps g c = files_kept (g.H.Shelf.told c.args.shelf.now) (g.H.Shelf.told c.read_input.new.shelf) (g.H.Shelf.told c.read_order_file.new.shelf)
    c.read_input.ensures.keeps c.read_order_file.ensures.keeps

pub returns-clause-keeps : goal.returns-clause-keeps
returns-clause-keeps g c = files_kept (g.H.Shelf.told c.args.shelf.now) (g.H.Shelf.told c.read_input.new.shelf) (g.H.Shelf.told c.read_order_file.new.shelf)
    c.read_input.ensures.keeps c.read_order_file.ensures.keeps

pub returns-in-Err-clause-cause : goal.returns-in-Err-clause-cause
returns-in-Err-clause-cause g c =
    from_order (g.H.Shelf.faults c.args.shelf.now) (g.H.Shelf.faults c.read_input.new.shelf) (g.H.Shelf.faults c.read_order_file.new.shelf)
    (g.H.Shelf.told c.args.shelf.now) (g.H.Shelf.told c.read_input.new.shelf) (g.H.Shelf.told c.read_order_file.new.shelf)
    (said_with (serve_job c.args.trace.now c.args.order.now) c.args.options) c.args.order.now c.in_ok-input.input.table c.in_ok-input.input.weights refl refl
    c.read_input.ensures.keeps c.in_ok-input.ensures.input c.in_ok-input.ensures.table
    (IsBadFor (serve_job c.args.trace.now c.args.order.now)) c.in-Err.status refl c.read_input.ensures.later c.in-Err.ensures.cause

pub returns-in-Err-clause-in_turn : goal.returns-in-Err-clause-in_turn
returns-in-Err-clause-in_turn g c =
    order_in_turn (g.H.Shelf.faults c.args.shelf.now) (g.H.Shelf.faults c.read_input.new.shelf) (g.H.Shelf.faults c.read_order_file.new.shelf)
    (g.H.Shelf.told c.args.shelf.now) (g.H.Shelf.told c.read_input.new.shelf) (g.H.Shelf.told c.read_order_file.new.shelf)
    (said_with (serve_job c.args.trace.now c.args.order.now) c.args.options) c.args.order.now c.in_ok-input.input.table c.in_ok-input.input.weights refl refl
    c.read_input.ensures.keeps c.in_ok-input.ensures.input c.in_ok-input.ensures.table
    c.in-Err.status c.in_ok-input.ensures.read_out c.read_input.ensures.no_script c.read_order_file.ensures.others c.in-Err.ensures.cause

pub returns-in_err-report-clause-in_turn : goal.returns-in_err-report-clause-in_turn
returns-in_err-report-clause-in_turn g c =
    let old = g.H.Shelf.told c.args.shelf.now in
    let mid = g.H.Shelf.told c.read_input.new.shelf in
    let new = g.H.Shelf.told c.read_order_file.new.shelf in
    let said : Said = said_with (serve_job c.args.trace.now c.args.order.now) c.args.options in
    passed_as c.from_residual-in_err-report.result (λ (s : Status). s ≡ NoMemory) (λ status. OfBoth old new (FilesInTurn said status)) c.from_residual-in_err-report.ensures.1
    (λ s is. done_in_turn old new said s refl (λ read. subst IsReadFault is read) c.in_ok-input.ensures.table
    (checked_out old mid new said c.args.trace.now c.args.order.now refl refl c.read_input.ensures.keeps c.in_ok-input.ensures.read_out c.read_input.ensures.no_script
    c.read_order_file.ensures.others c.in-Ok.ensures.read_out))

pub returns-in_err-text-clause-in_turn : goal.returns-in_err-text-clause-in_turn
returns-in_err-text-clause-in_turn g c =
    let old = g.H.Shelf.told c.args.shelf.now in
    let mid = g.H.Shelf.told c.read_input.new.shelf in
    let new = g.H.Shelf.told c.read_order_file.new.shelf in
    let said : Said = said_with (serve_job c.args.trace.now c.args.order.now) c.args.options in
    passed_as c.from_residual-in_err-text.result (λ (s : Status). s ≡ NoMemory) (λ status. OfBoth old new (FilesInTurn said status)) c.from_residual-in_err-text.ensures.1
    (λ s is. done_in_turn old new said s refl (λ read. subst IsReadFault is read) c.in_ok-input.ensures.table
    (checked_out old mid new said c.args.trace.now c.args.order.now refl refl c.read_input.ensures.keeps c.in_ok-input.ensures.read_out c.read_input.ensures.no_script
    c.read_order_file.ensures.others c.in-Ok.ensures.read_out))

pub returns-clause-outcome : goal.returns-clause-outcome
returns-clause-outcome g c =
    let table = c.in_ok-input.input.table in
    let weights = c.in_ok-input.input.weights in
    let report = c.in_ok-report.report in (
      refl,
      record {
        table = table;
        weights = weights;
        input = c.in_ok-input.ensures.input;
        line = c.in-Ok.line;
        order = order_before table.ids (g.H.Shelf.told c.args.shelf.now) (g.H.Shelf.told c.read_input.new.shelf) c.args.order.now c.in-Ok.line
            c.read_input.ensures.keeps c.in-Ok.ensures.order;
        report = report;
        served = subst (λ (ws : List ℕ). IsServedReport (instance_of table ws) table.ids c.in-Ok.line report) c.as_slice-weights.ensures
            (subst (λ (xs : List ℕ). IsServedReport (instance_of table c.as_slice-weights.result.now) table.ids xs report) c.as_slice.ensures c.in_ok-report.ensures.served);
        text_is = c.in_ok-text.ensures.text;
      },
    )

pub returns-clause-read_out : goal.returns-clause-read_out
returns-clause-read_out g c =
    checked_out (g.H.Shelf.told c.args.shelf.now) (g.H.Shelf.told c.read_input.new.shelf) (g.H.Shelf.told c.read_order_file.new.shelf)
    (said_with (serve_job c.args.trace.now c.args.order.now) c.args.options) c.args.trace.now c.args.order.now refl refl
    c.read_input.ensures.keeps c.in_ok-input.ensures.read_out c.read_input.ensures.no_script c.read_order_file.ensures.others c.in-Ok.ensures.read_out

pub returns-clause-good : goal.returns-clause-good
returns-clause-good g c =
    order_good (g.H.Shelf.faults c.args.shelf.now) (g.H.Shelf.faults c.read_input.new.shelf) (g.H.Shelf.faults c.read_order_file.new.shelf)
    (g.H.Shelf.told c.args.shelf.now) (g.H.Shelf.told c.read_input.new.shelf) (g.H.Shelf.told c.read_order_file.new.shelf)
    (said_with (serve_job c.args.trace.now c.args.order.now) c.args.options) c.args.order.now c.in_ok-input.input.table c.in_ok-input.input.weights refl refl
    c.read_input.ensures.keeps c.in_ok-input.ensures.input c.in_ok-input.ensures.table c.in-Ok.line c.in-Ok.ensures.order

pub report_of_order-served-requires-clause-all : goal.report_of_order-served-requires-clause-all
report_of_order-served-requires-clause-all g c = λ k lt.
    subst (λ (xs : List ℕ). Contains xs k) (sym (c.as_slice.ensures ∙ c.in-Ok.ensures.order.order_is))
    (c.orders_have_each_coflow_once.ensures.all c.in-Ok.ensures.order.text c.in_ok-input.input.table.ids k c.in_ok-input.ensures.input.ids
    c.in-Ok.ensures.order.is_text.passes lt)
