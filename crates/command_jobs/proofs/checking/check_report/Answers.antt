use Rattle.std.proofs.Common.{◌≡◌, List, refl, subst, ℕ}
use Rattle.std.specs.Prelude.{slice_index}
use Rattle.command_words.specs.Jobs.Job.{check_job}
use Rattle.command_words.specs.Words.{Said, said_with}
use Rattle.command_files.proofs.ReportFacts.{any_report_before}
use Rattle.command_files.proofs.CauseFacts.{checked_out, from_report}
use Rattle.command_files.proofs.JobFacts.{from_input}
use Rattle.flow_table.specs.Table.{instance_of}
use Rattle.online_check.specs.Arrivals.{arrivals_in}
use Rattle.command_files.specs.declared.status.Status.{Status}
use Rattle.command_files.specs.declared.status.Status.TheVariants.{NoMemory}
use Rattle.command_files.specs.Ends.{IsReadFault}
use Rattle.command_files.specs.Shelves.{OfBoth}
use Rattle.online_check.specs.Judged.{IsJudged}
use Rattle.online_check.specs.AnyReport.{IsAnyBadAt}
use Rattle.command_files.specs.Turns.{FilesInTurn}
use Rattle.command_files.proofs.ShelfFacts.{files_kept, passed_as, passed_on}
use Rattle.command_files.proofs.FileTurns.{done_in_turn, report_in_turn, input_in_turn}
use Rattle.command_jobs.proofs.CheckFacts.{report_good}
use Rattle.command_jobs.proofs.checking.check_report.Goals as goal

pub returns-in_err-input-clause-cause : goal.returns-in_err-input-clause-cause
returns-in_err-input-clause-cause g c =
    passed_on c.from_residual.result c.in_err-input.field-0.0 _ c.from_residual.ensures.1
    (from_input (g.H.Shelf.faults c.args.shelf.now) (g.H.Shelf.faults c.read_input.new.shelf) (g.H.Shelf.told c.args.shelf.now) (g.H.Shelf.told c.read_input.new.shelf)
    (said_with (check_job c.args.trace.now c.args.report.now) c.args.options) c.in_err-input.field-0.0 c.in_err-input.ensures.cause)

pub returns-in_err-input-clause-in_turn : goal.returns-in_err-input-clause-in_turn
returns-in_err-input-clause-in_turn g c =
    let old = g.H.Shelf.told c.args.shelf.now in
    let new = g.H.Shelf.told c.read_input.new.shelf in
    let said : Said = said_with (check_job c.args.trace.now c.args.report.now) c.args.options in
    passed_on c.from_residual.result c.in_err-input.field-0.0 (λ status. OfBoth old new (FilesInTurn said status)) c.from_residual.ensures.1
    (input_in_turn old new said c.in_err-input.field-0.0 c.in_err-input.ensures.in_turn c.read_input.ensures.no_report c.read_input.ensures.no_script)

pub returns-in-Err-clause-keeps : goal.returns-in-Err-clause-keeps
returns-in-Err-clause-keeps g c = files_kept (g.H.Shelf.told c.args.shelf.now) (g.H.Shelf.told c.read_input.new.shelf) (g.H.Shelf.told c.read_any_report_file.new.shelf)
    c.read_input.ensures.keeps c.read_any_report_file.ensures.keeps

pub returns-clause-keeps : goal.returns-clause-keeps
returns-clause-keeps g c = files_kept (g.H.Shelf.told c.args.shelf.now) (g.H.Shelf.told c.read_input.new.shelf) (g.H.Shelf.told c.read_any_report_file.new.shelf)
    c.read_input.ensures.keeps c.read_any_report_file.ensures.keeps

pub returns-in-Err-clause-cause : goal.returns-in-Err-clause-cause
returns-in-Err-clause-cause g c =
    (from_report IsAnyBadAt (g.H.Shelf.faults c.args.shelf.now) (g.H.Shelf.faults c.read_input.new.shelf) (g.H.Shelf.faults c.read_any_report_file.new.shelf)
    (g.H.Shelf.told c.args.shelf.now) (g.H.Shelf.told c.read_input.new.shelf) (g.H.Shelf.told c.read_any_report_file.new.shelf)
    (said_with (check_job c.args.trace.now c.args.report.now) c.args.options) c.args.report.now
    c.in-Err.status
    refl refl c.read_input.ensures.later c.read_input.ensures.keeps c.in_ok-input.ensures.table c.in-Err.ensures.cause)

pub returns-in-Err-clause-in_turn : goal.returns-in-Err-clause-in_turn
returns-in-Err-clause-in_turn g c =
    let old = g.H.Shelf.told c.args.shelf.now in
    let mid = g.H.Shelf.told c.read_input.new.shelf in
    let new = g.H.Shelf.told c.read_any_report_file.new.shelf in
    let said : Said = said_with (check_job c.args.trace.now c.args.report.now) c.args.options in
    (report_in_turn IsAnyBadAt old mid new said c.args.report.now c.in-Err.status
    (g.H.Shelf.faults c.read_input.new.shelf) (g.H.Shelf.faults c.read_any_report_file.new.shelf)
    refl c.read_input.ensures.keeps c.in_ok-input.ensures.table c.in_ok-input.ensures.read_out c.read_input.ensures.no_script
    c.read_any_report_file.ensures.others c.in-Err.ensures.cause)

pub returns-in_err-judged-clause-in_turn : goal.returns-in_err-judged-clause-in_turn
returns-in_err-judged-clause-in_turn g c =
    let old = g.H.Shelf.told c.args.shelf.now in
    let mid = g.H.Shelf.told c.read_input.new.shelf in
    let new = g.H.Shelf.told c.read_any_report_file.new.shelf in
    let said : Said = said_with (check_job c.args.trace.now c.args.report.now) c.args.options in
    passed_as c.from_residual-in_err-judged.result (λ (s : Status). s ≡ NoMemory) (λ status. OfBoth old new (FilesInTurn said status)) c.from_residual-in_err-judged.ensures.1
    (λ s is. done_in_turn old new said s refl (λ read. subst IsReadFault is read) c.in_ok-input.ensures.table
    (checked_out old mid new said c.args.trace.now c.args.report.now refl refl c.read_input.ensures.keeps c.in_ok-input.ensures.read_out c.read_input.ensures.no_script
    c.read_any_report_file.ensures.others c.in-Ok.ensures.read_out))

pub returns-in_err-judged-clause-keeps : goal.returns-in_err-judged-clause-keeps
returns-in_err-judged-clause-keeps g c = files_kept (g.H.Shelf.told c.args.shelf.now) (g.H.Shelf.told c.read_input.new.shelf) (g.H.Shelf.told c.read_any_report_file.new.shelf)
    c.read_input.ensures.keeps c.read_any_report_file.ensures.keeps

pub returns-clause-outcome : goal.returns-clause-outcome
returns-clause-outcome g c =
    let table = c.in_ok-input.input.table in
    let report = c.in-Ok.report in
    let judged = c.in_ok-judged.judged in (
      judged.yes,
      c.status_of.ensures,
      record {
        table = table;
        weights = c.in_ok-input.input.weights;
        input = c.in_ok-input.ensures.input;
        report = report;
        report_is = any_report_before (g.H.Shelf.told c.args.shelf.now) (g.H.Shelf.told c.read_input.new.shelf) c.args.report.now report
            c.read_input.ensures.keeps c.in-Ok.ensures.report;
        judged = rw c.of_bytes.ensures (subst
            (λ (ws : List ℕ). IsJudged (instance_of table ws) (slice_index (arrivals_in table c.args.options.slot_ms)) table.ids report judged.yes judged.line.items)
            c.as_slice-weights.ensures c.in_ok-judged.ensures.judged);
      },
    )

pub returns-clause-read_out : goal.returns-clause-read_out
returns-clause-read_out g c =
    checked_out (g.H.Shelf.told c.args.shelf.now) (g.H.Shelf.told c.read_input.new.shelf) (g.H.Shelf.told c.read_any_report_file.new.shelf)
    (said_with (check_job c.args.trace.now c.args.report.now) c.args.options) c.args.trace.now c.args.report.now refl refl
    c.read_input.ensures.keeps c.in_ok-input.ensures.read_out c.read_input.ensures.no_script c.read_any_report_file.ensures.others c.in-Ok.ensures.read_out

pub returns-clause-good : goal.returns-clause-good
returns-clause-good g c =
    report_good (g.H.Shelf.told c.args.shelf.now) (g.H.Shelf.told c.read_input.new.shelf) (said_with (check_job c.args.trace.now c.args.report.now) c.args.options)
    c.args.trace.now c.args.report.now c.in-Ok.report refl c.read_input.ensures.keeps c.in_ok-input.ensures.table c.in-Ok.ensures.report
