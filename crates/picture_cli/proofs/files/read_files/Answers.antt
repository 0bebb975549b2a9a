use Rattle.std.proofs.Common.{refl}
use Rattle.online_check.specs.AnyReport.{IsAnyBadAt, IsAnyText}
use Rattle.command_files.proofs.CauseFacts.{checked_out, from_report, input_cause, text_good}
use Rattle.command_files.proofs.ReportFacts.{any_report_before}
use Rattle.command_files.proofs.ShelfFacts.{files_kept, passed_on}
use Rattle.command_files.proofs.InputTurns.{counts_on}
use Rattle.command_files.proofs.FileTurns.{input_in_turn, report_in_turn}
use Rattle.picture_cli.specs.Picture.{check_of}
use Rattle.picture_cli.specs.Words.{report_by}
use Rattle.picture_cli.proofs.files.read_files.Goals as goal

pub returns-in_err-input-clause-cause : goal.returns-in_err-input-clause-cause
returns-in_err-input-clause-cause g c =
    passed_on c.from_residual.result c.in_err-input.field-0.0 _ c.from_residual.ensures.1
    (input_cause IsAnyBadAt (g.H.Shelf.faults c.args.shelf.now) (g.H.Shelf.faults c.read_input.new.shelf) (g.H.Shelf.told c.args.shelf.now) (g.H.Shelf.told c.read_input.new.shelf)
    (check_of (report_by c.args.words)) c.in_err-input.field-0.0 c.in_err-input.ensures.cause)

pub returns-in_err-input-clause-in_turn : goal.returns-in_err-input-clause-in_turn
returns-in_err-input-clause-in_turn g c =
    passed_on c.from_residual.result c.in_err-input.field-0.0 _ c.from_residual.ensures.1
    (input_in_turn (g.H.Shelf.told c.args.shelf.now) (g.H.Shelf.told c.read_input.new.shelf) (check_of (report_by c.args.words)) c.in_err-input.field-0.0
    c.in_err-input.ensures.in_turn c.read_input.ensures.no_report c.read_input.ensures.no_script)

pub returns-in_err-report-clause-cause : goal.returns-in_err-report-clause-cause
returns-in_err-report-clause-cause g c =
    passed_on c.from_residual-in_err-report.result c.in_err-report.field-0.0 _ c.from_residual-in_err-report.ensures.1
    (from_report IsAnyBadAt (g.H.Shelf.faults c.args.shelf.now) (g.H.Shelf.faults c.read_input.new.shelf) (g.H.Shelf.faults c.read_any_report_file.new.shelf)
    (g.H.Shelf.told c.args.shelf.now) (g.H.Shelf.told c.read_input.new.shelf) (g.H.Shelf.told c.read_any_report_file.new.shelf) (check_of (report_by c.args.words))
    c.args.words.report.now c.in_err-report.field-0.0
    refl refl c.read_input.ensures.later c.read_input.ensures.keeps c.in_ok-input.ensures.table c.in_err-report.ensures.cause)

pub returns-in_err-report-clause-in_turn : goal.returns-in_err-report-clause-in_turn
returns-in_err-report-clause-in_turn g c =
    passed_on c.from_residual-in_err-report.result c.in_err-report.field-0.0 _ c.from_residual-in_err-report.ensures.1
    (report_in_turn IsAnyBadAt (g.H.Shelf.told c.args.shelf.now) (g.H.Shelf.told c.read_input.new.shelf) (g.H.Shelf.told c.read_any_report_file.new.shelf)
    (check_of (report_by c.args.words))
    c.args.words.report.now c.in_err-report.field-0.0 (g.H.Shelf.faults c.read_input.new.shelf) (g.H.Shelf.faults c.read_any_report_file.new.shelf)
    refl c.read_input.ensures.keeps c.in_ok-input.ensures.table c.in_ok-input.ensures.read_out c.read_input.ensures.no_script
    c.read_any_report_file.ensures.others c.in_err-report.ensures.cause)

pub returns-in_err-report-clause-counts : goal.returns-in_err-report-clause-counts
returns-in_err-report-clause-counts g c =
    counts_on (g.H.Shelf.faults c.args.shelf.now) (g.H.Shelf.faults c.read_input.new.shelf) (g.H.Shelf.faults c.read_any_report_file.new.shelf) c.from_residual-in_err-report.result
    c.in_err-report.field-0.0 c.from_residual-in_err-report.ensures.1 c.in_ok-input.ensures.counts c.in_err-report.ensures.counts

pub returns-in_err-report-clause-keeps : goal.returns-in_err-report-clause-keeps
returns-in_err-report-clause-keeps g c = files_kept (g.H.Shelf.told c.args.shelf.now) (g.H.Shelf.told c.read_input.new.shelf) (g.H.Shelf.told c.read_any_report_file.new.shelf)
    c.read_input.ensures.keeps c.read_any_report_file.ensures.keeps

pub returns-clause-keeps : goal.returns-clause-keeps
returns-clause-keeps g c = files_kept (g.H.Shelf.told c.args.shelf.now) (g.H.Shelf.told c.read_input.new.shelf) (g.H.Shelf.told c.read_any_report_file.new.shelf)
    c.read_input.ensures.keeps c.read_any_report_file.ensures.keeps

pub returns-clause-report : goal.returns-clause-report
returns-clause-report g c =
    any_report_before (g.H.Shelf.told c.args.shelf.now) (g.H.Shelf.told c.read_input.new.shelf) c.args.words.report.now c.in_ok-report.report
    c.read_input.ensures.keeps c.in_ok-report.ensures.report

pub returns-clause-good : goal.returns-clause-good
returns-clause-good g c =
    text_good IsAnyText (g.H.Shelf.told c.args.shelf.now) (g.H.Shelf.told c.read_input.new.shelf) (check_of (report_by c.args.words)) c.args.words.report.now
    c.in_ok-report.report refl
    c.read_input.ensures.keeps c.in_ok-input.ensures.table c.in_ok-report.ensures.report.reads

pub returns-clause-read_out : goal.returns-clause-read_out
returns-clause-read_out g c =
    checked_out (g.H.Shelf.told c.args.shelf.now) (g.H.Shelf.told c.read_input.new.shelf) (g.H.Shelf.told c.read_any_report_file.new.shelf) (check_of (report_by c.args.words))
    c.args.words.trace.now c.args.words.report.now refl refl
    c.read_input.ensures.keeps c.in_ok-input.ensures.read_out c.read_input.ensures.no_script c.read_any_report_file.ensures.others c.in_ok-report.ensures.read_out
