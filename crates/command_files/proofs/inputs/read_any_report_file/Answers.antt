use Rattle.command_files.specs.Faults.{IsStatusOfReport}
use Rattle.command_files.proofs.ReportFacts.{any_report_cause}
use Rattle.command_files.proofs.ShelfFacts.{passed_as}
use Rattle.command_files.proofs.inputs.read_any_report_file.Goals as goal

pub returns-in_err-report-clause-cause : goal.returns-in_err-report-clause-cause
returns-in_err-report-clause-cause g c =
    passed_as c.from_residual-in_err-report.result (IsStatusOfReport c.in_err-report.field-0.0) _ c.from_residual-in_err-report.ensures.1
    (λ s is. any_report_cause (g.H.Shelf.faults c.args.shelf.now) (g.H.Shelf.faults c.read_file.new.shelf) (g.H.Shelf.told c.args.shelf.now) (g.H.Shelf.told c.read_file.new.shelf)
    c.args.name.now c.in_ok-bytes.bytes.items c.deref.result.now c.in_err-report.field-0.0 s
    c.in_ok-bytes.ensures.bytes c.deref.ensures.value c.in_ok-bytes.ensures.short c.in_err-report.ensures.report is)
