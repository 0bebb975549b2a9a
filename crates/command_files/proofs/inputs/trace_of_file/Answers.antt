use Rattle.std.proofs.Common.{◌≡◌}
use Rattle.trace_reader.specs.Trace.{trace_of}
use Rattle.command_files.specs.Faults.{IsStatusOfTrace}
use Rattle.command_files.proofs.ShelfFacts.{passed_as}
use Rattle.command_files.proofs.TraceFacts.{trace_cause}
use Rattle.command_files.proofs.inputs.trace_of_file.Goals as goal

pub returns-in_err-trace-clause-cause : goal.returns-in_err-trace-clause-cause
returns-in_err-trace-clause-cause g c =
    passed_as c.from_residual-in_err-trace.result (IsStatusOfTrace c.in_err-trace.field-0.0) _ c.from_residual-in_err-trace.ensures.1
    (λ s is. trace_cause (g.H.Shelf.faults c.args.shelf.now) (g.H.Shelf.faults c.read_file.new.shelf) (g.H.Shelf.told c.args.shelf.now) (g.H.Shelf.told c.read_file.new.shelf)
    c.args.name.now c.in_ok-bytes.bytes.items c.deref.result.now (λ t. t ≡ trace_of c.deref.result.now) c.in_err-trace.field-0.0 s
    c.in_ok-bytes.ensures.bytes c.deref.ensures.value c.in_ok-bytes.ensures.short c.in_err-trace.ensures.answer is)
