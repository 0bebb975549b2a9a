use Rattle.std.specs.Prelude.{option_map}
use Rattle.command_files.specs.Faults.{IsStatusOfTable}
use Rattle.command_files.proofs.InputFacts.{both_out, from_table, from_trace, from_weights, input_is, table_given}
use Rattle.command_files.proofs.ShelfFacts.{files_kept, passed_as, passed_on}
use Rattle.command_files.proofs.inputs.read_input.Goals as goal

pub returns-in_err-trace-clause-cause : goal.returns-in_err-trace-clause-cause
returns-in_err-trace-clause-cause g c =
    passed_on c.from_residual.result c.in_err-trace.field-0.0 _ c.from_residual.ensures.1
    (from_trace (g.H.Shelf.faults c.args.shelf.now) (g.H.Shelf.faults c.trace_of_file.new.shelf) (g.H.Shelf.told c.args.shelf.now) (g.H.Shelf.told c.trace_of_file.new.shelf)
    c.args.name.now (option_map (λ s. s.now) c.args.weights_name) c.args.unit.megabytes c.in_err-trace.field-0.0 c.in_err-trace.ensures.cause)

pub returns-in_err-weights-clause-cause : goal.returns-in_err-weights-clause-cause
returns-in_err-weights-clause-cause g c =
    passed_on c.from_residual-in_err-weights.result c.in_err-weights.field-0.0 _ c.from_residual-in_err-weights.ensures.1
    (from_weights (g.H.Shelf.faults c.args.shelf.now) (g.H.Shelf.faults c.trace_of_file.new.shelf) (g.H.Shelf.faults c.weights_of_file.new.shelf) (g.H.Shelf.told c.args.shelf.now)
    (g.H.Shelf.told c.trace_of_file.new.shelf) (g.H.Shelf.told c.weights_of_file.new.shelf)
    c.args.name.now _ c.args.unit.megabytes c.in_ok-trace.trace c.in_err-weights.field-0.0 c.in_ok-trace.ensures.later c.in_ok-trace.ensures.keeps c.in_ok-trace.ensures.trace
    c.in_err-weights.ensures.cause)

pub returns-in_err-table-clause-cause : goal.returns-in_err-table-clause-cause
returns-in_err-table-clause-cause g c =
    passed_as c.from_residual-in_err-table.result (IsStatusOfTable c.in_err-table.field-0.0) _ c.from_residual-in_err-table.ensures.1
    (λ s is. from_table (g.H.Shelf.faults c.args.shelf.now) (g.H.Shelf.faults c.weights_of_file.new.shelf) (g.H.Shelf.told c.args.shelf.now)
    (g.H.Shelf.told c.trace_of_file.new.shelf) (g.H.Shelf.told c.weights_of_file.new.shelf)
    c.args.name.now _ c.args.unit.megabytes c.in_ok-trace.trace c.in_ok-weights.weights c.in_err-table.field-0.0 s c.in_ok-trace.ensures.keeps c.in_ok-trace.ensures.trace
    c.in_ok-weights.ensures.weights c.in_err-table.ensures.cause is)

pub returns-clause-table : goal.returns-clause-table
returns-clause-table g c =
    table_given (g.H.Shelf.told c.args.shelf.now) c.args.name.now (option_map (λ s. s.now) c.args.weights_name) c.args.unit.megabytes c.in_ok-trace.trace c.in_ok-weights.weights
    c.in_ok-table.table
    c.in_ok-trace.ensures.trace
    (input_is (g.H.Shelf.told c.args.shelf.now) (g.H.Shelf.told c.trace_of_file.new.shelf) c.args.name.now (option_map (λ s. s.now) c.args.weights_name) c.args.unit.megabytes
    c.in_ok-trace.trace c.in_ok-weights.weights c.in_ok-table.table
    c.in_ok-trace.ensures.trace c.in_ok-trace.ensures.keeps c.in_ok-weights.ensures.weights c.in_ok-table.ensures.table c.in_ok-table.ensures.within_limits)
    c.in_ok-table.ensures.table c.in_ok-table.ensures.units

pub returns-clause-read_out : goal.returns-clause-read_out
returns-clause-read_out g c =
    both_out (g.H.Shelf.told c.args.shelf.now) (g.H.Shelf.told c.trace_of_file.new.shelf) (g.H.Shelf.told c.weights_of_file.new.shelf) c.args.name.now
    (option_map (λ s. s.now) c.args.weights_name)
    c.in_ok-trace.ensures.read_out c.in_ok-trace.ensures.keeps c.in_ok-trace.ensures.others c.in_ok-weights.ensures.others c.in_ok-weights.ensures.read_out

pub returns-in_err-table-clause-keeps : goal.returns-in_err-table-clause-keeps
returns-in_err-table-clause-keeps g c =
    files_kept (g.H.Shelf.told c.args.shelf.now) (g.H.Shelf.told c.trace_of_file.new.shelf) (g.H.Shelf.told c.weights_of_file.new.shelf) c.in_ok-trace.ensures.keeps
    c.in_ok-weights.ensures.keeps
