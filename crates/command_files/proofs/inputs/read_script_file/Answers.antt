use Rattle.std.proofs.Common.{◌≡◌}
use Rattle.workload.specs.Script.{script_of}
use Rattle.command_files.specs.Faults.{IsStatusOfScript}
use Rattle.command_files.proofs.ScriptFacts.{script_cause}
use Rattle.command_files.proofs.ShelfFacts.{passed_as}
use Rattle.command_files.proofs.inputs.read_script_file.Goals as goal

pub returns-in_err-script-clause-cause : goal.returns-in_err-script-clause-cause
returns-in_err-script-clause-cause g c =
    passed_as c.from_residual-in_err-script.result (IsStatusOfScript c.in_err-script.field-0.0) _ c.from_residual-in_err-script.ensures.1
    (λ s is. script_cause c.args.table.now.ids (g.H.Shelf.faults c.args.shelf.now) (g.H.Shelf.faults c.read_file.new.shelf) (g.H.Shelf.told c.args.shelf.now)
    (g.H.Shelf.told c.read_file.new.shelf) c.args.name.now c.in_ok-bytes.bytes.items c.deref.result.now
    (λ script. script ≡ script_of c.args.table.now.ids c.deref.result.now) c.in_err-script.field-0.0 s
    c.in_ok-bytes.ensures.bytes c.deref.ensures.value c.in_ok-bytes.ensures.short c.in_err-script.ensures is)
