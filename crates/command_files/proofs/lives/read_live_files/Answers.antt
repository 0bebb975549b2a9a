use Rattle.std.proofs.Common.{refl, subst}
use Rattle.command_words.specs.Jobs.Job.{live_job}
use Rattle.command_words.specs.Words.{Said, said_with}
use Rattle.online_check.specs.AnyReport.{IsAnyBadAt}
use Rattle.command_files.specs.Ends.{IsReadFault}
use Rattle.command_files.specs.Shelves.{OfBoth}
use Rattle.command_files.specs.Turns.{FilesInTurn}
use Rattle.command_files.proofs.CauseFacts.{input_cause}
use Rattle.command_files.proofs.FileTurns.{input_in_turn}
use Rattle.command_files.proofs.LiveCauses.{from_script, from_units, script_good, scripted_out, shared_as, shared_given}
use Rattle.command_files.proofs.LiveTurns.{script_in_turn, units_in_turn}
use Rattle.command_files.proofs.ScriptFacts.{script_before}
use Rattle.command_files.proofs.ShelfFacts.{files_kept, passed_on}
use Rattle.command_files.proofs.lives.read_live_files.Goals as goal

pub returns-in_err-input-clause-cause : goal.returns-in_err-input-clause-cause
returns-in_err-input-clause-cause g c =
    passed_on c.from_residual.result c.in_err-input.field-0.0 _ c.from_residual.ensures.1
    (input_cause IsAnyBadAt (g.H.Shelf.faults c.args.shelf.now) (g.H.Shelf.faults c.read_input.new.shelf) (g.H.Shelf.told c.args.shelf.now) (g.H.Shelf.told c.read_input.new.shelf)
    (said_with (live_job c.args.trace.now c.args.script.now) c.args.options) c.in_err-input.field-0.0 c.in_err-input.ensures.cause)

pub returns-in_err-input-clause-in_turn : goal.returns-in_err-input-clause-in_turn
returns-in_err-input-clause-in_turn g c =
    let old = g.H.Shelf.told c.args.shelf.now in
    let new = g.H.Shelf.told c.read_input.new.shelf in
    let said : Said = said_with (live_job c.args.trace.now c.args.script.now) c.args.options in
    passed_on c.from_residual.result c.in_err-input.field-0.0 (λ status. OfBoth old new (FilesInTurn said status)) c.from_residual.ensures.1
    (input_in_turn old new said c.in_err-input.field-0.0 c.in_err-input.ensures.in_turn c.read_input.ensures.no_report c.read_input.ensures.no_script)

pub returns-in_err-share-clause-cause : goal.returns-in_err-share-clause-cause
returns-in_err-share-clause-cause g c =
    let said : Said = said_with (live_job c.args.trace.now c.args.script.now) c.args.options in
    passed_on c.from_residual-in_err-share.result c.in_err-share.field-0.0 _ c.from_residual-in_err-share.ensures.1
    (from_units (g.H.Shelf.told c.args.shelf.now) said c.in_ok-input.input.table c.in_ok-input.input.weights c.in_ok-input.ensures.input c.in_ok-input.ensures.table
    IsAnyBadAt (g.H.Shelf.faults c.args.shelf.now) (g.H.Shelf.faults c.read_input.new.shelf) (g.H.Shelf.told c.read_input.new.shelf)
    c.args.script.now _ c.in_err-share.field-0.0 refl
    c.in_err-share.ensures.limit.0 c.in_err-share.ensures.limit.1)

pub returns-in_err-share-clause-in_turn : goal.returns-in_err-share-clause-in_turn
returns-in_err-share-clause-in_turn g c =
    let old = g.H.Shelf.told c.args.shelf.now in
    let new = g.H.Shelf.told c.read_input.new.shelf in
    let said : Said = said_with (live_job c.args.trace.now c.args.script.now) c.args.options in
    passed_on c.from_residual-in_err-share.result c.in_err-share.field-0.0 (λ status. OfBoth old new (FilesInTurn said status)) c.from_residual-in_err-share.ensures.1
    (units_in_turn old new said c.in_err-share.field-0.0 (λ read. subst IsReadFault c.in_err-share.ensures.limit.0 read) c.in_ok-input.ensures.table
    c.in_ok-input.ensures.read_out c.read_input.ensures.no_report c.read_input.ensures.no_script)

pub returns-in_err-script-clause-cause : goal.returns-in_err-script-clause-cause
returns-in_err-script-clause-cause g c =
    let old = g.H.Shelf.told c.args.shelf.now in
    let mid = g.H.Shelf.told c.read_input.new.shelf in
    let said : Said = said_with (live_job c.args.trace.now c.args.script.now) c.args.options in
    passed_on c.from_residual-in_err-script.result c.in_err-script.field-0.0 _ c.from_residual-in_err-script.ensures.1
    (from_script IsAnyBadAt (g.H.Shelf.faults c.args.shelf.now) (g.H.Shelf.faults c.read_input.new.shelf) (g.H.Shelf.faults c.read_script_file.new.shelf)
    old mid (g.H.Shelf.told c.read_script_file.new.shelf) said c.args.script.now c.in_ok-input.input.table refl c.read_input.ensures.keeps
    (shared_as old said c.in_ok-input.input.table c.in_ok-input.input.weights c.in_ok-input.ensures.input c.in_ok-input.ensures.table c.in_ok-share.ensures.shared)
    c.in_err-script.field-0.0 c.read_input.ensures.later c.in_err-script.ensures.cause)

pub returns-in_err-script-clause-in_turn : goal.returns-in_err-script-clause-in_turn
returns-in_err-script-clause-in_turn g c =
    let old = g.H.Shelf.told c.args.shelf.now in
    let mid = g.H.Shelf.told c.read_input.new.shelf in
    let new = g.H.Shelf.told c.read_script_file.new.shelf in
    let said : Said = said_with (live_job c.args.trace.now c.args.script.now) c.args.options in
    passed_on c.from_residual-in_err-script.result c.in_err-script.field-0.0 (λ status. OfBoth old new (FilesInTurn said status)) c.from_residual-in_err-script.ensures.1
    (script_in_turn c.in_ok-input.input.table.ids old mid new said c.args.script.now c.in_err-script.field-0.0
    (g.H.Shelf.faults c.read_input.new.shelf) (g.H.Shelf.faults c.read_script_file.new.shelf) refl c.read_input.ensures.keeps
    (shared_given old said c.in_ok-input.input.table c.in_ok-input.input.weights c.in_ok-input.ensures.input c.in_ok-input.ensures.table c.in_ok-share.ensures.shared)
    c.in_ok-input.ensures.read_out c.read_input.ensures.no_report c.read_script_file.ensures.others c.in_err-script.ensures.cause)

pub returns-in_err-script-clause-keeps : goal.returns-in_err-script-clause-keeps
returns-in_err-script-clause-keeps g c = files_kept (g.H.Shelf.told c.args.shelf.now) (g.H.Shelf.told c.read_input.new.shelf) (g.H.Shelf.told c.read_script_file.new.shelf)
    c.read_input.ensures.keeps c.read_script_file.ensures.keeps

pub returns-clause-keeps : goal.returns-clause-keeps
returns-clause-keeps g c = files_kept (g.H.Shelf.told c.args.shelf.now) (g.H.Shelf.told c.read_input.new.shelf) (g.H.Shelf.told c.read_script_file.new.shelf)
    c.read_input.ensures.keeps c.read_script_file.ensures.keeps

pub returns-clause-script : goal.returns-clause-script
returns-clause-script g c =
    script_before c.in_ok-input.input.table.ids (g.H.Shelf.told c.args.shelf.now) (g.H.Shelf.told c.read_input.new.shelf) c.args.script.now c.in_ok-script.script
    c.read_input.ensures.keeps c.in_ok-script.ensures.script

pub returns-clause-read_out : goal.returns-clause-read_out
returns-clause-read_out g c =
    scripted_out (g.H.Shelf.told c.args.shelf.now) (g.H.Shelf.told c.read_input.new.shelf) (g.H.Shelf.told c.read_script_file.new.shelf)
    (said_with (live_job c.args.trace.now c.args.script.now) c.args.options) c.args.trace.now c.args.script.now refl refl
    c.read_input.ensures.keeps c.in_ok-input.ensures.read_out c.read_input.ensures.no_report c.read_script_file.ensures.others c.in_ok-script.ensures.read_out

pub returns-clause-good : goal.returns-clause-good
returns-clause-good g c =
    let old = g.H.Shelf.told c.args.shelf.now in
    let said : Said = said_with (live_job c.args.trace.now c.args.script.now) c.args.options in
    script_good old (g.H.Shelf.told c.read_input.new.shelf) said c.args.script.now c.in_ok-input.input.table c.in_ok-script.script refl c.read_input.ensures.keeps
    (shared_as old said c.in_ok-input.input.table c.in_ok-input.input.weights c.in_ok-input.ensures.input c.in_ok-input.ensures.table c.in_ok-share.ensures.shared)
    c.in_ok-script.ensures.script
