use Rattle.std.proofs.Common.{◌≡◌, ◌∙◌, refl, subst}
use Rattle.command_words.specs.Jobs.Job.{audit_job}
use Rattle.command_words.specs.Words.{Said, said_with}
use Rattle.live_text.specs.Reading.{IsBadAt, IsTextOf}
use Rattle.command_files.specs.declared.status.Status.{Status}
use Rattle.command_files.specs.declared.status.Status.TheVariants.{NoMemory}
use Rattle.command_jobs.specs.Audit.{is_yes}
use Rattle.command_files.specs.Ends.{IsReadFault}
use Rattle.command_files.specs.Shelves.{OfBoth}
use Rattle.command_files.specs.Turns.{FilesInTurn}
use Rattle.command_files.proofs.ReportFacts.{journal_before}
use Rattle.command_files.proofs.CauseFacts.{checked_out, from_report, text_good}
use Rattle.command_files.proofs.JobFacts.{from_input}
use Rattle.command_files.proofs.ShelfFacts.{files_kept, passed_as, passed_on}
use Rattle.command_files.proofs.FileTurns.{done_in_turn, report_in_turn, input_in_turn}
use Rattle.command_jobs.proofs.auditing.audit_journal.Goals as goal

pub returns-in_err-input-clause-cause : goal.returns-in_err-input-clause-cause
returns-in_err-input-clause-cause g c =
    passed_on c.from_residual.result c.in_err-input.field-0.0 _ c.from_residual.ensures.1
    (from_input (g.H.Shelf.faults c.args.shelf.now) (g.H.Shelf.faults c.read_input.new.shelf) (g.H.Shelf.told c.args.shelf.now) (g.H.Shelf.told c.read_input.new.shelf)
    (said_with (audit_job c.args.trace.now c.args.journal.now) c.args.options) c.in_err-input.field-0.0 c.in_err-input.ensures.cause)

pub returns-in_err-input-clause-in_turn : goal.returns-in_err-input-clause-in_turn
returns-in_err-input-clause-in_turn g c =
    let old = g.H.Shelf.told c.args.shelf.now in
    let new = g.H.Shelf.told c.read_input.new.shelf in
    let said : Said = said_with (audit_job c.args.trace.now c.args.journal.now) c.args.options in
    passed_on c.from_residual.result c.in_err-input.field-0.0 (λ status. OfBoth old new (FilesInTurn said status)) c.from_residual.ensures.1
    (input_in_turn old new said c.in_err-input.field-0.0 c.in_err-input.ensures.in_turn c.read_input.ensures.no_report c.read_input.ensures.no_script)

pub returns-in-Err-clause-keeps : goal.returns-in-Err-clause-keeps
returns-in-Err-clause-keeps g c = files_kept (g.H.Shelf.told c.args.shelf.now) (g.H.Shelf.told c.read_input.new.shelf) (g.H.Shelf.told c.read_journal_file.new.shelf)
    c.read_input.ensures.keeps c.read_journal_file.ensures.keeps

pub returns-in_err-verdict-clause-keeps : goal.returns-in_err-verdict-clause-keeps
returns-in_err-verdict-clause-keeps g c = files_kept (g.H.Shelf.told c.args.shelf.now) (g.H.Shelf.told c.read_input.new.shelf) (g.H.Shelf.told c.read_journal_file.new.shelf)
    c.read_input.ensures.keeps c.read_journal_file.ensures.keeps

pub returns-in_err-text-clause-keeps : goal.returns-in_err-text-clause-keeps
returns-in_err-text-clause-keeps g c = files_kept (g.H.Shelf.told c.args.shelf.now) (g.H.Shelf.told c.read_input.new.shelf) (g.H.Shelf.told c.read_journal_file.new.shelf)
    c.read_input.ensures.keeps c.read_journal_file.ensures.keeps

pub returns-clause-keeps : goal.returns-clause-keeps
returns-clause-keeps g c = files_kept (g.H.Shelf.told c.args.shelf.now) (g.H.Shelf.told c.read_input.new.shelf) (g.H.Shelf.told c.read_journal_file.new.shelf)
    c.read_input.ensures.keeps c.read_journal_file.ensures.keeps

pub returns-in-Err-clause-cause : goal.returns-in-Err-clause-cause
returns-in-Err-clause-cause g c =
    (from_report IsBadAt (g.H.Shelf.faults c.args.shelf.now) (g.H.Shelf.faults c.read_input.new.shelf) (g.H.Shelf.faults c.read_journal_file.new.shelf)
    (g.H.Shelf.told c.args.shelf.now) (g.H.Shelf.told c.read_input.new.shelf) (g.H.Shelf.told c.read_journal_file.new.shelf)
    (said_with (audit_job c.args.trace.now c.args.journal.now) c.args.options) c.args.journal.now
    c.in-Err.status
    refl refl c.read_input.ensures.later c.read_input.ensures.keeps c.in_ok-input.ensures.table c.in-Err.ensures.cause)

pub returns-in-Err-clause-in_turn : goal.returns-in-Err-clause-in_turn
returns-in-Err-clause-in_turn g c =
    let old = g.H.Shelf.told c.args.shelf.now in
    let mid = g.H.Shelf.told c.read_input.new.shelf in
    let new = g.H.Shelf.told c.read_journal_file.new.shelf in
    let said : Said = said_with (audit_job c.args.trace.now c.args.journal.now) c.args.options in
    (report_in_turn IsBadAt old mid new said c.args.journal.now c.in-Err.status
    (g.H.Shelf.faults c.read_input.new.shelf) (g.H.Shelf.faults c.read_journal_file.new.shelf)
    refl c.read_input.ensures.keeps c.in_ok-input.ensures.table c.in_ok-input.ensures.read_out c.read_input.ensures.no_script
    c.read_journal_file.ensures.others c.in-Err.ensures.cause)

pub returns-in_err-verdict-clause-in_turn : goal.returns-in_err-verdict-clause-in_turn
returns-in_err-verdict-clause-in_turn g c =
    let old = g.H.Shelf.told c.args.shelf.now in
    let mid = g.H.Shelf.told c.read_input.new.shelf in
    let new = g.H.Shelf.told c.read_journal_file.new.shelf in
    let said : Said = said_with (audit_job c.args.trace.now c.args.journal.now) c.args.options in
    passed_as c.from_residual-in_err-verdict.result (λ (s : Status). s ≡ NoMemory) (λ status. OfBoth old new (FilesInTurn said status)) c.from_residual-in_err-verdict.ensures.1
    (λ s is. done_in_turn old new said s refl (λ read. subst IsReadFault is read) c.in_ok-input.ensures.table
    (checked_out old mid new said c.args.trace.now c.args.journal.now refl refl c.read_input.ensures.keeps c.in_ok-input.ensures.read_out c.read_input.ensures.no_script
    c.read_journal_file.ensures.others c.in-Ok.ensures.read_out))

pub returns-in_err-text-clause-in_turn : goal.returns-in_err-text-clause-in_turn
returns-in_err-text-clause-in_turn g c =
    let old = g.H.Shelf.told c.args.shelf.now in
    let mid = g.H.Shelf.told c.read_input.new.shelf in
    let new = g.H.Shelf.told c.read_journal_file.new.shelf in
    let said : Said = said_with (audit_job c.args.trace.now c.args.journal.now) c.args.options in
    passed_as c.from_residual-in_err-text.result (λ (s : Status). s ≡ NoMemory) (λ status. OfBoth old new (FilesInTurn said status)) c.from_residual-in_err-text.ensures.1
    (λ s is. done_in_turn old new said s refl (λ read. subst IsReadFault is read) c.in_ok-input.ensures.table
    (checked_out old mid new said c.args.trace.now c.args.journal.now refl refl c.read_input.ensures.keeps c.in_ok-input.ensures.read_out c.read_input.ensures.no_script
    c.read_journal_file.ensures.others c.in-Ok.ensures.read_out))

pub returns-clause-outcome : goal.returns-clause-outcome
returns-clause-outcome g c = (
  is_yes c.in_ok-verdict.verdict,
  c.status_of.ensures,
  record {
    table = c.in_ok-input.input.table;
    weights = c.in_ok-input.input.weights;
    input = c.in_ok-input.ensures.input;
    live = c.in-Ok.live;
    live_is = journal_before (g.H.Shelf.told c.args.shelf.now) (g.H.Shelf.told c.read_input.new.shelf) c.args.journal.now c.in-Ok.live
        c.read_input.ensures.keeps c.in-Ok.ensures.journal;
    verdict = c.in_ok-verdict.verdict;
    audited = c.in_ok-verdict.ensures.audit;
    yes_is = refl;
    text_is = c.of_bytes.ensures ∙ c.in_ok-text.ensures;
  },
)

pub returns-clause-read_out : goal.returns-clause-read_out
returns-clause-read_out g c =
    checked_out (g.H.Shelf.told c.args.shelf.now) (g.H.Shelf.told c.read_input.new.shelf) (g.H.Shelf.told c.read_journal_file.new.shelf)
    (said_with (audit_job c.args.trace.now c.args.journal.now) c.args.options) c.args.trace.now c.args.journal.now refl refl
    c.read_input.ensures.keeps c.in_ok-input.ensures.read_out c.read_input.ensures.no_script c.read_journal_file.ensures.others c.in-Ok.ensures.read_out

pub returns-clause-good : goal.returns-clause-good
returns-clause-good g c =
    text_good IsTextOf (g.H.Shelf.told c.args.shelf.now) (g.H.Shelf.told c.read_input.new.shelf) (said_with (audit_job c.args.trace.now c.args.journal.now) c.args.options)
    c.args.journal.now c.in-Ok.live refl c.read_input.ensures.keeps c.in_ok-input.ensures.table c.in-Ok.ensures.journal.reads
