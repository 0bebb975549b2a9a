use Rattle.std.proofs.Common.{◌≡◌, inl, inr, ap, refl, subst, sym, Err}
use Rattle.command_words.specs.Jobs.Job.{plan_job}
use Rattle.command_words.specs.Words.{Said, said_with}
use Rattle.command_files.specs.declared.status.Status.{Status}
use Rattle.command_files.specs.declared.status.Status.TheVariants.{NoMemory}
use Rattle.command_files.specs.Ends.{IsReadFault}
use Rattle.command_files.specs.JobCauses.{HasFilesCause}
use Rattle.command_jobs.specs.Serving.{MayHaveSent}
use Rattle.command_files.specs.Faults.{IsStatusOfPlan}
use Rattle.command_files.specs.Shelves.{OfBoth}
use Rattle.command_files.specs.Turns.{FilesInTurn}
use Rattle.command_files.proofs.CauseFacts.{input_out}
use Rattle.command_files.proofs.JobFacts.{from_input}
use Rattle.command_files.proofs.ShelfFacts.{passed_as, passed_on}
use Rattle.command_files.proofs.InputTurns.{counts_none}
use Rattle.command_files.proofs.FileTurns.{done_in_turn, input_in_turn}
use Rattle.command_jobs.proofs.WireFacts.{input_no_wire, may_send, past_anyhow, past_none, plan_cause, plan_reads}
use Rattle.command_jobs.proofs.planning.plan_trace.Goals as goal

pub returns-in_err-input-clause-cause : goal.returns-in_err-input-clause-cause
returns-in_err-input-clause-cause g c =
    passed_on c.from_residual.result c.in_err-input.field-0.0 _ c.from_residual.ensures.1
    (inl (from_input (g.H.Shelf.faults c.args.shelf.now) (g.H.Shelf.faults c.read_input.new.shelf) (g.H.Shelf.told c.args.shelf.now) (g.H.Shelf.told c.read_input.new.shelf)
    (said_with (plan_job c.args.trace.now) c.args.options) c.in_err-input.field-0.0 c.in_err-input.ensures.cause))

pub returns-in_err-input-clause-in_turn : goal.returns-in_err-input-clause-in_turn
returns-in_err-input-clause-in_turn g c =
    let old = g.H.Shelf.told c.args.shelf.now in
    let new = g.H.Shelf.told c.read_input.new.shelf in
    let said : Said = said_with (plan_job c.args.trace.now) c.args.options in
    passed_on c.from_residual.result c.in_err-input.field-0.0 (λ status. OfBoth old new (FilesInTurn said status)) c.from_residual.ensures.1
    (input_in_turn old new said c.in_err-input.field-0.0 c.in_err-input.ensures.in_turn c.read_input.ensures.no_report c.read_input.ensures.no_script)

pub returns-in_err-input-clause-read_out : goal.returns-in_err-input-clause-read_out
returns-in_err-input-clause-read_out g c =
    past_none c.from_residual.result c.in_err-input.field-0.0 _ c.from_residual.ensures.1
    (input_no_wire (g.H.Shelf.faults c.args.shelf.now) (g.H.Shelf.faults c.read_input.new.shelf) (g.H.Shelf.told c.args.shelf.now) (g.H.Shelf.told c.read_input.new.shelf)
    _ _ _ c.in_err-input.field-0.0 c.in_err-input.ensures.cause)

pub returns-in_err-input-clause-good : goal.returns-in_err-input-clause-good
returns-in_err-input-clause-good g c =
    past_none c.from_residual.result c.in_err-input.field-0.0 _ c.from_residual.ensures.1
    (input_no_wire (g.H.Shelf.faults c.args.shelf.now) (g.H.Shelf.faults c.read_input.new.shelf) (g.H.Shelf.told c.args.shelf.now) (g.H.Shelf.told c.read_input.new.shelf)
    _ _ _ c.in_err-input.field-0.0 c.in_err-input.ensures.cause)

pub returns-in_err-report-clause-cause : goal.returns-in_err-report-clause-cause
returns-in_err-report-clause-cause g c =
    plan_cause c.from_residual-in_err-report.result c.in_err-report.field-0.0 c.from_residual-in_err-report.ensures.1
    (HasFilesCause (g.H.Shelf.faults c.args.shelf.now) (g.H.Shelf.faults c.read_input.new.shelf) (g.H.Shelf.told c.args.shelf.now) (g.H.Shelf.told c.read_input.new.shelf)
    (said_with (plan_job c.args.trace.now) c.args.options)) _ tt
    (λ port is. (c.in_ok-input.input.table, c.in_ok-input.input.weights, c.in_ok-input.ensures.input, c.in_err-report.ensures.fault port (ap Err is)))

pub returns-in_err-report-clause-unsent : goal.returns-in_err-report-clause-unsent
returns-in_err-report-clause-unsent g c = may_send c.from_residual-in_err-report.result c.in_err-report.field-0.0 c.from_residual-in_err-report.ensures.1 _

pub returns-in_err-report-clause-read_out : goal.returns-in_err-report-clause-read_out
returns-in_err-report-clause-read_out g c =
    past_anyhow c.from_residual-in_err-report.result _
    (input_out (g.H.Shelf.told c.args.shelf.now) (g.H.Shelf.told c.read_input.new.shelf) (said_with (plan_job c.args.trace.now) c.args.options) refl refl
    c.in_ok-input.ensures.read_out c.read_input.ensures.no_report c.read_input.ensures.no_script)

pub returns-in_err-report-clause-good : goal.returns-in_err-report-clause-good
returns-in_err-report-clause-good g c = past_anyhow c.from_residual-in_err-report.result _ c.in_ok-input.ensures.table

pub returns-in_err-report-clause-in_turn : goal.returns-in_err-report-clause-in_turn
returns-in_err-report-clause-in_turn g c =
    let old = g.H.Shelf.told c.args.shelf.now in
    let new = g.H.Shelf.told c.read_input.new.shelf in
    let said : Said = said_with (plan_job c.args.trace.now) c.args.options in
    passed_as c.from_residual-in_err-report.result (IsStatusOfPlan c.in_err-report.field-0.0) (λ status. OfBoth old new (FilesInTurn said status))
    c.from_residual-in_err-report.ensures.1
    (λ s is. done_in_turn old new said s refl (plan_reads c.in_err-report.field-0.0 s is) c.in_ok-input.ensures.table
    (input_out old new said refl refl c.in_ok-input.ensures.read_out c.read_input.ensures.no_report c.read_input.ensures.no_script))

pub returns-in_err-report-clause-counts : goal.returns-in_err-report-clause-counts
returns-in_err-report-clause-counts g c =
    counts_none (g.H.Shelf.faults c.args.shelf.now) (g.H.Shelf.faults c.read_input.new.shelf) c.from_residual-in_err-report.result (IsStatusOfPlan c.in_err-report.field-0.0)
    c.from_residual-in_err-report.ensures.1 (plan_reads c.in_err-report.field-0.0) c.in_ok-input.ensures.counts

pub returns-in_err-report-clause-sent : goal.returns-in_err-report-clause-sent
returns-in_err-report-clause-sent g c = inr (c.in_ok-input.input.table, c.in_ok-input.input.weights, c.in_ok-input.ensures.input, c.serve-served.ensures.sent)

pub returns-in_err-text-clause-sent : goal.returns-in_err-text-clause-sent
returns-in_err-text-clause-sent g c = inr (c.in_ok-input.input.table, c.in_ok-input.input.weights, c.in_ok-input.ensures.input, c.serve-served.ensures.sent)

pub returns-clause-sent : goal.returns-clause-sent
returns-clause-sent g c = inr (c.in_ok-input.input.table, c.in_ok-input.input.weights, c.in_ok-input.ensures.input, c.serve-served.ensures.sent)

pub returns-clause-outcome : goal.returns-clause-outcome
returns-clause-outcome g c = (
  refl,
  record {
    table = c.in_ok-input.input.table;
    weights = c.in_ok-input.input.weights;
    input = c.in_ok-input.ensures.input;
    report = c.in_ok-report.report;
    planned = c.in_ok-report.ensures.plan.0;
    sent = c.in_ok-report.ensures.plan.1;
    text_is = c.in_ok-text.ensures.text;
  },
)

pub returns-in_err-text-clause-read_out : goal.returns-in_err-text-clause-read_out
returns-in_err-text-clause-read_out g c =
    past_anyhow c.from_residual-in_err-text.result _
    (input_out (g.H.Shelf.told c.args.shelf.now) (g.H.Shelf.told c.read_input.new.shelf) (said_with (plan_job c.args.trace.now) c.args.options) refl refl
    c.in_ok-input.ensures.read_out c.read_input.ensures.no_report c.read_input.ensures.no_script)

pub returns-in_err-text-clause-good : goal.returns-in_err-text-clause-good
returns-in_err-text-clause-good g c = past_anyhow c.from_residual-in_err-text.result _ c.in_ok-input.ensures.table

pub returns-in_err-text-clause-unsent : goal.returns-in_err-text-clause-unsent
returns-in_err-text-clause-unsent g c =
    passed_as c.from_residual-in_err-text.result (λ (s : Status). s ≡ NoMemory) _ c.from_residual-in_err-text.ensures.1
    (λ s is none. absurd (none (subst MayHaveSent (sym is) tt)))

pub returns-in_err-text-clause-in_turn : goal.returns-in_err-text-clause-in_turn
returns-in_err-text-clause-in_turn g c =
    let old = g.H.Shelf.told c.args.shelf.now in
    let new = g.H.Shelf.told c.read_input.new.shelf in
    let said : Said = said_with (plan_job c.args.trace.now) c.args.options in
    passed_as c.from_residual-in_err-text.result (λ (s : Status). s ≡ NoMemory) (λ status. OfBoth old new (FilesInTurn said status)) c.from_residual-in_err-text.ensures.1
    (λ s is. done_in_turn old new said s refl (λ read. subst IsReadFault is read) c.in_ok-input.ensures.table
    (input_out old new said refl refl c.in_ok-input.ensures.read_out c.read_input.ensures.no_report c.read_input.ensures.no_script))

pub returns-in_err-text-clause-counts : goal.returns-in_err-text-clause-counts
returns-in_err-text-clause-counts g c =
    counts_none (g.H.Shelf.faults c.args.shelf.now) (g.H.Shelf.faults c.read_input.new.shelf) c.from_residual-in_err-text.result (λ (s : Status). s ≡ NoMemory)
    c.from_residual-in_err-text.ensures.1 (λ s is read. subst IsReadFault is read) c.in_ok-input.ensures.counts

pub returns-clause-read_out : goal.returns-clause-read_out
returns-clause-read_out g c =
    input_out (g.H.Shelf.told c.args.shelf.now) (g.H.Shelf.told c.read_input.new.shelf) (said_with (plan_job c.args.trace.now) c.args.options) refl refl
    c.in_ok-input.ensures.read_out c.read_input.ensures.no_report c.read_input.ensures.no_script

pub returns-clause-good : goal.returns-clause-good
returns-clause-good g c = c.in_ok-input.ensures.table
