use Rattle.std.proofs.Common.{Err, ap, inl, inr, refl, ℕ}
use Rattle.command_words.specs.Jobs.Job.{online_job}
use Rattle.command_words.specs.Words.{Said, said_with}
use Rattle.command_files.proofs.ShelfFacts.{passed_on}
use Rattle.command_files.specs.JobCauses.{HasFilesCause}
use Rattle.command_files.proofs.JobFacts.{from_input}
use Rattle.command_jobs.proofs.OnlineFacts.{online_cause, online_may_send, online_reads, publishes_few, publishes_more}
use Rattle.command_files.specs.Shelves.{OfBoth}
use Rattle.command_files.specs.Turns.{FilesInTurn}
use Rattle.command_files.proofs.FileTurns.{done_in_turn, input_in_turn}
use Rattle.command_files.proofs.CauseFacts.{input_out}
use Rattle.command_files.proofs.InputTurns.{counts_none}
use Rattle.command_jobs.specs.Online.{IsStatusOfOnline}
use Rattle.command_jobs.proofs.WireFacts.{input_no_wire, past_none}
use Rattle.command_jobs.proofs.onlining.run_online.Goals as goal

pub returns-in_err-input-clause-cause : goal.returns-in_err-input-clause-cause
returns-in_err-input-clause-cause g c =
    passed_on c.from_residual.result c.in_err-input.field-0.0 _ c.from_residual.ensures.1
    (inl (from_input (g.H.Shelf.faults c.args.shelf.now) (g.H.Shelf.faults c.read_input.new.shelf) (g.H.Shelf.told c.args.shelf.now) (g.H.Shelf.told c.read_input.new.shelf)
    (said_with (online_job c.args.trace.now) c.args.options) c.in_err-input.field-0.0 c.in_err-input.ensures.cause))

pub returns-in_err-input-clause-in_turn : goal.returns-in_err-input-clause-in_turn
returns-in_err-input-clause-in_turn g c =
    let old = g.H.Shelf.told c.args.shelf.now in
    let new = g.H.Shelf.told c.read_input.new.shelf in
    let said : Said = said_with (online_job c.args.trace.now) c.args.options in
    passed_on c.from_residual.result c.in_err-input.field-0.0 (λ status. OfBoth old new (FilesInTurn said status)) c.from_residual.ensures.1
    (input_in_turn old new said c.in_err-input.field-0.0 c.in_err-input.ensures.in_turn c.read_input.ensures.no_report c.read_input.ensures.no_script)

pub returns-in-Ok-clause-few : goal.returns-in-Ok-clause-few
returns-in-Ok-clause-few g c =
    publishes_few (g.H.Shelf.told c.args.shelf.now) (said_with (online_job c.args.trace.now) c.args.options) c.in_ok-input.input.table c.in_ok-input.input.weights
    c.in_ok-input.ensures.input c.in-Ok.ensures.text.0.few

pub returns-in-Err-clause-cause : goal.returns-in-Err-clause-cause
returns-in-Err-clause-cause g c =
    online_cause c.in-Err.fault c.status_of.result
    (HasFilesCause (g.H.Shelf.faults c.args.shelf.now) (g.H.Shelf.faults c.read_input.new.shelf) (g.H.Shelf.told c.args.shelf.now) (g.H.Shelf.told c.read_input.new.shelf)
    (said_with (online_job c.args.trace.now) c.args.options)) _ _ c.status_of.ensures tt
    (λ port is. (
      c.in_ok-input.input.table,
      c.in_ok-input.input.weights,
      c.in_ok-input.ensures.input,
      (c.in-Err.ensures.fault port (ap Err is), c.in-Err.ensures.stops port (ap Err is)),
    ))
    (λ count is. publishes_more (g.H.Shelf.told c.args.shelf.now) (said_with (online_job c.args.trace.now) c.args.options) c.in_ok-input.input.table
    c.in_ok-input.input.weights c.in_ok-input.ensures.input count c.in_ok-input.ensures.table (c.in-Err.ensures.too_many count (ap Err is)))

pub returns-in-Ok-clause-outcome : goal.returns-in-Ok-clause-outcome
returns-in-Ok-clause-outcome g c = (
  refl,
  record {
    table = c.in_ok-input.input.table;
    weights = c.in_ok-input.input.weights;
    input = c.in_ok-input.ensures.input;
    tells = c.in-Ok.ensures.text.0;
    sent = c.in-Ok.ensures.text.1;
  },
)

pub returns-in-Ok-clause-sent : goal.returns-in-Ok-clause-sent
returns-in-Ok-clause-sent g c = inr (c.in_ok-input.input.table, c.in_ok-input.input.weights, c.in_ok-input.ensures.input, c.serve_run-ran.ensures.sent)

pub returns-in-Err-clause-sent : goal.returns-in-Err-clause-sent
returns-in-Err-clause-sent g c = inr (c.in_ok-input.input.table, c.in_ok-input.input.weights, c.in_ok-input.ensures.input, c.serve_run-ran.ensures.sent)

pub returns-in_err-input-clause-read_out : goal.returns-in_err-input-clause-read_out
returns-in_err-input-clause-read_out g c =
    past_none c.from_residual.result c.in_err-input.field-0.0 _ c.from_residual.ensures.1
    (input_no_wire (g.H.Shelf.faults c.args.shelf.now) (g.H.Shelf.faults c.read_input.new.shelf) (g.H.Shelf.told c.args.shelf.now) (g.H.Shelf.told c.read_input.new.shelf)
    _ _ _ c.in_err-input.field-0.0 c.in_err-input.ensures.cause)

pub returns-in_err-input-clause-good : goal.returns-in_err-input-clause-good
returns-in_err-input-clause-good g c =
    past_none c.from_residual.result c.in_err-input.field-0.0 _ c.from_residual.ensures.1
    (input_no_wire (g.H.Shelf.faults c.args.shelf.now) (g.H.Shelf.faults c.read_input.new.shelf) (g.H.Shelf.told c.args.shelf.now) (g.H.Shelf.told c.read_input.new.shelf)
    _ _ _ c.in_err-input.field-0.0 c.in_err-input.ensures.cause)

pub returns-in-Ok-clause-read_out : goal.returns-in-Ok-clause-read_out
returns-in-Ok-clause-read_out g c =
    input_out (g.H.Shelf.told c.args.shelf.now) (g.H.Shelf.told c.read_input.new.shelf) (said_with (online_job c.args.trace.now) c.args.options) refl refl
    c.in_ok-input.ensures.read_out c.read_input.ensures.no_report c.read_input.ensures.no_script

pub returns-in-Ok-clause-good : goal.returns-in-Ok-clause-good
returns-in-Ok-clause-good g c = c.in_ok-input.ensures.table

pub returns-in-Err-clause-read_out : goal.returns-in-Err-clause-read_out
returns-in-Err-clause-read_out g c = λ wire.
    input_out (g.H.Shelf.told c.args.shelf.now) (g.H.Shelf.told c.read_input.new.shelf) (said_with (online_job c.args.trace.now) c.args.options) refl refl
    c.in_ok-input.ensures.read_out c.read_input.ensures.no_report c.read_input.ensures.no_script

pub returns-in-Err-clause-good : goal.returns-in-Err-clause-good
returns-in-Err-clause-good g c = λ wire. c.in_ok-input.ensures.table

pub returns-in-Err-clause-unsent : goal.returns-in-Err-clause-unsent
returns-in-Err-clause-unsent g c = λ none. absurd (none (online_may_send c.in-Err.fault c.status_of.result c.status_of.ensures))

pub returns-in-Err-clause-in_turn : goal.returns-in-Err-clause-in_turn
returns-in-Err-clause-in_turn g c =
    done_in_turn (g.H.Shelf.told c.args.shelf.now) (g.H.Shelf.told c.read_input.new.shelf) (said_with (online_job c.args.trace.now) c.args.options) c.status_of.result refl
    (online_reads c.in-Err.fault c.status_of.result c.status_of.ensures) c.in_ok-input.ensures.table
    (input_out (g.H.Shelf.told c.args.shelf.now) (g.H.Shelf.told c.read_input.new.shelf) (said_with (online_job c.args.trace.now) c.args.options) refl refl
    c.in_ok-input.ensures.read_out c.read_input.ensures.no_report c.read_input.ensures.no_script)

pub returns-in-Err-clause-counts : goal.returns-in-Err-clause-counts
returns-in-Err-clause-counts g c =
    counts_none {T = ℕ} (g.H.Shelf.faults c.args.shelf.now) (g.H.Shelf.faults c.read_input.new.shelf) (Err c.status_of.result) (IsStatusOfOnline c.in-Err.fault)
    c.status_of.ensures (online_reads c.in-Err.fault) c.in_ok-input.ensures.counts
