use Rattle.std.proofs.Common.{Err, ap, inl, inr, refl}
use Rattle.command_words.specs.Jobs.Job.{live_job}
use Rattle.command_words.specs.Words.{said_with}
use Rattle.command_files.proofs.ShelfFacts.{passed_on}
use Rattle.command_files.specs.JobCauses.{HasFilesCause}
use Rattle.command_jobs.proofs.LiveFacts.{live_cause, script_is_read}
use Rattle.command_jobs.proofs.living.run_clients.Goals as goal

pub serve_script-requires-clause-script : goal.serve_script-requires-clause-script
serve_script-requires-clause-script g c κs within =
    script_is_read (g.H.Shelf.told c.args.shelf.now) c.args.script.now c.in_ok-files.files.input.table.ids c.in_ok-files.files.script c.in_ok-files.ensures.script

pub returns-in_err-files-clause-cause : goal.returns-in_err-files-clause-cause
returns-in_err-files-clause-cause g c =
    passed_on c.from_residual.result c.in_err-files.field-0.0 _ c.from_residual.ensures.1 (inl c.in_err-files.ensures.cause)

pub returns-in-Ok-clause-outcome : goal.returns-in-Ok-clause-outcome
returns-in-Ok-clause-outcome g c = (
  refl,
  record {
    table = c.in_ok-files.files.input.table;
    weights = c.in_ok-files.files.input.weights;
    input = c.in_ok-files.ensures.input;
    shared = c.in_ok-files.ensures.shared;
    script = c.in_ok-files.files.script;
    reads = c.in_ok-files.ensures.script;
    tells = c.in-Ok.ensures.text.0;
    sent = c.in-Ok.ensures.text.1;
  },
)

pub returns-in-Err-clause-cause : goal.returns-in-Err-clause-cause
returns-in-Err-clause-cause g c =
    live_cause c.in-Err.fault c.status_of.result
    (HasFilesCause (g.H.Shelf.faults c.args.shelf.now) (g.H.Shelf.faults c.read_live_files.new.shelf) (g.H.Shelf.told c.args.shelf.now) (g.H.Shelf.told c.read_live_files.new.shelf)
    (said_with (live_job c.args.trace.now c.args.script.now) c.args.options)) _ c.status_of.ensures tt
    (λ port is. (
      c.in_ok-files.files.input.table,
      c.in_ok-files.files.input.weights,
      c.in_ok-files.ensures.input,
      c.in_ok-files.files.script,
      c.in_ok-files.ensures.script,
      c.in-Err.ensures.fault port (ap Err is),
    ))

pub returns-in-Ok-clause-sent : goal.returns-in-Ok-clause-sent
returns-in-Ok-clause-sent g c =
    inr (
      c.in_ok-files.files.input.table,
      c.in_ok-files.files.input.weights,
      c.in_ok-files.ensures.input,
      c.in_ok-files.files.script,
      c.in_ok-files.ensures.script,
      c.serve_script.ensures.sent,
    )

pub returns-in-Err-clause-sent : goal.returns-in-Err-clause-sent
returns-in-Err-clause-sent g c =
    inr (
      c.in_ok-files.files.input.table,
      c.in_ok-files.files.input.weights,
      c.in_ok-files.ensures.input,
      c.in_ok-files.files.script,
      c.in_ok-files.ensures.script,
      c.serve_script.ensures.sent,
    )
