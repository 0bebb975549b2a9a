use Rattle.std.proofs.Common.{◌≡◌, ap, refl, subst, sym, Err}
use Rattle.std.specs.Prelude.{map}
use Rattle.command_words.specs.Line.{texts}
use Rattle.command_words.specs.Words.{Said, said_by}
use Rattle.command_files.specs.declared.status.Status.TheVariants.{NoMemory, WriteFault}
use Rattle.hall_plan.specs.Sent.{SendsAll}
use Rattle.sincronia_cli.specs.Outcome.{HasText}
use Rattle.command_jobs.specs.Serving.{Sends, Stops}
use Rattle.sincronia_cli.proofs.BenchFacts.{asks_by, cause_has_no_text, left_by, outcome_has_text}
use Rattle.sincronia_cli.proofs.CompleteFacts.{good_files_end}
use Rattle.sincronia_cli.proofs.FirstFacts.{first_ends, text_ends}
use Rattle.command_jobs.proofs.PublishingFacts.{few_for}
use Rattle.sincronia_cli.proofs.OutcomeFacts.{bad_order_given, bad_report_given, bad_script_given, limit_given}
use Rattle.command_files.proofs.SinkFacts.{begun}
use Rattle.sincronia_cli.proofs.ServingFacts.{none_failed, past_by_wire, sent_by, unsent_for, wire_failed}
use Rattle.sincronia_cli.proofs.TurnFacts.{done_by, out_for, text_in_turn, turn_for}
use Rattle.sincronia_cli.proofs.WrittenFacts.{classes_written, comparison_written, live_written, made_written, no_written}
use Rattle.sincronia_cli.proofs.WrittenFacts.{online_written, plan_written, record_written, replay_written, served_written, sound_written, yes_written}
use Rattle.command_files.specs.Ends.{IsWriteFault}
use Rattle.sincronia_cli.proofs.FilesCauses.{bad_trace_given, bad_weights_given, no_write_fault, policy_given, read_fault_given, usage_given}
use Rattle.sincronia_cli.proofs.command.sincronia.Goals as goal

pub returns-in-Err-Usage-clause-usage : goal.returns-in-Err-Usage-clause-usage
returns-in-Err-Usage-clause-usage g c = λ e said is. c.in-Err-Usage.ensures.usage (ap Err c.in-Err-Usage.field-0-is) said is

pub returns-in-Err-Usage-clause-lacks_policy : goal.returns-in-Err-Usage-clause-lacks_policy
returns-in-Err-Usage-clause-lacks_policy g c = λ said is lacks. absurd (c.in-Err-Usage.ensures.usage (ap Err c.in-Err-Usage.field-0-is) said is)

pub returns-in-Err-clause-unknown_policy : goal.returns-in-Err-clause-unknown_policy
returns-in-Err-clause-unknown_policy g c = λ e. (
  said_by c.in-Ok.words,
  c.in-Ok.ensures.said,
  policy_given (Stops g.W.Wire.faults g.W.Wire.runs c.args.wires.now.items c.carry_out.new.wires.items)
      (map (λ b. (goal.Ranker-dyn g (b.vtable, b.value)).meaning b.value) c.args.bench.now.items)
      (said_by c.in-Ok.words) (g.H.Shelf.faults c.args.shelf.now) (g.H.Shelf.faults c.carry_out.new.shelf)
      (g.H.Shelf.told c.args.shelf.now) (g.H.Shelf.told c.carry_out.new.shelf) c.in-Err.status c.in-Err.ensures.cause e,
)

pub returns-in-Err-clause-bad_report : goal.returns-in-Err-clause-bad_report
returns-in-Err-clause-bad_report g c = λ line e.
    let bad = bad_report_given (Stops g.W.Wire.faults g.W.Wire.runs c.args.wires.now.items c.carry_out.new.wires.items)
    (map (λ b. (goal.Ranker-dyn g (b.vtable, b.value)).meaning b.value) c.args.bench.now.items)
    (said_by c.in-Ok.words) (g.H.Shelf.faults c.args.shelf.now) (g.H.Shelf.faults c.carry_out.new.shelf)
    (g.H.Shelf.told c.args.shelf.now) (g.H.Shelf.told c.carry_out.new.shelf) line c.in-Err.status c.in-Err.ensures.cause e in
    (said_by c.in-Ok.words, c.in-Ok.ensures.said, bad.0, bad.1, bad.2)

pub returns-in-Err-clause-bad_order : goal.returns-in-Err-clause-bad_order
returns-in-Err-clause-bad_order g c = λ fault e.
    let bad = bad_order_given (Stops g.W.Wire.faults g.W.Wire.runs c.args.wires.now.items c.carry_out.new.wires.items)
    (map (λ b. (goal.Ranker-dyn g (b.vtable, b.value)).meaning b.value) c.args.bench.now.items)
    (said_by c.in-Ok.words) (g.H.Shelf.faults c.args.shelf.now) (g.H.Shelf.faults c.carry_out.new.shelf)
    (g.H.Shelf.told c.args.shelf.now) (g.H.Shelf.told c.carry_out.new.shelf) fault c.in-Err.status c.in-Err.ensures.cause e in
    (said_by c.in-Ok.words, c.in-Ok.ensures.said, bad.1, bad.0, bad.2)

pub returns-in-Err-clause-bad_script : goal.returns-in-Err-clause-bad_script
returns-in-Err-clause-bad_script g c = λ line field e.
    let bad = bad_script_given (Stops g.W.Wire.faults g.W.Wire.runs c.args.wires.now.items c.carry_out.new.wires.items)
    (map (λ b. (goal.Ranker-dyn g (b.vtable, b.value)).meaning b.value) c.args.bench.now.items)
    (said_by c.in-Ok.words) (g.H.Shelf.faults c.args.shelf.now) (g.H.Shelf.faults c.carry_out.new.shelf)
    (g.H.Shelf.told c.args.shelf.now) (g.H.Shelf.told c.carry_out.new.shelf) line field c.in-Err.status c.in-Err.ensures.cause e in
    (said_by c.in-Ok.words, c.in-Ok.ensures.said, bad.0, bad.1)

pub returns-clause-plan : goal.returns-clause-plan
returns-clause-plan g c = λ said trace is e.
    plan_written _ (SendsAll g.W.Wire.runs c.args.wires.now.items c.carry_out.new.wires.items) (texts c.args.words.now) (said_by c.in-Ok.words) said
    (g.H.Shelf.told c.args.shelf.now) (map (λ b. (goal.Ranker-dyn g (b.vtable, b.value)).meaning b.value) c.args.bench.now.items) c.in-Ok-carry_out.outcome.status
    c.in-Ok-carry_out.outcome.text c.in-Ok-writer.writer (g.K.Sink.taken c.args.out.now) (g.K.Sink.taken c.write_to.new.sink) c.in-Ok-write_to.field-0 trace
    c.in-Ok.ensures.said is c.in-Ok-carry_out.ensures.outcome c.in-Ok-writer.ensures c.in-Ok-write_to.ensures.taken

pub returns-clause-online : goal.returns-clause-online
returns-clause-online g c = λ said trace is e.
    online_written _ (SendsAll g.W.Wire.runs c.args.wires.now.items c.carry_out.new.wires.items) (texts c.args.words.now) (said_by c.in-Ok.words) said
    (g.H.Shelf.told c.args.shelf.now) (map (λ b. (goal.Ranker-dyn g (b.vtable, b.value)).meaning b.value) c.args.bench.now.items) c.in-Ok-carry_out.outcome.status
    c.in-Ok-carry_out.outcome.text c.in-Ok-writer.writer (g.K.Sink.taken c.args.out.now) (g.K.Sink.taken c.write_to.new.sink) c.in-Ok-write_to.field-0 trace
    c.in-Ok.ensures.said is c.in-Ok-carry_out.ensures.outcome c.in-Ok-writer.ensures c.in-Ok-write_to.ensures.taken

pub returns-clause-live : goal.returns-clause-live
returns-clause-live g c = λ said trace script is e.
    live_written _ (SendsAll g.W.Wire.runs c.args.wires.now.items c.carry_out.new.wires.items) (texts c.args.words.now) (said_by c.in-Ok.words) said
    (g.H.Shelf.told c.args.shelf.now) (map (λ b. (goal.Ranker-dyn g (b.vtable, b.value)).meaning b.value) c.args.bench.now.items) c.in-Ok-carry_out.outcome.status
    c.in-Ok-carry_out.outcome.text c.in-Ok-writer.writer (g.K.Sink.taken c.args.out.now) (g.K.Sink.taken c.write_to.new.sink) c.in-Ok-write_to.field-0 trace script
    c.in-Ok.ensures.said is c.in-Ok-carry_out.ensures.outcome c.in-Ok-writer.ensures c.in-Ok-write_to.ensures.taken

pub returns-in-Err-clause-gates : goal.returns-in-Err-clause-gates
returns-in-Err-clause-gates g c = λ no.
    c.carry_out.ensures.gates (λ trace script e. no (said_by c.in-Ok.words) trace script (record { words_say = c.in-Ok.ensures.said; job_is = e }))

pub returns-in_default-write_to-clause-gates : goal.returns-in_default-write_to-clause-gates
returns-in_default-write_to-clause-gates g c = λ no.
    c.carry_out.ensures.gates (λ trace script e. no (said_by c.in-Ok.words) trace script (record { words_say = c.in-Ok.ensures.said; job_is = e }))

pub returns-clause-gates : goal.returns-clause-gates
returns-clause-gates g c = λ no.
    c.carry_out.ensures.gates (λ trace script e. no (said_by c.in-Ok.words) trace script (record { words_say = c.in-Ok.ensures.said; job_is = e }))

pub returns-in-Err-clause-few : goal.returns-in-Err-clause-few
returns-in-Err-clause-few g c = λ said is text.
    absurd (cause_has_no_text (Stops g.W.Wire.faults g.W.Wire.runs c.args.wires.now.items c.carry_out.new.wires.items)
    (map (λ b. (goal.Ranker-dyn g (b.vtable, b.value)).meaning b.value) c.args.bench.now.items)
    (g.H.Shelf.faults c.args.shelf.now) (g.H.Shelf.faults c.carry_out.new.shelf) (g.H.Shelf.told c.args.shelf.now)
    (g.H.Shelf.told c.carry_out.new.shelf) (said_by c.in-Ok.words) c.in-Err.status c.in-Err.ensures.cause text)

pub returns-in_default-write_to-clause-few : goal.returns-in_default-write_to-clause-few
returns-in_default-write_to-clause-few g c = λ said is text.
    few_for (map (λ b. (goal.Ranker-dyn g (b.vtable, b.value)).meaning b.value) c.args.bench.now.items) (texts c.args.words.now) (said_by c.in-Ok.words) said
    (g.H.Shelf.told c.args.shelf.now) c.in-Ok.ensures.said is c.in-Ok-carry_out.ensures.few

pub returns-clause-few : goal.returns-clause-few
returns-clause-few g c = λ said is text.
    few_for (map (λ b. (goal.Ranker-dyn g (b.vtable, b.value)).meaning b.value) c.args.bench.now.items) (texts c.args.words.now) (said_by c.in-Ok.words) said
    (g.H.Shelf.told c.args.shelf.now) c.in-Ok.ensures.said is c.in-Ok-carry_out.ensures.few

pub returns-in-Err-clause-limit : goal.returns-in-Err-clause-limit
returns-in-Err-clause-limit g c = λ which count e.
    let bad = limit_given (Stops g.W.Wire.faults g.W.Wire.runs c.args.wires.now.items c.carry_out.new.wires.items)
    (map (λ b. (goal.Ranker-dyn g (b.vtable, b.value)).meaning b.value) c.args.bench.now.items)
    (said_by c.in-Ok.words) (g.H.Shelf.faults c.args.shelf.now) (g.H.Shelf.faults c.carry_out.new.shelf)
    (g.H.Shelf.told c.args.shelf.now) (g.H.Shelf.told c.carry_out.new.shelf) which count c.in-Err.status c.in-Err.ensures.cause e in
    (said_by c.in-Ok.words, record { words_say = c.in-Ok.ensures.said; reads = bad.0 }, bad.1, bad.2)

pub returns-clause-yes : goal.returns-clause-yes
returns-clause-yes g c = λ said trace report is e.
    yes_written _ (SendsAll g.W.Wire.runs c.args.wires.now.items c.carry_out.new.wires.items) (texts c.args.words.now) (said_by c.in-Ok.words) said
    (g.H.Shelf.told c.args.shelf.now) (map (λ b. (goal.Ranker-dyn g (b.vtable, b.value)).meaning b.value) c.args.bench.now.items) c.in-Ok-carry_out.outcome.status
    c.in-Ok-carry_out.outcome.text c.in-Ok-writer.writer (g.K.Sink.taken c.args.out.now) (g.K.Sink.taken c.write_to.new.sink) c.in-Ok-write_to.field-0
    c.yes_bounds_released_schedules.ensures.total trace report
    c.in-Ok.ensures.said is c.in-Ok-carry_out.ensures.outcome e c.in-Ok-writer.ensures c.in-Ok-write_to.ensures.taken

pub returns-clause-audit_yes : goal.returns-clause-audit_yes
returns-clause-audit_yes g c = λ said trace journal is e.
    sound_written _ (SendsAll g.W.Wire.runs c.args.wires.now.items c.carry_out.new.wires.items) (texts c.args.words.now) (said_by c.in-Ok.words) said
    (g.H.Shelf.told c.args.shelf.now) (map (λ b. (goal.Ranker-dyn g (b.vtable, b.value)).meaning b.value) c.args.bench.now.items) c.in-Ok-carry_out.outcome.status
    c.in-Ok-carry_out.outcome.text c.in-Ok-writer.writer (g.K.Sink.taken c.args.out.now) (g.K.Sink.taken c.write_to.new.sink) c.in-Ok-write_to.field-0 trace journal
    c.in-Ok.ensures.said is c.in-Ok-carry_out.ensures.outcome e c.in-Ok-writer.ensures c.in-Ok-write_to.ensures.taken

pub returns-clause-make : goal.returns-clause-make
returns-clause-make g c = λ said seed is e.
    made_written _ (SendsAll g.W.Wire.runs c.args.wires.now.items c.carry_out.new.wires.items) (texts c.args.words.now) (said_by c.in-Ok.words) said
    (g.H.Shelf.told c.args.shelf.now) (map (λ b. (goal.Ranker-dyn g (b.vtable, b.value)).meaning b.value) c.args.bench.now.items) c.in-Ok-carry_out.outcome.status
    c.in-Ok-carry_out.outcome.text c.in-Ok-writer.writer (g.K.Sink.taken c.args.out.now) (g.K.Sink.taken c.write_to.new.sink) c.in-Ok-write_to.field-0 seed
    c.in-Ok.ensures.said is c.in-Ok-carry_out.ensures.outcome c.in-Ok-writer.ensures c.in-Ok-write_to.ensures.taken

pub returns-in-Err-Usage-clause-complete : goal.returns-in-Err-Usage-clause-complete
returns-in-Err-Usage-clause-complete g c = λ said is good shelf sink wires. absurd (c.in-Err-Usage.ensures.usage (ap Err c.in-Err-Usage.field-0-is) said is)

pub returns-in-Err-clause-complete : goal.returns-in-Err-clause-complete
returns-in-Err-clause-complete g c = λ said is good shelf sink wires.
    good_files_end (Stops g.W.Wire.faults g.W.Wire.runs c.args.wires.now.items c.carry_out.new.wires.items)
    (map (λ b. (goal.Ranker-dyn g (b.vtable, b.value)).meaning b.value) c.args.bench.now.items)
    (texts c.args.words.now) (said_by c.in-Ok.words) said (g.H.Shelf.faults c.args.shelf.now) (g.H.Shelf.faults c.carry_out.new.shelf)
    (g.H.Shelf.told c.args.shelf.now) (g.H.Shelf.told c.carry_out.new.shelf) c.in-Err.status c.in-Ok.ensures.said is c.in-Err.ensures.cause good shelf
    (none_failed g.W.Wire.faults g.W.Wire.runs c.args.wires.now.items c.carry_out.new.wires.items wires)

pub returns-in-Err-Usage-clause-first : goal.returns-in-Err-Usage-clause-first
returns-in-Err-Usage-clause-first g c = λ said cause is known x. absurd (c.in-Err-Usage.ensures.usage (ap Err c.in-Err-Usage.field-0-is) said is.words_say)

pub returns-in-Err-clause-first : goal.returns-in-Err-clause-first
returns-in-Err-clause-first g c = λ said cause is known x.
    first_ends (Stops g.W.Wire.faults g.W.Wire.runs c.args.wires.now.items c.carry_out.new.wires.items)
    (map (λ b. (goal.Ranker-dyn g (b.vtable, b.value)).meaning b.value) c.args.bench.now.items)
    (texts c.args.words.now) (said_by c.in-Ok.words) said (g.H.Shelf.faults c.args.shelf.now) (g.H.Shelf.faults c.carry_out.new.shelf)
    (g.H.Shelf.told c.args.shelf.now) (g.H.Shelf.told c.carry_out.new.shelf) c.in-Err.status cause c.in-Ok.ensures.said is known c.in-Err.ensures.cause x

pub returns-clause-first : goal.returns-clause-first
returns-clause-first g c = λ said cause is known x.
    let outcome = c.in-Ok-carry_out.outcome in
    text_ends (SendsAll g.W.Wire.runs c.args.wires.now.items c.carry_out.new.wires.items) (texts c.args.words.now) (said_by c.in-Ok.words) said
    (g.H.Shelf.told c.args.shelf.now)
    (map (λ b. (goal.Ranker-dyn g (b.vtable, b.value)).meaning b.value) c.args.bench.now.items) outcome.status cause outcome.text
    c.in-Ok.ensures.said is c.in-Ok-carry_out.ensures.good c.in-Ok-carry_out.ensures.few c.in-Ok-carry_out.ensures.outcome x

pub returns-in-Err-clause-in_turn : goal.returns-in-Err-clause-in_turn
returns-in-Err-clause-in_turn g c = λ said is.
    turn_for (texts c.args.words.now) (said_by c.in-Ok.words) said (g.H.Shelf.told c.args.shelf.now) (g.H.Shelf.told c.carry_out.new.shelf) c.in-Err.status
    c.in-Ok.ensures.said is c.in-Err.ensures.in_turn

pub returns-clause-in_turn : goal.returns-clause-in_turn
returns-clause-in_turn g c = λ said is.
    let old = g.H.Shelf.told c.args.shelf.now in
    let new = g.H.Shelf.told c.carry_out.new.shelf in
    let outcome = c.in-Ok-carry_out.outcome in
    let ensures = c.in-Ok-carry_out.ensures in
    turn_for (texts c.args.words.now) (said_by c.in-Ok.words) said old new outcome.status c.in-Ok.ensures.said is
    (text_in_turn old new (said_by c.in-Ok.words) outcome.status (SendsAll g.W.Wire.runs c.args.wires.now.items c.carry_out.new.wires.items)
    (map (λ b. (goal.Ranker-dyn g (b.vtable, b.value)).meaning b.value) c.args.bench.now.items)
    outcome.text ensures.outcome ensures.good ensures.read_out (λ seed e. (ensures.untouched seed e).0))

pub returns-clause-no : goal.returns-clause-no
returns-clause-no g c = λ e. (
  said_by c.in-Ok.words,
  c.in-Ok.ensures.said,
  no_written _ (SendsAll g.W.Wire.runs c.args.wires.now.items c.carry_out.new.wires.items) (texts c.args.words.now) (said_by c.in-Ok.words) (said_by c.in-Ok.words)
      (g.H.Shelf.told c.args.shelf.now)
      (map (λ b. (goal.Ranker-dyn g (b.vtable, b.value)).meaning b.value) c.args.bench.now.items) c.in-Ok-carry_out.outcome.status
      c.in-Ok-carry_out.outcome.text
      c.in-Ok-writer.writer (g.K.Sink.taken c.args.out.now) (g.K.Sink.taken c.write_to.new.sink) c.in-Ok-write_to.field-0
      c.in-Ok-carry_out.ensures.outcome e c.in-Ok-writer.ensures c.in-Ok-write_to.ensures.taken,
)

pub returns-in-Err-clause-read_out : goal.returns-in-Err-clause-read_out
returns-in-Err-clause-read_out g c = λ said is past.
    out_for (texts c.args.words.now) (said_by c.in-Ok.words) said (g.H.Shelf.told c.args.shelf.now) (g.H.Shelf.told c.carry_out.new.shelf) c.in-Ok.ensures.said is
    (c.in-Err.ensures.read_out (past_by_wire (Stops g.W.Wire.faults g.W.Wire.runs c.args.wires.now.items c.carry_out.new.wires.items)
    (map (λ b. (goal.Ranker-dyn g (b.vtable, b.value)).meaning b.value) c.args.bench.now.items)
    (g.H.Shelf.faults c.args.shelf.now) (g.H.Shelf.faults c.carry_out.new.shelf)
    (g.H.Shelf.told c.args.shelf.now) (g.H.Shelf.told c.carry_out.new.shelf) (said_by c.in-Ok.words) c.in-Err.status c.in-Err.ensures.cause past))

pub returns-in-Err-clause-good : goal.returns-in-Err-clause-good
returns-in-Err-clause-good g c = λ past. (
  said_by c.in-Ok.words,
  c.in-Ok.ensures.said,
  c.in-Err.ensures.good (past_by_wire (Stops g.W.Wire.faults g.W.Wire.runs c.args.wires.now.items c.carry_out.new.wires.items)
      (map (λ b. (goal.Ranker-dyn g (b.vtable, b.value)).meaning b.value) c.args.bench.now.items)
      (g.H.Shelf.faults c.args.shelf.now) (g.H.Shelf.faults c.carry_out.new.shelf)
      (g.H.Shelf.told c.args.shelf.now) (g.H.Shelf.told c.carry_out.new.shelf) (said_by c.in-Ok.words) c.in-Err.status c.in-Err.ensures.cause past),
)

pub returns-clause-read_out : goal.returns-clause-read_out
returns-clause-read_out g c = λ said is text.
    out_for (texts c.args.words.now) (said_by c.in-Ok.words) said (g.H.Shelf.told c.args.shelf.now) (g.H.Shelf.told c.carry_out.new.shelf) c.in-Ok.ensures.said is
    c.in-Ok-carry_out.ensures.read_out

pub returns-in_default-write_to-clause-read_out : goal.returns-in_default-write_to-clause-read_out
returns-in_default-write_to-clause-read_out g c = λ said is text.
    out_for (texts c.args.words.now) (said_by c.in-Ok.words) said (g.H.Shelf.told c.args.shelf.now) (g.H.Shelf.told c.carry_out.new.shelf) c.in-Ok.ensures.said is
    c.in-Ok-carry_out.ensures.read_out

pub returns-in_default-write_to-clause-in_turn : goal.returns-in_default-write_to-clause-in_turn
returns-in_default-write_to-clause-in_turn g c = λ said is.
    let old = g.H.Shelf.told c.args.shelf.now in
    let new = g.H.Shelf.told c.carry_out.new.shelf in
    let by : Said = said_by c.in-Ok.words in
    let ensures = c.in-Ok-carry_out.ensures in
    turn_for (texts c.args.words.now) by said old new (WriteFault 1) c.in-Ok.ensures.said is
    (done_by old new by (WriteFault 1) by.job refl (λ read. read) ensures.good ensures.read_out (λ seed e. (ensures.untouched seed e).0))

pub returns-in_default-write_to-clause-beginning : goal.returns-in_default-write_to-clause-beginning
returns-in_default-write_to-clause-beginning g c = λ count e. (
  said_by c.in-Ok.words,
  c.in-Ok.ensures.said,
  record {
    text = c.in-Ok-carry_out.outcome.text;
    status = c.in-Ok-carry_out.outcome.status;
    outcome = c.in-Ok-carry_out.ensures.outcome;
    written = begun _ (g.K.Sink.taken c.args.out.now) (g.K.Sink.taken c.write_to.new.sink) c.in-Ok-carry_out.outcome.text c.in-Ok-writer.writer _
        c.in-Ok-writer.ensures c.in_default-write_to.ensures.taken;
  },
)

pub returns-clause-compare : goal.returns-clause-compare
returns-clause-compare g c = λ said trace is e.
    comparison_written _ (SendsAll g.W.Wire.runs c.args.wires.now.items c.carry_out.new.wires.items) (texts c.args.words.now) (said_by c.in-Ok.words) said
    (g.H.Shelf.told c.args.shelf.now) (map (λ b. (goal.Ranker-dyn g (b.vtable, b.value)).meaning b.value) c.args.bench.now.items) c.in-Ok-carry_out.outcome.status
    c.in-Ok-carry_out.outcome.text c.in-Ok-writer.writer (g.K.Sink.taken c.args.out.now) (g.K.Sink.taken c.write_to.new.sink) c.in-Ok-write_to.field-0 trace
    c.in-Ok.ensures.said is c.in-Ok-carry_out.ensures.outcome c.in-Ok-writer.ensures c.in-Ok-write_to.ensures.taken

pub returns-clause-classes : goal.returns-clause-classes
returns-clause-classes g c = λ said trace is e.
    classes_written _ (SendsAll g.W.Wire.runs c.args.wires.now.items c.carry_out.new.wires.items) (texts c.args.words.now) (said_by c.in-Ok.words) said
    (g.H.Shelf.told c.args.shelf.now) (map (λ b. (goal.Ranker-dyn g (b.vtable, b.value)).meaning b.value) c.args.bench.now.items) c.in-Ok-carry_out.outcome.status
    c.in-Ok-carry_out.outcome.text c.in-Ok-writer.writer (g.K.Sink.taken c.args.out.now) (g.K.Sink.taken c.write_to.new.sink) c.in-Ok-write_to.field-0 trace
    c.in-Ok.ensures.said is c.in-Ok-carry_out.ensures.outcome c.in-Ok-writer.ensures c.in-Ok-write_to.ensures.taken

pub returns-clause-serve : goal.returns-clause-serve
returns-clause-serve g c = λ said trace order is e.
    served_written _ (SendsAll g.W.Wire.runs c.args.wires.now.items c.carry_out.new.wires.items) (texts c.args.words.now) (said_by c.in-Ok.words) said
    (g.H.Shelf.told c.args.shelf.now) (map (λ b. (goal.Ranker-dyn g (b.vtable, b.value)).meaning b.value) c.args.bench.now.items) c.in-Ok-carry_out.outcome.status
    c.in-Ok-carry_out.outcome.text c.in-Ok-writer.writer (g.K.Sink.taken c.args.out.now) (g.K.Sink.taken c.write_to.new.sink) c.in-Ok-write_to.field-0 trace order
    c.in-Ok.ensures.said is c.in-Ok-carry_out.ensures.outcome c.in-Ok-writer.ensures c.in-Ok-write_to.ensures.taken

pub returns-clause-replay : goal.returns-clause-replay
returns-clause-replay g c = λ said trace is e.
    replay_written _ (SendsAll g.W.Wire.runs c.args.wires.now.items c.carry_out.new.wires.items) (texts c.args.words.now) (said_by c.in-Ok.words) said
    (g.H.Shelf.told c.args.shelf.now) (map (λ b. (goal.Ranker-dyn g (b.vtable, b.value)).meaning b.value) c.args.bench.now.items) c.in-Ok-carry_out.outcome.status
    c.in-Ok-carry_out.outcome.text c.in-Ok-writer.writer (g.K.Sink.taken c.args.out.now) (g.K.Sink.taken c.write_to.new.sink) c.in-Ok-write_to.field-0 trace
    c.in-Ok.ensures.said is c.in-Ok-carry_out.ensures.outcome c.in-Ok-writer.ensures c.in-Ok-write_to.ensures.taken

pub returns-clause-record : goal.returns-clause-record
returns-clause-record g c = λ said trace policy is e.
    record_written _ (SendsAll g.W.Wire.runs c.args.wires.now.items c.carry_out.new.wires.items) (texts c.args.words.now) (said_by c.in-Ok.words) said
    (g.H.Shelf.told c.args.shelf.now) (map (λ b. (goal.Ranker-dyn g (b.vtable, b.value)).meaning b.value) c.args.bench.now.items) c.in-Ok-carry_out.outcome.status
    c.in-Ok-carry_out.outcome.text c.in-Ok-writer.writer (g.K.Sink.taken c.args.out.now) (g.K.Sink.taken c.write_to.new.sink) c.in-Ok-write_to.field-0 trace policy
    c.in-Ok.ensures.said is c.in-Ok-carry_out.ensures.outcome e c.in-Ok-writer.ensures c.in-Ok-write_to.ensures.taken

pub returns-in-Err-clause-empty : goal.returns-in-Err-clause-empty
returns-in-Err-clause-empty g c = λ said is asks text.
    absurd (cause_has_no_text (Stops g.W.Wire.faults g.W.Wire.runs c.args.wires.now.items c.carry_out.new.wires.items)
    (map (λ b. (goal.Ranker-dyn g (b.vtable, b.value)).meaning b.value) c.args.bench.now.items)
    (g.H.Shelf.faults c.args.shelf.now) (g.H.Shelf.faults c.carry_out.new.shelf) (g.H.Shelf.told c.args.shelf.now)
    (g.H.Shelf.told c.carry_out.new.shelf) (said_by c.in-Ok.words) c.in-Err.status c.in-Err.ensures.cause text)

pub returns-in_default-write_to-clause-empty : goal.returns-in_default-write_to-clause-empty
returns-in_default-write_to-clause-empty g c = λ said is asks text.
    c.in-Ok-carry_out.ensures.empty (asks_by (texts c.args.words.now) (said_by c.in-Ok.words) said c.in-Ok.ensures.said is asks)

pub returns-clause-empty : goal.returns-clause-empty
returns-clause-empty g c = λ said is asks text.
    c.in-Ok-carry_out.ensures.empty (asks_by (texts c.args.words.now) (said_by c.in-Ok.words) said c.in-Ok.ensures.said is asks)

pub returns-in-Err-clause-left : goal.returns-in-Err-clause-left
returns-in-Err-clause-left g c =
    left_by (λ b f. (goal.Ranker-dyn g (b.vtable, b.value)).answered b.value f) (texts c.args.words.now) (g.H.Shelf.told c.args.shelf.now) (said_by c.in-Ok.words)
    c.args.bench.now.items c.carry_out.new.bench.items c.in-Ok.ensures.said c.carry_out.ensures.left

pub returns-in_default-write_to-clause-left : goal.returns-in_default-write_to-clause-left
returns-in_default-write_to-clause-left g c =
    left_by (λ b f. (goal.Ranker-dyn g (b.vtable, b.value)).answered b.value f) (texts c.args.words.now) (g.H.Shelf.told c.args.shelf.now) (said_by c.in-Ok.words)
    c.args.bench.now.items c.carry_out.new.bench.items c.in-Ok.ensures.said c.carry_out.ensures.left

pub returns-clause-left : goal.returns-clause-left
returns-clause-left g c =
    left_by (λ b f. (goal.Ranker-dyn g (b.vtable, b.value)).answered b.value f) (texts c.args.words.now) (g.H.Shelf.told c.args.shelf.now) (said_by c.in-Ok.words)
    c.args.bench.now.items c.carry_out.new.bench.items c.in-Ok.ensures.said c.carry_out.ensures.left

pub returns-clause-same_bench : goal.returns-clause-same_bench
returns-clause-same_bench g c = λ none other few.
    absurd {A = c.carry_out.new.bench.items ≡ c.args.bench.now.items}
    (none (outcome_has_text (SendsAll g.W.Wire.runs c.args.wires.now.items c.carry_out.new.wires.items) (g.H.Shelf.told c.args.shelf.now) (said_by c.in-Ok.words)
    (map (λ b. (goal.Ranker-dyn g (b.vtable, b.value)).meaning b.value) c.args.bench.now.items)
    c.in-Ok-carry_out.outcome.status c.in-Ok-carry_out.outcome.text c.in-Ok-carry_out.ensures.outcome))

pub returns-in-Err-clause-others_bench : goal.returns-in-Err-clause-others_bench
returns-in-Err-clause-others_bench g c = λ no.
    c.carry_out.ensures.others_bench (λ asks. no (said_by c.in-Ok.words) c.in-Ok.ensures.said asks)

pub returns-in_default-write_to-clause-others_bench : goal.returns-in_default-write_to-clause-others_bench
returns-in_default-write_to-clause-others_bench g c = λ no.
    c.carry_out.ensures.others_bench (λ asks. no (said_by c.in-Ok.words) c.in-Ok.ensures.said asks)

pub returns-clause-others_bench : goal.returns-clause-others_bench
returns-clause-others_bench g c = λ no.
    c.carry_out.ensures.others_bench (λ asks. no (said_by c.in-Ok.words) c.in-Ok.ensures.said asks)

pub returns-in-Err-clause-wires : goal.returns-in-Err-clause-wires
returns-in-Err-clause-wires g c =
    sent_by g.W.Wire.runs c.args.wires.now.items c.carry_out.new.wires.items (texts c.args.words.now) (said_by c.in-Ok.words) (g.H.Shelf.told c.args.shelf.now)
    c.in-Ok.ensures.said c.carry_out.ensures.sent

pub returns-in_default-write_to-clause-wires : goal.returns-in_default-write_to-clause-wires
returns-in_default-write_to-clause-wires g c =
    sent_by g.W.Wire.runs c.args.wires.now.items c.carry_out.new.wires.items (texts c.args.words.now) (said_by c.in-Ok.words) (g.H.Shelf.told c.args.shelf.now)
    c.in-Ok.ensures.said c.carry_out.ensures.sent

pub returns-clause-wires : goal.returns-clause-wires
returns-clause-wires g c =
    sent_by g.W.Wire.runs c.args.wires.now.items c.carry_out.new.wires.items (texts c.args.words.now) (said_by c.in-Ok.words) (g.H.Shelf.told c.args.shelf.now)
    c.in-Ok.ensures.said c.carry_out.ensures.sent

pub returns-in-Err-clause-wire : goal.returns-in-Err-clause-wire
returns-in-Err-clause-wire g c = λ port count e.
    wire_failed g.W.Wire.faults g.W.Wire.runs c.args.wires.now.items c.carry_out.new.wires.items
    (map (λ b. (goal.Ranker-dyn g (b.vtable, b.value)).meaning b.value) c.args.bench.now.items) (texts c.args.words.now) (said_by c.in-Ok.words)
    (g.H.Shelf.faults c.args.shelf.now) (g.H.Shelf.faults c.carry_out.new.shelf) (g.H.Shelf.told c.args.shelf.now) (g.H.Shelf.told c.carry_out.new.shelf)
    port count c.in-Err.status c.in-Ok.ensures.said c.in-Err.ensures.cause e

pub returns-clause-unsent : goal.returns-clause-unsent
returns-clause-unsent g c =
    unsent_for c.args.wires.now.items c.carry_out.new.wires.items (SendsAll g.W.Wire.runs c.args.wires.now.items c.carry_out.new.wires.items)
    (Sends g.W.Wire.runs c.args.wires.now.items c.carry_out.new.wires.items)
    (g.H.Shelf.told c.args.shelf.now) (said_by c.in-Ok.words)
    (map (λ b. (goal.Ranker-dyn g (b.vtable, b.value)).meaning b.value) c.args.bench.now.items)
    c.in-Ok-carry_out.outcome.status c.in-Ok-carry_out.outcome.text c.in-Ok-carry_out.ensures.outcome c.carry_out.ensures.sent

pub returns-clause-wire : goal.returns-clause-wire
returns-clause-wire g c = λ port count e.
    absurd (subst HasText e (outcome_has_text (SendsAll g.W.Wire.runs c.args.wires.now.items c.carry_out.new.wires.items) (g.H.Shelf.told c.args.shelf.now) (said_by c.in-Ok.words)
    (map (λ b. (goal.Ranker-dyn g (b.vtable, b.value)).meaning b.value) c.args.bench.now.items)
    c.in-Ok-carry_out.outcome.status c.in-Ok-carry_out.outcome.text c.in-Ok-carry_out.ensures.outcome))

pub returns-in-Err-clause-usage : goal.returns-in-Err-clause-usage
returns-in-Err-clause-usage g c = λ e said is.
    absurd (usage_given (Stops g.W.Wire.faults g.W.Wire.runs c.args.wires.now.items c.carry_out.new.wires.items)
    (map (λ b. (goal.Ranker-dyn g (b.vtable, b.value)).meaning b.value) c.args.bench.now.items) (said_by c.in-Ok.words)
    (g.H.Shelf.faults c.args.shelf.now) (g.H.Shelf.faults c.carry_out.new.shelf) (g.H.Shelf.told c.args.shelf.now)
    (g.H.Shelf.told c.carry_out.new.shelf) c.in-Err.status c.in-Err.ensures.cause e)

pub returns-in-Err-clause-bad_trace : goal.returns-in-Err-clause-bad_trace
returns-in-Err-clause-bad_trace g c = λ fault e.
    let bad = bad_trace_given (Stops g.W.Wire.faults g.W.Wire.runs c.args.wires.now.items c.carry_out.new.wires.items)
    (map (λ b. (goal.Ranker-dyn g (b.vtable, b.value)).meaning b.value) c.args.bench.now.items) (said_by c.in-Ok.words)
    (g.H.Shelf.faults c.args.shelf.now) (g.H.Shelf.faults c.carry_out.new.shelf) (g.H.Shelf.told c.args.shelf.now)
    (g.H.Shelf.told c.carry_out.new.shelf) fault c.in-Err.status c.in-Err.ensures.cause e in
    (said_by c.in-Ok.words, record { words_say = c.in-Ok.ensures.said; reads = bad.0 }, bad.1.0, bad.1.1)

pub returns-in-Err-clause-bad_weights : goal.returns-in-Err-clause-bad_weights
returns-in-Err-clause-bad_weights g c = λ fault e.
    let bad = bad_weights_given (Stops g.W.Wire.faults g.W.Wire.runs c.args.wires.now.items c.carry_out.new.wires.items)
    (map (λ b. (goal.Ranker-dyn g (b.vtable, b.value)).meaning b.value) c.args.bench.now.items) (said_by c.in-Ok.words)
    (g.H.Shelf.faults c.args.shelf.now) (g.H.Shelf.faults c.carry_out.new.shelf) (g.H.Shelf.told c.args.shelf.now)
    (g.H.Shelf.told c.carry_out.new.shelf) fault c.in-Err.status c.in-Err.ensures.cause e in
    (said_by c.in-Ok.words, record { words_say = c.in-Ok.ensures.said; reads = bad.0 }, bad.1.0, bad.1.1)

pub returns-in-Err-clause-read : goal.returns-in-Err-clause-read
returns-in-Err-clause-read g c = λ count e.
    let bad = read_fault_given (Stops g.W.Wire.faults g.W.Wire.runs c.args.wires.now.items c.carry_out.new.wires.items)
    (map (λ b. (goal.Ranker-dyn g (b.vtable, b.value)).meaning b.value) c.args.bench.now.items) (said_by c.in-Ok.words)
    (g.H.Shelf.faults c.args.shelf.now) (g.H.Shelf.faults c.carry_out.new.shelf) (g.H.Shelf.told c.args.shelf.now)
    (g.H.Shelf.told c.carry_out.new.shelf) count c.in-Err.status c.in-Err.ensures.cause e in
    (said_by c.in-Ok.words, record { words_say = c.in-Ok.ensures.said; reads = bad.0 }, bad.1)

pub returns-in-Err-clause-write : goal.returns-in-Err-clause-write
returns-in-Err-clause-write g c = λ count e.
    absurd (no_write_fault (Stops g.W.Wire.faults g.W.Wire.runs c.args.wires.now.items c.carry_out.new.wires.items)
    (map (λ b. (goal.Ranker-dyn g (b.vtable, b.value)).meaning b.value) c.args.bench.now.items) (said_by c.in-Ok.words)
    (g.H.Shelf.faults c.args.shelf.now) (g.H.Shelf.faults c.carry_out.new.shelf) (g.H.Shelf.told c.args.shelf.now)
    (g.H.Shelf.told c.carry_out.new.shelf) c.in-Err.status c.in-Err.ensures.cause (subst IsWriteFault (sym e) tt))

pub returns-in-Err-clause-once_sink : goal.returns-in-Err-clause-once_sink
returns-in-Err-clause-once_sink g c = λ is.
    absurd (no_write_fault (Stops g.W.Wire.faults g.W.Wire.runs c.args.wires.now.items c.carry_out.new.wires.items)
    (map (λ b. (goal.Ranker-dyn g (b.vtable, b.value)).meaning b.value) c.args.bench.now.items) (said_by c.in-Ok.words)
    (g.H.Shelf.faults c.args.shelf.now) (g.H.Shelf.faults c.carry_out.new.shelf) (g.H.Shelf.told c.args.shelf.now)
    (g.H.Shelf.told c.carry_out.new.shelf) c.in-Err.status c.in-Err.ensures.cause is)

pub returns-in-Err-clause-still_sink : goal.returns-in-Err-clause-still_sink
returns-in-Err-clause-still_sink g c = λ no. refl

pub returns-in-Err-clause-unwritten : goal.returns-in-Err-clause-unwritten
returns-in-Err-clause-unwritten g c = λ none. refl

pub returns-in_default-clause-gates : goal.returns-in_default-clause-gates
returns-in_default-clause-gates g c = λ no.
    c.carry_out.ensures.gates (λ trace script e. no (said_by c.in-Ok.words) trace script (record { words_say = c.in-Ok.ensures.said; job_is = e }))

pub returns-in_default-clause-left : goal.returns-in_default-clause-left
returns-in_default-clause-left g c =
    left_by (λ b f. (goal.Ranker-dyn g (b.vtable, b.value)).answered b.value f) (texts c.args.words.now) (g.H.Shelf.told c.args.shelf.now) (said_by c.in-Ok.words)
    c.args.bench.now.items c.carry_out.new.bench.items c.in-Ok.ensures.said c.carry_out.ensures.left

pub returns-in_default-clause-others_bench : goal.returns-in_default-clause-others_bench
returns-in_default-clause-others_bench g c = λ no.
    c.carry_out.ensures.others_bench (λ asks. no (said_by c.in-Ok.words) c.in-Ok.ensures.said asks)

pub returns-in_default-clause-in_turn : goal.returns-in_default-clause-in_turn
returns-in_default-clause-in_turn g c = λ said is.
    let old = g.H.Shelf.told c.args.shelf.now in
    let new = g.H.Shelf.told c.carry_out.new.shelf in
    let by : Said = said_by c.in-Ok.words in
    let ensures = c.in-Ok-carry_out.ensures in
    turn_for (texts c.args.words.now) by said old new NoMemory c.in-Ok.ensures.said is
    (done_by old new by NoMemory by.job refl (λ read. read) ensures.good ensures.read_out (λ seed e. (ensures.untouched seed e).0))
