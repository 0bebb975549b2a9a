use Rattle.std.proofs.Common.{◌≡◌, ◌∙◌, Err, ap, inl, inr, refl, sym, subst, ℕ, ◌+◌, List, [], drop, length, map}
use Rattle.std.specs.Prelude.{All, IfSome}
use Rattle.std.proofs.Math.Seq.{drop-length}
use Rattle.command_words.specs.Jobs.Job.{record_job}
use Rattle.command_words.specs.Words.{Said, said_with}
use Rattle.rankers.proofs.Benches.{next_left}
use Rattle.rankers.specs.Meaning.{Meaning}
use Rattle.command_files.proofs.CauseFacts.{input_out}
use Rattle.command_files.proofs.FileTurns.{done_in_turn, input_in_turn, untouched_in_turn}
use Rattle.command_files.proofs.InputTurns.{counts_none}
use Rattle.command_files.proofs.JobFacts.{from_input}
use Rattle.command_files.proofs.ShelfFacts.{passed_on}
use Rattle.command_files.specs.JobCauses.{HasFilesCause}
use Rattle.command_files.specs.Shelves.{OfBoth}
use Rattle.command_files.specs.Turns.{FilesInTurn}
use Rattle.command_jobs.specs.Record.{IsPolicyCause, LacksPolicy}
use Rattle.command_jobs.proofs.PolicyFacts.{not_lacking_of, policy_few, policy_more, policy_text, record_cause, taken_of}
use Rattle.command_jobs.proofs.ReplayFacts.{replay_ends, replay_reads}
use Rattle.command_jobs.proofs.WireFacts.{input_no_wire, past_none}
use Rattle.command_jobs.proofs.recording.record_policy.Goals as goal

pub returns-in_err-input-clause-lacks_policy : goal.returns-in_err-input-clause-lacks_policy
returns-in_err-input-clause-lacks_policy g c = λ none.
    absurd (not_lacking_of (λ b. (goal.Ranker-dyn g (b.vtable, b.value)).meaning b.value) c.deref.result.now c.args.bench.now.items c.args.policy.now c.in-Some.place c.deref.ensures.value
    c.in-Some.ensures.some none)

pub returns-in_err-input-clause-in_turn : goal.returns-in_err-input-clause-in_turn
returns-in_err-input-clause-in_turn g c =
    let old = g.H.Shelf.told c.args.shelf.now in
    let new = g.H.Shelf.told c.read_input.new.shelf in
    let said : Said = said_with (record_job c.args.trace.now c.args.policy.now) c.args.options in
    passed_on c.from_residual.result c.in_err-input.field-0.0 (λ status. OfBoth old new (FilesInTurn said status)) c.from_residual.ensures.1
    (input_in_turn old new said c.in_err-input.field-0.0 c.in_err-input.ensures.in_turn c.read_input.ensures.no_report c.read_input.ensures.no_script)

pub returns-in_err-input-clause-cause : goal.returns-in_err-input-clause-cause
returns-in_err-input-clause-cause g c =
    passed_on c.from_residual.result c.in_err-input.field-0.0 _ c.from_residual.ensures.1
    (inl (from_input (g.H.Shelf.faults c.args.shelf.now) (g.H.Shelf.faults c.read_input.new.shelf) (g.H.Shelf.told c.args.shelf.now) (g.H.Shelf.told c.read_input.new.shelf)
    (said_with (record_job c.args.trace.now c.args.policy.now) c.args.options) c.in_err-input.field-0.0 c.in_err-input.ensures.cause))

pub returns-in_err-outcome-in-Ok-clause-left : goal.returns-in_err-outcome-in-Ok-clause-left
returns-in_err-outcome-in-Ok-clause-left g c = (
  c.in-Some.place + 1,
  next_left c.args.bench.now.items (drop c.in-Some.place c.args.bench.now.items) c.take_at-ranker.new.bench.items c.in-Some.place c.take_at-ranker.result refl
      c.take_at-ranker.ensures,
)

pub returns-in_err-outcome-in-Ok-clause-lacks_policy : goal.returns-in_err-outcome-in-Ok-clause-lacks_policy
returns-in_err-outcome-in-Ok-clause-lacks_policy g c = λ none.
    absurd (not_lacking_of (λ b. (goal.Ranker-dyn g (b.vtable, b.value)).meaning b.value) c.deref.result.now c.args.bench.now.items c.args.policy.now c.in-Some.place c.deref.ensures.value
    c.in-Some.ensures.some none)

pub returns-in_ok-outcome-in-Ok-clause-outcome : goal.returns-in_ok-outcome-in-Ok-clause-outcome
returns-in_ok-outcome-in-Ok-clause-outcome g c =
    policy_text (g.H.Shelf.told c.args.shelf.now) (said_with (record_job c.args.trace.now c.args.policy.now) c.args.options) (map (λ b. (goal.Ranker-dyn g (b.vtable, b.value)).meaning b.value) c.args.bench.now.items)
    c.args.policy.now c.in_ok-input.input.table c.in_ok-input.input.weights c.in_ok-input.ensures.input ((goal.Ranker-dyn g (c.take_at-ranker.result.vtable, c.take_at-ranker.result.value)).meaning c.take_at-ranker.result.value)
    (taken_of (λ b. (goal.Ranker-dyn g (b.vtable, b.value)).meaning b.value) c.deref.result.now c.args.bench.now.items c.args.policy.now c.in-Some.place c.take_at-ranker.result
    c.take_at-ranker.new.bench.items c.deref.ensures.value c.in-Some.ensures.some c.take_at-ranker.ensures)
    c.in-Ok.recorded c.in_ok-outcome-in-Ok.outcome.status c.in_ok-outcome-in-Ok.outcome.text c.in-Ok.ensures.recorded c.in-Ok.ensures.form c.in-Ok.ensures.right
    c.in_ok-outcome-in-Ok.ensures.told

pub returns-in_ok-outcome-in-Ok-clause-few : goal.returns-in_ok-outcome-in-Ok-clause-few
returns-in_ok-outcome-in-Ok-clause-few g c =
    policy_few (g.H.Shelf.told c.args.shelf.now) (said_with (record_job c.args.trace.now c.args.policy.now) c.args.options) (map (λ b. (goal.Ranker-dyn g (b.vtable, b.value)).meaning b.value) c.args.bench.now.items)
    c.args.policy.now c.in_ok-input.input.table c.in_ok-input.input.weights c.in_ok-input.ensures.input ((goal.Ranker-dyn g (c.take_at-ranker.result.vtable, c.take_at-ranker.result.value)).meaning c.take_at-ranker.result.value)
    (taken_of (λ b. (goal.Ranker-dyn g (b.vtable, b.value)).meaning b.value) c.deref.result.now c.args.bench.now.items c.args.policy.now c.in-Some.place c.take_at-ranker.result
    c.take_at-ranker.new.bench.items c.deref.ensures.value c.in-Some.ensures.some c.take_at-ranker.ensures)
    c.args.trace.now c.in-Ok.ensures.few

pub returns-in_ok-outcome-in-Ok-clause-left : goal.returns-in_ok-outcome-in-Ok-clause-left
returns-in_ok-outcome-in-Ok-clause-left g c = (length c.args.bench.now.items, c.clear.ensures.items ∙ sym (drop-length c.args.bench.now.items))

pub returns-in_ok-outcome-in-Ok-clause-lacks_policy : goal.returns-in_ok-outcome-in-Ok-clause-lacks_policy
returns-in_ok-outcome-in-Ok-clause-lacks_policy g c = λ none.
    absurd (not_lacking_of (λ b. (goal.Ranker-dyn g (b.vtable, b.value)).meaning b.value) c.deref.result.now c.args.bench.now.items c.args.policy.now c.in-Some.place c.deref.ensures.value
    c.in-Some.ensures.some none)

pub returns-in-Err-clause-left : goal.returns-in-Err-clause-left
returns-in-Err-clause-left g c = (
  c.in-Some.place + 1,
  next_left c.args.bench.now.items (drop c.in-Some.place c.args.bench.now.items) c.take_at-ranker.new.bench.items c.in-Some.place c.take_at-ranker.result refl
      c.take_at-ranker.ensures,
)

pub returns-in-Err-clause-lacks_policy : goal.returns-in-Err-clause-lacks_policy
returns-in-Err-clause-lacks_policy g c = λ none.
    absurd (not_lacking_of (λ b. (goal.Ranker-dyn g (b.vtable, b.value)).meaning b.value) c.deref.result.now c.args.bench.now.items c.args.policy.now c.in-Some.place c.deref.ensures.value
    c.in-Some.ensures.some none)

pub returns-in-Err-clause-cause : goal.returns-in-Err-clause-cause
returns-in-Err-clause-cause g c =
    record_cause c.in-Err.fault c.status_of.result
    (HasFilesCause (g.H.Shelf.faults c.args.shelf.now) (g.H.Shelf.faults c.read_input.new.shelf) (g.H.Shelf.told c.args.shelf.now) (g.H.Shelf.told c.read_input.new.shelf)
    (said_with (record_job c.args.trace.now c.args.policy.now) c.args.options))
    (IsPolicyCause (LacksPolicy (map (λ b. (goal.Ranker-dyn g (b.vtable, b.value)).meaning b.value) c.args.bench.now.items) (record_job c.args.trace.now c.args.policy.now))) _ c.status_of.ensures tt
    (λ count is. policy_more (g.H.Shelf.told c.args.shelf.now) (said_with (record_job c.args.trace.now c.args.policy.now) c.args.options) (map (λ b. (goal.Ranker-dyn g (b.vtable, b.value)).meaning b.value) c.args.bench.now.items)
    c.args.policy.now c.in_ok-input.input.table c.in_ok-input.input.weights c.in_ok-input.ensures.input ((goal.Ranker-dyn g (c.take_at-ranker.result.vtable, c.take_at-ranker.result.value)).meaning c.take_at-ranker.result.value)
    (taken_of (λ b. (goal.Ranker-dyn g (b.vtable, b.value)).meaning b.value) c.deref.result.now c.args.bench.now.items c.args.policy.now c.in-Some.place c.take_at-ranker.result
    c.take_at-ranker.new.bench.items c.deref.ensures.value c.in-Some.ensures.some c.take_at-ranker.ensures)
    count c.in_ok-input.ensures.table (c.in-Err.ensures.too_many count (ap Err is)))
