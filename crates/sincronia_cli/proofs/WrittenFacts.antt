-- What was written, by the command of the words.
use Rattle.std.proofs.Common.{◌≡◌, ℕ, List, refl, sym, subst, ◌∙◌}
use Rattle.std.specs.Prelude.{Bool, Option, Ok, false, true}
use Rattle.command_words.specs.Jobs.{Job}
use Rattle.command_words.specs.Jobs.Job.{audit_job, check_job, classes_job, compare_job, live_job, make_job, online_job, plan_job, record_job, replay_job, serve_job}
use Rattle.command_words.specs.Line.{Text}
use Rattle.command_words.specs.Words.{IsWords, Said}
use Rattle.flow_table.specs.Table.{TableFacts}
use Rattle.outside.specs.Shelf.{Told}
use Rattle.rankers.specs.Meaning.{Meaning}
use Rattle.outside.specs.Sink.{TakesText}
use Rattle.command_files.specs.declared.status.Status.{Status}
use Rattle.command_files.specs.declared.status.Status.TheVariants as status
use Rattle.command_jobs.specs.Audit.{AuditOf, WritesSound, WritesUnsound}
use Rattle.command_jobs.specs.Check.{CheckOf, WritesNo, WritesYes, status_for}
use Rattle.sincronia_cli.specs.Command.{IsCommand}
use Rattle.command_jobs.specs.Classes.{WritesClasses}
use Rattle.command_jobs.specs.Compare.{WritesComparison}
use Rattle.command_jobs.specs.Live.{WritesLive}
use Rattle.command_jobs.specs.Make.{WritesMade}
use Rattle.sincronia_cli.specs.Outcome.{IsOutcome, OutcomeBy, WritesNoBy}
use Rattle.command_jobs.specs.Online.{WritesOnline}
use Rattle.command_jobs.specs.Ordered.{WritesServed}
use Rattle.command_jobs.specs.Plan.{WritesPlan}
use Rattle.command_jobs.specs.Record.{PolicyOf, WritesRecord, WritesUnfit}
use Rattle.command_jobs.specs.Replay.{WritesReplay}
use Rattle.command_jobs.proofs.AuditFacts.{sure_sound}
use Rattle.command_jobs.proofs.CheckFacts.{OnlineLaw, sure_yes}
use Rattle.command_jobs.proofs.CompareFacts.{writes_comparison}
use Rattle.sincronia_cli.proofs.OutcomeFacts.{outcome_by}
use Rattle.command_files.proofs.SinkFacts.{appended}
use Rattle.command_jobs.proofs.OnlineFacts.{writes_online}
use Rattle.command_jobs.proofs.OrderedFacts.{writes_served}
use Rattle.command_jobs.proofs.PlanFacts.{writes_plan}
use Rattle.command_jobs.proofs.ReplayFacts.{writes_replay}

module _ {X : Type 0} (E : Type 0) (S : TableFacts → List (List ℕ) → Type 0) (words : List Text) (by said : Said) (told : Option Told) (bench : List Meaning) (s : Status)
    (text lent : List ℕ) (old new : Option (List ℕ)) (x : X) where
  pub plan_written : (trace : Text) → IsWords words by → IsCommand (plan_job trace) words said → IsOutcome S told by bench s text → lent ≡ text →
      TakesText {E = E} old new lent (Ok x) → WritesPlan S told said old new
  plan_written trace reads is outcome e takes =
      writes_plan S told said old new text (outcome_by S words by said (plan_job trace) told bench s text reads is outcome).1 (appended E old new text lent x e takes)

  pub made_written : (seed : ℕ) → IsWords words by → IsCommand (make_job seed) words said → IsOutcome S told by bench s text → lent ≡ text →
      TakesText {E = E} old new lent (Ok x) → WritesMade S seed said.unit old new
  made_written seed reads is outcome e takes =
      record { text = text; makes = (outcome_by S words by said (make_job seed) told bench s text reads is outcome).1; written = appended E old new text lent x e takes }

  pub comparison_written : (trace : Text) → IsWords words by → IsCommand (compare_job trace) words said → IsOutcome S told by bench s text → lent ≡ text →
      TakesText {E = E} old new lent (Ok x) → WritesComparison told said bench old new
  comparison_written trace reads is outcome e takes =
      writes_comparison told said bench old new text (outcome_by S words by said (compare_job trace) told bench s text reads is outcome).1 (appended E old new text lent x e takes)

  pub classes_written : (trace : Text) → IsWords words by → IsCommand (classes_job trace) words said → IsOutcome S told by bench s text → lent ≡ text →
      TakesText {E = E} old new lent (Ok x) → WritesClasses told said old new
  classes_written trace reads is outcome e takes =
      record { text = text; classes = (outcome_by S words by said (classes_job trace) told bench s text reads is outcome).1; written = appended E old new text lent x e takes }

  pub online_written : (trace : Text) → IsWords words by → IsCommand (online_job trace) words said → IsOutcome S told by bench s text → lent ≡ text →
      TakesText {E = E} old new lent (Ok x) → WritesOnline S told said old new
  online_written trace reads is outcome e takes =
      writes_online S told said old new text (outcome_by S words by said (online_job trace) told bench s text reads is outcome).1 (appended E old new text lent x e takes)

  pub live_written : (trace script : Text) → IsWords words by → IsCommand (live_job trace script) words said → IsOutcome S told by bench s text → lent ≡ text →
      TakesText {E = E} old new lent (Ok x) → WritesLive S told said old new
  live_written trace script reads is outcome e takes =
      record { text = text; run = (outcome_by S words by said (live_job trace script) told bench s text reads is outcome).1; written = appended E old new text lent x e takes }

  pub served_written : (trace order : Text) → IsWords words by → IsCommand (serve_job trace order) words said → IsOutcome S told by bench s text → lent ≡ text →
      TakesText {E = E} old new lent (Ok x) → WritesServed told said old new
  served_written trace order reads is outcome e takes =
      writes_served told said old new text (outcome_by S words by said (serve_job trace order) told bench s text reads is outcome).1 (appended E old new text lent x e takes)

  pub replay_written : (trace : Text) → IsWords words by → IsCommand (replay_job trace) words said → IsOutcome S told by bench s text → lent ≡ text →
      TakesText {E = E} old new lent (Ok x) → WritesReplay told said bench old new
  replay_written trace reads is outcome e takes =
      writes_replay told said bench old new text (outcome_by S words by said (replay_job trace) told bench s text reads is outcome).1 (appended E old new text lent x e takes)

  yes_for : (answer : Bool) → s ≡ status_for answer → s ≡ status.Ok → answer ≡ true
  yes_for true is ok = refl
  yes_for false is ok = let bad : status.Ok ≡ status.No = sym ok ∙ is in cc

  pub yes_written : OnlineLaw → (trace report : Text) → IsWords words by → IsCommand (check_job trace report) words said → IsOutcome S told by bench s text →
      s ≡ status.Ok → lent ≡ text →
      TakesText {E = E} old new lent (Ok x) →
      WritesYes told said old new
  yes_written law trace report reads is outcome ok e takes =
      let (answer, status_is, checks) = outcome_by S words by said (check_job trace report) told bench s text reads is outcome in
      sure_yes law told said old new text (subst (λ (v : Bool). CheckOf told said v text) (yes_for answer status_is ok) checks) (appended E old new text lent x e takes)

  pub record_written : (trace policy : Text) → IsWords words by → IsCommand (record_job trace policy) words said → IsOutcome S told by bench s text → s ≡ status.Ok →
      lent ≡ text → TakesText {E = E} old new lent (Ok x) → WritesRecord told said policy bench old new
  record_written trace policy reads is outcome ok e takes =
      let (answer, status_is, records) = outcome_by S words by said (record_job trace policy) told bench s text reads is outcome in
      record {
        text = text;
        run = subst (λ (v : Bool). PolicyOf told said policy bench v text) (yes_for answer status_is ok) records;
        written = appended E old new text lent x e takes;
      }

  pub sound_written : (trace journal : Text) → IsWords words by → IsCommand (audit_job trace journal) words said → IsOutcome S told by bench s text → s ≡ status.Ok → lent ≡ text →
      TakesText {E = E} old new lent (Ok x) → WritesSound told said old new
  sound_written trace journal reads is outcome ok e takes =
      let (answer, status_is, audits) = outcome_by S words by said (audit_job trace journal) told bench s text reads is outcome in
      sure_sound told said old new text (subst (λ (v : Bool). AuditOf told said v text) (yes_for answer status_is ok) audits) (appended E old new text lent x e takes)

  pub no_written : IsOutcome S told by bench s text → s ≡ status.No → lent ≡ text → TakesText {E = E} old new lent (Ok x) → WritesNoBy bench by.job told by old new
  no_written outcome wrong e takes = by_job by.job outcome
    where
      by_answer : (answer : Bool) → s ≡ status_for answer → CheckOf told by answer text → WritesNo told by old new
      by_answer true is checks = let bad : status.Ok ≡ status.No = sym is ∙ wrong in cc
      by_answer false is checks = record { text = text; checks = checks; written = appended E old new text lent x e takes }

      by_verdict : (answer : Bool) → s ≡ status_for answer → AuditOf told by answer text → WritesUnsound told by old new
      by_verdict true is audits = let bad : status.Ok ≡ status.No = sym is ∙ wrong in cc
      by_verdict false is audits = record { text = text; audits = audits; written = appended E old new text lent x e takes }

      by_policy : (policy : Text) (answer : Bool) → s ≡ status_for answer → PolicyOf told by policy bench answer text → WritesUnfit told by policy bench old new
      by_policy policy true is record_of = let bad : status.Ok ≡ status.No = sym is ∙ wrong in cc
      by_policy policy false is unfit = record { text = text; run = unfit; written = appended E old new text lent x e takes }

      by_job : (k : Job) → OutcomeBy S k told by bench s text → WritesNoBy bench k told by old new
      by_job (plan_job trace) (is, plan) = let bad : status.Ok ≡ status.No = sym is ∙ wrong in cc
      by_job (check_job trace report) (answer, is, checks) = by_answer answer is checks
      by_job (make_job seed) (is, made) = let bad : status.Ok ≡ status.No = sym is ∙ wrong in cc
      by_job (compare_job trace) (is, compares) = let bad : status.Ok ≡ status.No = sym is ∙ wrong in cc
      by_job (classes_job trace) (is, classes) = let bad : status.Ok ≡ status.No = sym is ∙ wrong in cc
      by_job (serve_job trace order) (is, serves) = let bad : status.Ok ≡ status.No = sym is ∙ wrong in cc
      by_job (replay_job trace) (is, replays) = let bad : status.Ok ≡ status.No = sym is ∙ wrong in cc
      by_job (record_job trace policy) (answer, is, records) = by_policy policy answer is records
      by_job (live_job trace script) (is, run) = let bad : status.Ok ≡ status.No = sym is ∙ wrong in cc
      by_job (online_job trace) (is, run) = let bad : status.Ok ≡ status.No = sym is ∙ wrong in cc
      by_job (audit_job trace journal) (answer, is, audits) = by_verdict answer is audits
