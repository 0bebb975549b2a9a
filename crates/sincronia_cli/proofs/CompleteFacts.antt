-- A command whose files are good ends well, where no count rose and there is memory.
use Rattle.std.proofs.Common.{◌≡◌, ℕ, inl, inr, List, Option, Some, None, ap, refl, sym, subst, ◌∙◌}
use Rattle.std.specs.Prelude.{◌⊎◌, Bool, false, true}
use Rattle.command_words.specs.Jobs.{Job, order_name, report_name, script_name}
use Rattle.command_words.specs.Jobs.Job.{audit_job, check_job, classes_job, compare_job, live_job, make_job, online_job, plan_job, record_job, replay_job, serve_job}
use Rattle.coflow_units.specs.declared.limits.TheConstants.{MAX_TEXT}
use Rattle.command_words.specs.Line.{Text}
use Rattle.command_words.specs.Words.{IsWords, Said}
use Rattle.command_words.proofs.OneMeaning.{words_one}
use Rattle.flow_table.specs.Table.{TableFacts}
use Rattle.rankers.specs.Meaning.{Meaning}
use Rattle.outside.specs.Shelf.{Told}
use Rattle.command_files.specs.declared.status.Status.{Status}
use Rattle.command_files.specs.declared.status.Status.TheVariants as status
use Rattle.sincronia_cli.specs.Causes.{CauseBy, HasCauseOf}
use Rattle.command_files.specs.JobCauses.{HasFilesCause, IsBadFor}
use Rattle.command_files.specs.Causes.{FilesGiveTable}
use Rattle.command_files.specs.Limits.{most_bytes}
use Rattle.command_jobs.specs.Check.{status_for}
use Rattle.sincronia_cli.specs.Command.{ReadsFiles}
use Rattle.sincronia_cli.specs.Complete.{AreGood, EndsWell}
use Rattle.command_files.specs.GoodFiles.{HasGoodFiles}
use Rattle.command_files.specs.Ends.{IsStill}
use Rattle.command_files.specs.Inputs.{bytes_if}
use Rattle.sincronia_cli.specs.Outcome.{IsOutcome, OutcomeBy}
use Rattle.command_jobs.specs.Online.{FilesPublishMore}
use Rattle.command_jobs.specs.Record.{LacksPolicy, RecordPublishesMore}
use Rattle.command_jobs.specs.Replay.{ReplaysPublishMore}
use Rattle.command_jobs.specs.Serving.{Serves, Service}
use Rattle.command_jobs.specs.Serving.Service.{online_of, plan_of, script_of}
use Rattle.command_jobs.proofs.EndCauses.{by_epochs, by_made, by_policy, by_wire}
use Rattle.command_files.proofs.GoodFacts.{HasNoFault, files_end, journal_is_good, no_order, no_report, no_script, order_is_good, order_is_short, report_is_good, script_is_good}

-- ---- a text that reads has no fault

module _ (said : Said) (t : Told) where
  pub no_report_of : (k : Job) → said.job ≡ k → report_name k ≡ None → HasNoFault (IsBadFor said.job) (most_bytes said.job) (bytes_if t (report_name said.job))
  no_report_of k same none =
      subst (λ (n : Option (List ℕ)). HasNoFault (IsBadFor said.job) (most_bytes said.job) (bytes_if t n)) (sym (ap report_name same ∙ none))
      (no_report (IsBadFor said.job) (most_bytes said.job))

  good_of : (k : Job) → said.job ≡ k → HasNoFault (IsBadFor k) (most_bytes k) (bytes_if t (report_name said.job)) →
      HasNoFault (IsBadFor said.job) (most_bytes said.job) (bytes_if t (report_name said.job))
  good_of k same good = subst (λ (j : Job). HasNoFault (IsBadFor j) (most_bytes j) (bytes_if t (report_name said.job))) (sym same) good

  -- the report, the printed journal or the order of good files, where there is one, has no fault
  pub other_is_good : (k : Job) → said.job ≡ k → HasGoodFiles k said t → HasNoFault (IsBadFor said.job) (most_bytes said.job) (bytes_if t (report_name said.job))
  other_is_good (plan_job trace) same good = no_report_of (plan_job trace) same refl
  other_is_good (check_job trace report) same (table, text) = good_of (check_job trace report) same (report_is_good (bytes_if t (report_name said.job)) text)
  other_is_good (make_job seed) same good = no_report_of (make_job seed) same refl
  other_is_good (compare_job trace) same good = no_report_of (compare_job trace) same refl
  other_is_good (classes_job trace) same good = no_report_of (classes_job trace) same refl
  other_is_good (online_job trace) same good = no_report_of (online_job trace) same refl
  other_is_good (replay_job trace) same good = no_report_of (replay_job trace) same refl
  other_is_good (record_job trace policy) same good = no_report_of (record_job trace policy) same refl
  other_is_good (live_job trace script) same good = no_report_of (live_job trace script) same refl
  other_is_good (audit_job trace journal) same (table, text) = good_of (audit_job trace journal) same (journal_is_good (bytes_if t (report_name said.job)) text)
  other_is_good (serve_job trace order) same (table, text) =
      good_of (serve_job trace order) same
      (subst (λ (n : Option (List ℕ)). HasNoFault (λ bytes line. ⊥) MAX_TEXT (bytes_if t n)) (ap order_name same ∙ sym (ap report_name same))
      (order_is_short table.table.ids (bytes_if t (order_name said.job)) text))

  -- good files that are read give a table
  pub table_is_good : (k : Job) → ReadsFiles k → HasGoodFiles k said t → FilesGiveTable said t
  table_is_good (plan_job trace) reads table = table
  table_is_good (check_job trace report) reads (table, text) = table
  table_is_good (make_job seed) reads good = absurd reads
  table_is_good (compare_job trace) reads table = table
  table_is_good (classes_job trace) reads table = table
  table_is_good (online_job trace) reads table = table
  table_is_good (replay_job trace) reads table = table
  table_is_good (record_job trace policy) reads table = table
  table_is_good (live_job trace script) reads good = good.0.given
  table_is_good (audit_job trace journal) reads (table, text) = table
  table_is_good (serve_job trace order) reads (table, text) = table

-- ---- so a command does not end early

-- no wire failed, whatever was sent
abbrev pub NoneFailed : (ℕ → Service → Type 0) → Type 0
NoneFailed F = (port : ℕ) (s : Service) → F port s → ⊥

-- a job that names no script and no order
ends_without : (k : Job) (before now : ℕ) (t : Told) (new : Option Told) (said : Said) (s : Status) → said.job ≡ k → script_name k ≡ None → order_name k ≡ None →
    HasFilesCause before now (Some t) new said s → FilesGiveTable said t → HasGoodFiles k said t → IsStill before now → s ≡ status.NoMemory
ends_without k before now t new said s same script order cause table good still =
    files_end before now t new said s cause table (other_is_good said t k same good) (no_script said t (ap script_name same ∙ script))
    (no_order said t (ap order_name same ∙ order)) still

by_command : (F : ℕ → Service → Type 0) (bench : List Meaning) (k : Job) (before now : ℕ) (old new : Option Told) (said : Said) (s : Status) → said.job ≡ k →
    CauseBy F bench k before now old new said s → AreGood bench k said old → IsStill before now → NoneFailed F → s ≡ status.NoMemory
by_command F bench (plan_job trace) before now None new said s same cause good still wires = absurd good
by_command F bench (plan_job trace) before now (Some t) new said s same (inl cause) good still wires =
    ends_without (plan_job trace) before now t new said s same refl refl cause good good still
by_command F bench (plan_job trace) before now (Some t) new said s same (inr cause) good still wires =
    let (port, count, is, serves) = by_wire (λ port. Serves (F port) (plan_job trace) (Some t) said) s cause in
    let (table, list, input, f) = serves in
    absurd (wires port (plan_of table list) f)
by_command F bench (check_job trace report) before now None new said s same cause good still wires = absurd good
by_command F bench (check_job trace report) before now (Some t) new said s same cause good still wires =
    ends_without (check_job trace report) before now t new said s same refl refl cause good.0 good still
by_command F bench (make_job seed) before now old new said s same (inl cause) good still wires = by_made s cause
by_command F bench (make_job seed) before now old new said s same (inr cause) good still wires =
    let (port, count, is, serves) = by_wire (λ port. Serves (F port) (make_job seed) old said) s cause in
    let (table, list, gives, f) = serves in
    absurd (wires port (plan_of table list) f)
by_command F bench (compare_job trace) before now None new said s same cause good still wires = absurd good
by_command F bench (compare_job trace) before now (Some t) new said s same cause good still wires =
    ends_without (compare_job trace) before now t new said s same refl refl cause good good still
by_command F bench (classes_job trace) before now None new said s same cause good still wires = absurd good
by_command F bench (classes_job trace) before now (Some t) new said s same cause good still wires =
    ends_without (classes_job trace) before now t new said s same refl refl cause good good still
by_command F bench (online_job trace) before now None new said s same cause good still wires = absurd good
by_command F bench (online_job trace) before now (Some t) new said s same (inl cause) good still wires =
    ends_without (online_job trace) before now t new said s same refl refl cause good.0 good.0 still
by_command F bench (online_job trace) before now (Some t) new said s same (inr (inl cause)) good still wires =
    let (port, count, is, serves) = by_wire (λ port. Serves (F port) (online_job trace) (Some t) said) s cause in
    let (table, list, input, f) = serves in
    absurd (wires port (online_of table list said.slot_ms said.epoch) f)
by_command F bench (online_job trace) before now (Some t) new said s same (inr (inr cause)) good still wires =
    let (count, is, more) = by_epochs (λ count. FilesPublishMore said count t) s cause in
    absurd (good.1 count more)
by_command F bench (replay_job trace) before now None new said s same cause good still wires = absurd good
by_command F bench (replay_job trace) before now (Some t) new said s same (inl cause) good still wires =
    ends_without (replay_job trace) before now t new said s same refl refl cause good.0 good.0 still
by_command F bench (replay_job trace) before now (Some t) new said s same (inr cause) good still wires =
    let (count, is, more) = by_epochs (λ count. ReplaysPublishMore bench said count t) s cause in
    absurd (good.1 count more)
by_command F bench (record_job trace policy) before now None new said s same cause good still wires = absurd good.1
by_command F bench (record_job trace policy) before now (Some t) new said s same (inl cause) good still wires =
    ends_without (record_job trace policy) before now t new said s same refl refl cause good.1.0 good.1.0 still
by_command F bench (record_job trace policy) before now (Some t) new said s same (inr (inl cause)) good still wires =
    let (count, is, more) = by_epochs (λ count. RecordPublishesMore bench policy said count t) s cause in
    absurd (good.1.1 count more)
by_command F bench (record_job trace policy) before now (Some t) new said s same (inr (inr cause)) good still wires =
    let (is, lacks) = by_policy (LacksPolicy bench (record_job trace policy)) s cause in
    absurd (good.0 lacks)
by_command F bench (live_job trace script) before now None new said s same cause good still wires = absurd good
by_command F bench (live_job trace script) before now (Some t) new said s same (inl cause) good still wires =
    files_end before now t new said s cause good.0.given (other_is_good said t (live_job trace script) same good) (script_is_good said t good)
    (no_order said t (ap order_name same)) still
by_command F bench (live_job trace script) before now (Some t) new said s same (inr cause) good still wires =
    let (port, count, is, serves) = by_wire (λ port. Serves (F port) (live_job trace script) (Some t) said) s cause in
    let (table, list, input, asked, reads, f) = serves in
    absurd (wires port (script_of table list asked) f)
by_command F bench (audit_job trace journal) before now None new said s same cause good still wires = absurd good
by_command F bench (audit_job trace journal) before now (Some t) new said s same cause good still wires =
    ends_without (audit_job trace journal) before now t new said s same refl refl cause good.0 good still
by_command F bench (serve_job trace order) before now None new said s same cause good still wires = absurd good
by_command F bench (serve_job trace order) before now (Some t) new said s same cause good still wires =
    files_end before now t new said s cause good.0 (other_is_good said t (serve_job trace order) same good) (no_script said t (ap script_name same))
    (order_is_good said t good) still

pub good_files_end : (F : ℕ → Service → Type 0) (bench : List Meaning) (words : List Text) (by said : Said) (before now : ℕ) (old new : Option Told) (s : Status) →
    IsWords words by →
    IsWords words said → HasCauseOf F bench before now old new by s → AreGood bench said.job said old → IsStill before now → NoneFailed F →
    EndsWell said.job s ⊎ (s ≡ status.NoMemory)
good_files_end F bench words by said before now old new s reads is cause good still wires =
    inr (by_command F bench said.job before now old new said s refl
    (subst (λ (x : Said). HasCauseOf F bench before now old new x s) (words_one words by said reads is) cause) good still wires)

-- ---- and where its text was written it ended well

answer_ends : (answer : Bool) (s : Status) → s ≡ status_for answer → (s ≡ status.Ok) ⊎ (s ≡ status.No)
answer_ends true s is = inl is
answer_ends false s is = inr is

pub written_by : (S : TableFacts → List (List ℕ) → Type 0) (k : Job) (told : Option Told) (said : Said) (bench : List Meaning) (s : Status) (text : List ℕ) →
    OutcomeBy S k told said bench s text → EndsWell k s
written_by S (plan_job trace) told said bench s text outcome = outcome.0
written_by S (check_job trace report) told said bench s text (answer, is, checks) = answer_ends answer s is
written_by S (make_job seed) told said bench s text outcome = outcome.0
written_by S (compare_job trace) told said bench s text outcome = outcome.0
written_by S (classes_job trace) told said bench s text outcome = outcome.0
written_by S (online_job trace) told said bench s text outcome = outcome.0
written_by S (replay_job trace) told said bench s text outcome = outcome.0
written_by S (record_job trace policy) told said bench s text (answer, is, records) = answer_ends answer s is
written_by S (live_job trace script) told said bench s text outcome = outcome.0
written_by S (serve_job trace order) told said bench s text outcome = outcome.0
written_by S (audit_job trace journal) told said bench s text (answer, is, audits) = answer_ends answer s is

pub written_ends : (S : TableFacts → List (List ℕ) → Type 0) (words : List Text) (by said : Said) (told : Option Told) (bench : List Meaning) (s : Status) (text : List ℕ) →
    IsWords words by → IsWords words said → IsOutcome S told by bench s text →
    EndsWell said.job s ⊎ (s ≡ status.NoMemory)
written_ends S words by said told bench s text reads is outcome =
    inl (written_by S said.job told said bench s text (subst (λ (x : Said). IsOutcome S told x bench s text) (words_one words by said reads is) outcome))
