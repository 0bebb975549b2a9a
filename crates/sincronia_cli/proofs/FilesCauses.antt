-- The causes of a status for which a command wrote nothing.
use Rattle.std.proofs.Common.{◌≡◌, ℕ, inl, inr, List, subst}
use Rattle.std.specs.Prelude.{Option}
use Rattle.command_words.specs.Jobs.{Job}
use Rattle.command_words.specs.Jobs.Job.{audit_job, check_job, classes_job, compare_job, live_job, make_job, online_job, plan_job, record_job, replay_job, serve_job}
use Rattle.command_words.specs.Words.{Said}
use Rattle.outside.specs.Shelf.{Told}
use Rattle.rankers.specs.Meaning.{Meaning}
use Rattle.trace_reader.specs.declared.fault.TraceFault.{TraceFault}
use Rattle.weights.specs.declared.fault.WeightsFault.{WeightsFault}
use Rattle.command_files.specs.declared.status.Status.{Status}
use Rattle.command_files.specs.declared.status.Status.TheVariants as status
use Rattle.command_files.specs.Ends.{IsWriteFault}
use Rattle.command_files.specs.JobCauses.{HasFilesCause}
use Rattle.command_jobs.specs.Record.{LacksPolicy}
use Rattle.sincronia_cli.specs.Causes.{CauseBy, HasCauseOf}
use Rattle.sincronia_cli.specs.Command.{ReadsFiles}
use Rattle.sincronia_cli.specs.Outcome.{HasText}
use Rattle.sincronia_cli.proofs.BenchFacts.{cause_has_no_text}

-- ---- words that are no command line

usage_by : (F : ℕ → _ → Type 0) (bench : List Meaning) (k : Job) (before now : ℕ) (old new : Option Told) (said : Said) →
    CauseBy F bench k before now old new said status.Usage → ⊥
usage_by F bench (plan_job trace) before now old new said (inl h) = h
usage_by F bench (plan_job trace) before now old new said (inr h) = absurd h
usage_by F bench (check_job trace report) before now old new said h = h
usage_by F bench (make_job seed) before now old new said (inl h) = absurd h
usage_by F bench (make_job seed) before now old new said (inr h) = absurd h
usage_by F bench (compare_job trace) before now old new said h = h
usage_by F bench (classes_job trace) before now old new said h = h
usage_by F bench (serve_job trace order) before now old new said h = h
usage_by F bench (online_job trace) before now old new said (inl h) = h
usage_by F bench (online_job trace) before now old new said (inr (inl h)) = absurd h
usage_by F bench (online_job trace) before now old new said (inr (inr h)) = absurd h
usage_by F bench (replay_job trace) before now old new said (inl h) = h
usage_by F bench (replay_job trace) before now old new said (inr h) = absurd h
usage_by F bench (record_job trace policy) before now old new said (inl h) = h
usage_by F bench (record_job trace policy) before now old new said (inr (inl h)) = absurd h
usage_by F bench (record_job trace policy) before now old new said (inr (inr h)) = absurd h
usage_by F bench (live_job trace script) before now old new said (inl h) = h
usage_by F bench (live_job trace script) before now old new said (inr h) = absurd h
usage_by F bench (audit_job trace journal) before now old new said h = h

pub usage_given : (F : ℕ → _ → Type 0) (bench : List Meaning) (said : Said) (before now : ℕ) (old new : Option Told) (s : Status) →
    HasCauseOf F bench before now old new said s → s ≡ status.Usage → ⊥
usage_given F bench said before now old new s cause is =
    usage_by F bench said.job before now old new said (subst (λ (x : Status). HasCauseOf F bench before now old new said x) is cause)

-- ---- a policy that no ranker has

policy_by : (F : ℕ → _ → Type 0) (bench : List Meaning) (k : Job) (before now : ℕ) (old new : Option Told) (said : Said) →
    CauseBy F bench k before now old new said status.UnknownPolicy → LacksPolicy bench k
policy_by F bench (plan_job trace) before now old new said (inl h) = absurd h
policy_by F bench (plan_job trace) before now old new said (inr h) = absurd h
policy_by F bench (check_job trace report) before now old new said h = absurd h
policy_by F bench (make_job seed) before now old new said (inl h) = absurd h
policy_by F bench (make_job seed) before now old new said (inr h) = absurd h
policy_by F bench (compare_job trace) before now old new said h = absurd h
policy_by F bench (classes_job trace) before now old new said h = absurd h
policy_by F bench (serve_job trace order) before now old new said h = absurd h
policy_by F bench (online_job trace) before now old new said (inl h) = absurd h
policy_by F bench (online_job trace) before now old new said (inr (inl h)) = absurd h
policy_by F bench (online_job trace) before now old new said (inr (inr h)) = absurd h
policy_by F bench (replay_job trace) before now old new said (inl h) = absurd h
policy_by F bench (replay_job trace) before now old new said (inr h) = absurd h
policy_by F bench (record_job trace policy) before now old new said (inl h) = absurd h
policy_by F bench (record_job trace policy) before now old new said (inr (inl h)) = absurd h
policy_by F bench (record_job trace policy) before now old new said (inr (inr h)) = h
policy_by F bench (live_job trace script) before now old new said (inl h) = absurd h
policy_by F bench (live_job trace script) before now old new said (inr h) = absurd h
policy_by F bench (audit_job trace journal) before now old new said h = absurd h

pub policy_given : (F : ℕ → _ → Type 0) (bench : List Meaning) (said : Said) (before now : ℕ) (old new : Option Told) (s : Status) →
    HasCauseOf F bench before now old new said s → s ≡ status.UnknownPolicy → LacksPolicy bench said.job
policy_given F bench said before now old new s cause is =
    policy_by F bench said.job before now old new said (subst (λ (x : Status). HasCauseOf F bench before now old new said x) is cause)

-- ---- a file that is no trace

bad_trace_by : (F : ℕ → _ → Type 0) (bench : List Meaning) (k : Job) (before now : ℕ) (old new : Option Told) (said : Said) (fault : TraceFault) →
    CauseBy F bench k before now old new said (status.BadTrace fault) → ReadsFiles k × HasFilesCause before now old new said (status.BadTrace fault)
bad_trace_by F bench (plan_job trace) before now old new said fault (inl h) = (tt, h)
bad_trace_by F bench (plan_job trace) before now old new said fault (inr h) = absurd h
bad_trace_by F bench (check_job trace report) before now old new said fault h = (tt, h)
bad_trace_by F bench (make_job seed) before now old new said fault (inl h) = absurd h
bad_trace_by F bench (make_job seed) before now old new said fault (inr h) = absurd h
bad_trace_by F bench (compare_job trace) before now old new said fault h = (tt, h)
bad_trace_by F bench (classes_job trace) before now old new said fault h = (tt, h)
bad_trace_by F bench (serve_job trace order) before now old new said fault h = (tt, h)
bad_trace_by F bench (online_job trace) before now old new said fault (inl h) = (tt, h)
bad_trace_by F bench (online_job trace) before now old new said fault (inr (inl h)) = absurd h
bad_trace_by F bench (online_job trace) before now old new said fault (inr (inr h)) = absurd h
bad_trace_by F bench (replay_job trace) before now old new said fault (inl h) = (tt, h)
bad_trace_by F bench (replay_job trace) before now old new said fault (inr h) = absurd h
bad_trace_by F bench (record_job trace policy) before now old new said fault (inl h) = (tt, h)
bad_trace_by F bench (record_job trace policy) before now old new said fault (inr (inl h)) = absurd h
bad_trace_by F bench (record_job trace policy) before now old new said fault (inr (inr h)) = absurd h
bad_trace_by F bench (live_job trace script) before now old new said fault (inl h) = (tt, h)
bad_trace_by F bench (live_job trace script) before now old new said fault (inr h) = absurd h
bad_trace_by F bench (audit_job trace journal) before now old new said fault h = (tt, h)

pub bad_trace_given : (F : ℕ → _ → Type 0) (bench : List Meaning) (said : Said) (before now : ℕ) (old new : Option Told) (fault : TraceFault) (s : Status) →
    HasCauseOf F bench before now old new said s → s ≡ (status.BadTrace fault) → ReadsFiles said.job × HasFilesCause before now old new said (status.BadTrace fault)
bad_trace_given F bench said before now old new fault s cause is =
    bad_trace_by F bench said.job before now old new said fault (subst (λ (x : Status). HasCauseOf F bench before now old new said x) is cause)

-- ---- a file that is no weights

bad_weights_by : (F : ℕ → _ → Type 0) (bench : List Meaning) (k : Job) (before now : ℕ) (old new : Option Told) (said : Said) (fault : WeightsFault) →
    CauseBy F bench k before now old new said (status.BadWeights fault) → ReadsFiles k × HasFilesCause before now old new said (status.BadWeights fault)
bad_weights_by F bench (plan_job trace) before now old new said fault (inl h) = (tt, h)
bad_weights_by F bench (plan_job trace) before now old new said fault (inr h) = absurd h
bad_weights_by F bench (check_job trace report) before now old new said fault h = (tt, h)
bad_weights_by F bench (make_job seed) before now old new said fault (inl h) = absurd h
bad_weights_by F bench (make_job seed) before now old new said fault (inr h) = absurd h
bad_weights_by F bench (compare_job trace) before now old new said fault h = (tt, h)
bad_weights_by F bench (classes_job trace) before now old new said fault h = (tt, h)
bad_weights_by F bench (serve_job trace order) before now old new said fault h = (tt, h)
bad_weights_by F bench (online_job trace) before now old new said fault (inl h) = (tt, h)
bad_weights_by F bench (online_job trace) before now old new said fault (inr (inl h)) = absurd h
bad_weights_by F bench (online_job trace) before now old new said fault (inr (inr h)) = absurd h
bad_weights_by F bench (replay_job trace) before now old new said fault (inl h) = (tt, h)
bad_weights_by F bench (replay_job trace) before now old new said fault (inr h) = absurd h
bad_weights_by F bench (record_job trace policy) before now old new said fault (inl h) = (tt, h)
bad_weights_by F bench (record_job trace policy) before now old new said fault (inr (inl h)) = absurd h
bad_weights_by F bench (record_job trace policy) before now old new said fault (inr (inr h)) = absurd h
bad_weights_by F bench (live_job trace script) before now old new said fault (inl h) = (tt, h)
bad_weights_by F bench (live_job trace script) before now old new said fault (inr h) = absurd h
bad_weights_by F bench (audit_job trace journal) before now old new said fault h = (tt, h)

pub bad_weights_given : (F : ℕ → _ → Type 0) (bench : List Meaning) (said : Said) (before now : ℕ) (old new : Option Told) (fault : WeightsFault) (s : Status) →
    HasCauseOf F bench before now old new said s → s ≡ (status.BadWeights fault) → ReadsFiles said.job × HasFilesCause before now old new said (status.BadWeights fault)
bad_weights_given F bench said before now old new fault s cause is =
    bad_weights_by F bench said.job before now old new said fault (subst (λ (x : Status). HasCauseOf F bench before now old new said x) is cause)

-- ---- a call to the shelf that failed

read_fault_by : (F : ℕ → _ → Type 0) (bench : List Meaning) (k : Job) (before now : ℕ) (old new : Option Told) (said : Said) (count : ℕ) →
    CauseBy F bench k before now old new said (status.ReadFault count) → ReadsFiles k × HasFilesCause before now old new said (status.ReadFault count)
read_fault_by F bench (plan_job trace) before now old new said count (inl h) = (tt, h)
read_fault_by F bench (plan_job trace) before now old new said count (inr h) = absurd h
read_fault_by F bench (check_job trace report) before now old new said count h = (tt, h)
read_fault_by F bench (make_job seed) before now old new said count (inl h) = absurd h
read_fault_by F bench (make_job seed) before now old new said count (inr h) = absurd h
read_fault_by F bench (compare_job trace) before now old new said count h = (tt, h)
read_fault_by F bench (classes_job trace) before now old new said count h = (tt, h)
read_fault_by F bench (serve_job trace order) before now old new said count h = (tt, h)
read_fault_by F bench (online_job trace) before now old new said count (inl h) = (tt, h)
read_fault_by F bench (online_job trace) before now old new said count (inr (inl h)) = absurd h
read_fault_by F bench (online_job trace) before now old new said count (inr (inr h)) = absurd h
read_fault_by F bench (replay_job trace) before now old new said count (inl h) = (tt, h)
read_fault_by F bench (replay_job trace) before now old new said count (inr h) = absurd h
read_fault_by F bench (record_job trace policy) before now old new said count (inl h) = (tt, h)
read_fault_by F bench (record_job trace policy) before now old new said count (inr (inl h)) = absurd h
read_fault_by F bench (record_job trace policy) before now old new said count (inr (inr h)) = absurd h
read_fault_by F bench (live_job trace script) before now old new said count (inl h) = (tt, h)
read_fault_by F bench (live_job trace script) before now old new said count (inr h) = absurd h
read_fault_by F bench (audit_job trace journal) before now old new said count h = (tt, h)

pub read_fault_given : (F : ℕ → _ → Type 0) (bench : List Meaning) (said : Said) (before now : ℕ) (old new : Option Told) (count : ℕ) (s : Status) →
    HasCauseOf F bench before now old new said s → s ≡ (status.ReadFault count) → ReadsFiles said.job × HasFilesCause before now old new said (status.ReadFault count)
read_fault_given F bench said before now old new count s cause is =
    read_fault_by F bench said.job before now old new said count (subst (λ (x : Status). HasCauseOf F bench before now old new said x) is cause)

-- ---- a call to the sink that failed

has_text : (s : Status) → IsWriteFault s → HasText s
has_text status.Ok is = absurd is
has_text status.No is = absurd is
has_text status.Usage is = absurd is
has_text status.UnknownPolicy is = absurd is
has_text (status.BadTrace a) is = absurd is
has_text (status.BadWeights a) is = absurd is
has_text (status.BadReport a) is = absurd is
has_text (status.BadScript a b) is = absurd is
has_text (status.BadOrder a) is = absurd is
has_text (status.Limit a b) is = absurd is
has_text (status.ReadFault a) is = absurd is
has_text (status.WriteFault a) is = tt
has_text (status.WireFault a b) is = absurd is
has_text status.NoMemory is = absurd is

pub no_write_fault : (F : ℕ → _ → Type 0) (bench : List Meaning) (said : Said) (before now : ℕ) (old new : Option Told) (s : Status) →
    HasCauseOf F bench before now old new said s → IsWriteFault s → ⊥
no_write_fault F bench said before now old new s cause is = cause_has_no_text F bench before now old new said s cause (has_text s is)
