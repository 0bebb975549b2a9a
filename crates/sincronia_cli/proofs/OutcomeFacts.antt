-- What is to be written, by the command of the words.
use Rattle.std.proofs.Common.{◌≡◌, ℕ, inl, inr, List, refl, subst, sym}
use Rattle.std.specs.Prelude.{IfSome, None, Option, Some}
use Rattle.command_words.specs.Jobs.{Job, order_name, report_name, script_name}
use Rattle.command_words.specs.Jobs.Job.{audit_job, check_job, classes_job, compare_job, live_job, make_job, online_job, plan_job, record_job, replay_job, serve_job}
use Rattle.command_words.specs.Line.{Text}
use Rattle.command_words.specs.Words.{IsWords, Said}
use Rattle.command_words.proofs.OneMeaning.{words_one}
use Rattle.flow_table.specs.Table.{TableFacts}
use Rattle.orders.specs.declared.fault.OrderFault.{OrderFault}
use Rattle.outside.specs.Shelf.{Told}
use Rattle.rankers.specs.Meaning.{Meaning}
use Rattle.command_files.specs.declared.status.Status.{Status}
use Rattle.command_files.specs.declared.status.Status.TheVariants as status
use Rattle.sincronia_cli.specs.Causes.{CauseBy, HasCauseOf}
use Rattle.command_files.specs.JobCauses.{FilesReportFault, HasFilesCause}
use Rattle.command_files.specs.Causes.{FilesBadOrder, FilesBadScript, FilesLimit, IsGiven}
use Rattle.command_files.specs.Limits.{MayLimit}
use Rattle.command_files.specs.OrderCauses.{IsOrderForm}
use Rattle.coflow_units.specs.declared.quantity.Quantity.{Quantity}
use Rattle.command_jobs.specs.Online.{FilesPublishMore}
use Rattle.command_jobs.specs.Publishing.{CommandLimit, PublishesOver}
use Rattle.command_jobs.specs.Record.{RecordPublishesMore}
use Rattle.command_jobs.specs.Replay.{ReplaysPublishMore}
use Rattle.sincronia_cli.specs.Command.{IsCommand, ReadsFiles}
use Rattle.command_jobs.specs.Serving.{Service}
use Rattle.sincronia_cli.specs.Outcome.{IsOutcome, OutcomeBy}

-- what is done for the words is what is done for all that they say
pub outcome_by : (S : TableFacts → List (List ℕ) → Type 0) (words : List Text) (by said : Said) (k : Job) (told : Option Told) (bench : List Meaning) (status : Status)
    (text : List ℕ) → IsWords words by → IsCommand k words said →
    IsOutcome S told by bench status text → OutcomeBy S k told said bench status text
outcome_by S words by said k told bench status text reads is outcome =
    subst (λ (j : Job). OutcomeBy S j told said bench status text) is.job_is
    (subst (λ (s : Said). IsOutcome S told s bench status text) (words_one words by said reads is.words_say) outcome)

-- ---- a report or a printed journal that is bad

of_files : (F : ℕ → Service → Type 0) (bench : List Meaning) (k : Job) (before now : ℕ) (old new : Option Told) (said : Said) (line : ℕ) →
    CauseBy F bench k before now old new said (status.BadReport line) → HasFilesCause before now old new said (status.BadReport line)
of_files F bench (plan_job trace) before now old new said line (inl h) = h
of_files F bench (plan_job trace) before now old new said line (inr h) = absurd h
of_files F bench (check_job trace report) before now old new said line h = h
of_files F bench (make_job seed) before now old new said line (inl h) = absurd h
of_files F bench (make_job seed) before now old new said line (inr h) = absurd h
of_files F bench (compare_job trace) before now old new said line h = h
of_files F bench (classes_job trace) before now old new said line h = h
of_files F bench (serve_job trace order) before now old new said line h = h
of_files F bench (online_job trace) before now old new said line (inl h) = h
of_files F bench (online_job trace) before now old new said line (inr (inl h)) = absurd h
of_files F bench (online_job trace) before now old new said line (inr (inr h)) = absurd h
of_files F bench (replay_job trace) before now old new said line (inl h) = h
of_files F bench (replay_job trace) before now old new said line (inr h) = absurd h
of_files F bench (record_job trace policy) before now old new said line (inl h) = h
of_files F bench (record_job trace policy) before now old new said line (inr (inl h)) = absurd h
of_files F bench (record_job trace policy) before now old new said line (inr (inr h)) = absurd h
of_files F bench (live_job trace script) before now old new said line (inl h) = h
of_files F bench (live_job trace script) before now old new said line (inr h) = absurd h
of_files F bench (audit_job trace journal) before now old new said line h = h

-- ---- a script that is bad

script_of_files : (F : ℕ → Service → Type 0) (bench : List Meaning) (k : Job) (before now : ℕ) (old new : Option Told) (said : Said) (line field : ℕ) →
    CauseBy F bench k before now old new said (status.BadScript line field) → HasFilesCause before now old new said (status.BadScript line field)
script_of_files F bench (plan_job trace) before now old new said line field (inl h) = h
script_of_files F bench (plan_job trace) before now old new said line field (inr h) = absurd h
script_of_files F bench (check_job trace report) before now old new said line field h = h
script_of_files F bench (make_job seed) before now old new said line field (inl h) = absurd h
script_of_files F bench (make_job seed) before now old new said line field (inr h) = absurd h
script_of_files F bench (compare_job trace) before now old new said line field h = h
script_of_files F bench (classes_job trace) before now old new said line field h = h
script_of_files F bench (serve_job trace order) before now old new said line field h = h
script_of_files F bench (online_job trace) before now old new said line field (inl h) = h
script_of_files F bench (online_job trace) before now old new said line field (inr (inl h)) = absurd h
script_of_files F bench (online_job trace) before now old new said line field (inr (inr h)) = absurd h
script_of_files F bench (replay_job trace) before now old new said line field (inl h) = h
script_of_files F bench (replay_job trace) before now old new said line field (inr h) = absurd h
script_of_files F bench (record_job trace policy) before now old new said line field (inl h) = h
script_of_files F bench (record_job trace policy) before now old new said line field (inr (inl h)) = absurd h
script_of_files F bench (record_job trace policy) before now old new said line field (inr (inr h)) = absurd h
script_of_files F bench (live_job trace script) before now old new said line field (inl h) = h
script_of_files F bench (live_job trace script) before now old new said line field (inr h) = absurd h
script_of_files F bench (audit_job trace journal) before now old new said line field h = h

pub bad_script_given : (F : ℕ → Service → Type 0) (bench : List Meaning) (said : Said) (before now : ℕ) (old new : Option Told) (line field : ℕ) (s : Status) →
    HasCauseOf F bench before now old new said s → s ≡ status.BadScript line field → IsGiven (script_name said.job) × IfSome old (FilesBadScript said line field)
bad_script_given F bench said before now old new line field s cause is =
    script_of_files F bench said.job before now old new said line field (subst (λ (x : Status). HasCauseOf F bench before now old new said x) is cause)

-- ---- an order that is bad

order_of_files : (F : ℕ → Service → Type 0) (bench : List Meaning) (k : Job) (before now : ℕ) (old new : Option Told) (said : Said) (fault : OrderFault) →
    CauseBy F bench k before now old new said (status.BadOrder fault) → HasFilesCause before now old new said (status.BadOrder fault)
order_of_files F bench (plan_job trace) before now old new said fault (inl h) = h
order_of_files F bench (plan_job trace) before now old new said fault (inr h) = absurd h
order_of_files F bench (check_job trace report) before now old new said fault h = h
order_of_files F bench (make_job seed) before now old new said fault (inl h) = absurd h
order_of_files F bench (make_job seed) before now old new said fault (inr h) = absurd h
order_of_files F bench (compare_job trace) before now old new said fault h = h
order_of_files F bench (classes_job trace) before now old new said fault h = h
order_of_files F bench (online_job trace) before now old new said fault (inl h) = h
order_of_files F bench (online_job trace) before now old new said fault (inr (inl h)) = absurd h
order_of_files F bench (online_job trace) before now old new said fault (inr (inr h)) = absurd h
order_of_files F bench (replay_job trace) before now old new said fault (inl h) = h
order_of_files F bench (replay_job trace) before now old new said fault (inr h) = absurd h
order_of_files F bench (record_job trace policy) before now old new said fault (inl h) = h
order_of_files F bench (record_job trace policy) before now old new said fault (inr (inl h)) = absurd h
order_of_files F bench (record_job trace policy) before now old new said fault (inr (inr h)) = absurd h
order_of_files F bench (live_job trace script) before now old new said fault (inl h) = h
order_of_files F bench (live_job trace script) before now old new said fault (inr h) = absurd h
order_of_files F bench (audit_job trace journal) before now old new said fault h = h
order_of_files F bench (serve_job trace order) before now old new said fault h = h

pub bad_order_given : (F : ℕ → Service → Type 0) (bench : List Meaning) (said : Said) (before now : ℕ) (old new : Option Told) (fault : OrderFault) (s : Status) →
    HasCauseOf F bench before now old new said s → s ≡ status.BadOrder fault → IsOrderForm fault × IsGiven (order_name said.job) × IfSome old (FilesBadOrder said fault)
bad_order_given F bench said before now old new fault s cause is =
    order_of_files F bench said.job before now old new said fault (subst (λ (x : Status). HasCauseOf F bench before now old new said x) is cause)

-- ---- a quantity that is outside its range

limited : (bench : List Meaning) (told : Option Told) (said : Said) (which : Quantity) (count : ℕ) → IfSome told (FilesLimit said which count) →
    IfSome told (CommandLimit bench said which count)
limited bench None said which count limit = tt
limited bench (Some t) said which count limit = inl limit

limit_by : (F : ℕ → Service → Type 0) (bench : List Meaning) (k : Job) (before now : ℕ) (old new : Option Told) (said : Said) (which : Quantity) (count : ℕ) → said.job ≡ k →
    CauseBy F bench k before now old new said (status.Limit which count) → ReadsFiles k × MayLimit k which × IfSome old (CommandLimit bench said which count)
limit_by F bench (plan_job trace) before now old new said which count same (inl (may, limit)) =
    (tt, subst (λ (j : Job). MayLimit j which) same may, limited bench old said which count limit)
limit_by F bench (plan_job trace) before now old new said which count same (inr h) = absurd h
limit_by F bench (check_job trace report) before now old new said which count same (may, limit) =
    (tt, subst (λ (j : Job). MayLimit j which) same may, limited bench old said which count limit)
limit_by F bench (make_job seed) before now old new said which count same (inl h) = absurd h
limit_by F bench (make_job seed) before now old new said which count same (inr h) = absurd h
limit_by F bench (compare_job trace) before now old new said which count same (may, limit) =
    (tt, subst (λ (j : Job). MayLimit j which) same may, limited bench old said which count limit)
limit_by F bench (classes_job trace) before now old new said which count same (may, limit) =
    (tt, subst (λ (j : Job). MayLimit j which) same may, limited bench old said which count limit)
limit_by F bench (online_job trace) before now old new said which count same (inl (may, limit)) =
    (tt, subst (λ (j : Job). MayLimit j which) same may, limited bench old said which count limit)
limit_by F bench (online_job trace) before now old new said which count same (inr (inl h)) = absurd h
limit_by F bench (online_job trace) before now old new said which count same (inr (inr (epochs, more))) =
    (tt, subst (MayLimit (online_job trace)) (sym epochs) tt, over old more)
  where
    over : (told : Option Told) → IfSome told (FilesPublishMore said count) → IfSome told (CommandLimit bench said which count)
    over None more = tt
    over (Some t) more = inr (epochs, subst (λ (j : Job). PublishesOver bench j said count t) (sym same) more)
limit_by F bench (replay_job trace) before now old new said which count same (inl (may, limit)) =
    (tt, subst (λ (j : Job). MayLimit j which) same may, limited bench old said which count limit)
limit_by F bench (replay_job trace) before now old new said which count same (inr (epochs, more)) =
    (tt, subst (MayLimit (replay_job trace)) (sym epochs) tt, over old more)
  where
    over : (told : Option Told) → IfSome told (ReplaysPublishMore bench said count) → IfSome told (CommandLimit bench said which count)
    over None more = tt
    over (Some t) more = inr (epochs, subst (λ (j : Job). PublishesOver bench j said count t) (sym same) more)
limit_by F bench (record_job trace policy) before now old new said which count same (inl (may, limit)) =
    (tt, subst (λ (j : Job). MayLimit j which) same may, limited bench old said which count limit)
limit_by F bench (record_job trace policy) before now old new said which count same (inr (inr h)) = absurd h
limit_by F bench (record_job trace policy) before now old new said which count same (inr (inl (epochs, more))) =
    (tt, subst (MayLimit (record_job trace policy)) (sym epochs) tt, over old more)
  where
    over : (told : Option Told) → IfSome told (RecordPublishesMore bench policy said count) → IfSome told (CommandLimit bench said which count)
    over None more = tt
    over (Some t) more = inr (epochs, subst (λ (j : Job). PublishesOver bench j said count t) (sym same) more)
limit_by F bench (live_job trace script) before now old new said which count same (inl (may, limit)) =
    (tt, subst (λ (j : Job). MayLimit j which) same may, limited bench old said which count limit)
limit_by F bench (live_job trace script) before now old new said which count same (inr h) = absurd h
limit_by F bench (serve_job trace order) before now old new said which count same (may, limit) =
    (tt, subst (λ (j : Job). MayLimit j which) same may, limited bench old said which count limit)
limit_by F bench (audit_job trace journal) before now old new said which count same (may, limit) =
    (tt, subst (λ (j : Job). MayLimit j which) same may, limited bench old said which count limit)

pub limit_given : (F : ℕ → Service → Type 0) (bench : List Meaning) (said : Said) (before now : ℕ) (old new : Option Told) (which : Quantity) (count : ℕ) (s : Status) →
    HasCauseOf F bench before now old new said s → s ≡ status.Limit which count → ReadsFiles said.job × MayLimit said.job which × IfSome old (CommandLimit bench said which count)
limit_given F bench said before now old new which count s cause is =
    limit_by F bench said.job before now old new said which count refl (subst (λ (x : Status). HasCauseOf F bench before now old new said x) is cause)

-- ---- a report or a printed journal that is bad, by what is said

pub bad_report_given : (F : ℕ → Service → Type 0) (bench : List Meaning) (said : Said) (before now : ℕ) (old new : Option Told) (line : ℕ) (s : Status) →
    HasCauseOf F bench before now old new said s → s ≡ status.BadReport line →
    IsGiven (report_name said.job) × (order_name said.job ≡ None) × IfSome old (FilesReportFault said line)
bad_report_given F bench said before now old new line s cause is =
    of_files F bench said.job before now old new said line (subst (λ (x : Status). HasCauseOf F bench before now old new said x) is cause)
