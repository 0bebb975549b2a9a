-- What a command does to the bench: whether there is a text decides it, and the job of the words.
use Rattle.std.proofs.Common.{◌≡◌, ℕ, inl, inr, List, Option, ap, drop, subst, sym, take, ◌∙◌}
use Rattle.command_words.specs.Jobs.{Job}
use Rattle.command_words.specs.Jobs.Job.{audit_job, check_job, classes_job, compare_job, live_job, make_job, online_job, plan_job, record_job, replay_job, serve_job}
use Rattle.command_words.specs.Line.{Text}
use Rattle.command_words.specs.Words.{IsWords, Said}
use Rattle.command_words.proofs.OneMeaning.{words_one}
use Rattle.std.specs.Prelude.{All, Bool, IfSome, false, true}
use Rattle.flow_table.specs.Table.{TableFacts}
use Rattle.outside.specs.Shelf.{Told}
use Rattle.rankers.specs.FactsTold.{FactsTold}
use Rattle.rankers.specs.Meaning.{Meaning}
use Rattle.command_files.specs.declared.status.Status.{Status}
use Rattle.command_files.specs.declared.status.Status.TheVariants as status
use Rattle.sincronia_cli.specs.Causes.{CauseBy, HasCauseOf}
use Rattle.command_files.specs.JobCauses.{HasFilesCause}
use Rattle.command_jobs.specs.Check.{status_for}
use Rattle.command_jobs.specs.Compare.{IsFactsOfFiles}
use Rattle.sincronia_cli.specs.Command.{AsksBench, IsCommand}
use Rattle.sincronia_cli.specs.Outcome.{HasText, IsOutcome, OutcomeBy}
use Rattle.command_jobs.specs.Online.{FilesPublishMore}
use Rattle.command_jobs.specs.Record.{LacksPolicy, RecordPublishesMore}
use Rattle.command_jobs.specs.Replay.{ReplaysPublishMore}
use Rattle.command_jobs.specs.Serving.{Serves, Service}
use Rattle.command_jobs.proofs.EndCauses.{by_epochs, by_policy, by_wire, of_served}

-- the words are one command
pub job_of : (words : List Text) (by said : Said) (k : Job) → IsWords words by → IsCommand k words said → by.job ≡ k
job_of words by said k reads is = ap (λ (s : Said). s.job) (words_one words by said reads is.words_say) ∙ is.job_is

-- the job of the words asks the bench
pub asks_by : (words : List Text) (by said : Said) → IsWords words by → IsWords words said → AsksBench said.job → AsksBench by.job
asks_by words by said reads is asks = subst (λ (x : Said). AsksBench x.job) (sym (words_one words by said reads is)) asks

-- those that are gone were asked with the facts of the files of the words, where these ask for no replay
pub left_by : {X : Type 0} (A : X → FactsTold → Type 0) (words : List Text) (told : Option Told) (by : Said) (xs new : List X) → IsWords words by →
    ((reached : ℕ) × (new ≡ drop reached xs) × (((trace : List ℕ) → by.job ≡ replay_job trace → ⊥) → ((trace policy : List ℕ) → by.job ≡ record_job trace policy → ⊥) →
    All (λ b. (facts : FactsTold) × IsFactsOfFiles told by facts × A b facts) (take reached xs))) →
    (reached : ℕ) × (new ≡ drop reached xs) × (((said : Said) (trace : List ℕ) → IsCommand (replay_job trace) words said → ⊥) →
    ((said : Said) (trace policy : List ℕ) → IsCommand (record_job trace policy) words said → ⊥) →
    All (λ b. (said : Said) × IsWords words said × (facts : FactsTold) × IsFactsOfFiles told said facts × A b facts) (take reached xs))
left_by A words told by xs new says (reached, rest, all) = (
  reached,
  rest,
  λ none alone k d lt.
      let asked = all (λ trace is. none by trace (record { words_say = says; job_is = is }))
      (λ trace policy is. alone by trace policy (record { words_say = says; job_is = is })) k d lt in
      (by, says, asked.0, asked.1, asked.2),
)

-- ---- an outcome has a text

of_answer : (answer : Bool) (s : Status) → s ≡ status_for answer → HasText s
of_answer true s is = subst HasText (sym is) tt
of_answer false s is = subst HasText (sym is) tt

text_by : (S : TableFacts → List (List ℕ) → Type 0) (k : Job) (told : Option Told) (said : Said) (bench : List Meaning) (s : Status) (text : List ℕ) →
    OutcomeBy S k told said bench s text → HasText s
text_by S (plan_job trace) told said bench s text outcome = subst HasText (sym outcome.0) tt
text_by S (check_job trace report) told said bench s text (answer, is, checks) = of_answer answer s is
text_by S (make_job seed) told said bench s text outcome = subst HasText (sym outcome.0) tt
text_by S (compare_job trace) told said bench s text outcome = subst HasText (sym outcome.0) tt
text_by S (classes_job trace) told said bench s text outcome = subst HasText (sym outcome.0) tt
text_by S (serve_job trace order) told said bench s text outcome = subst HasText (sym outcome.0) tt
text_by S (replay_job trace) told said bench s text outcome = subst HasText (sym outcome.0) tt
text_by S (record_job trace policy) told said bench s text (answer, is, records) = of_answer answer s is
text_by S (online_job trace) told said bench s text outcome = subst HasText (sym outcome.0) tt
text_by S (live_job trace script) told said bench s text outcome = subst HasText (sym outcome.0) tt
text_by S (audit_job trace journal) told said bench s text (answer, is, audits) = of_answer answer s is

pub outcome_has_text : (S : TableFacts → List (List ℕ) → Type 0) (told : Option Told) (said : Said) (bench : List Meaning) (s : Status) (text : List ℕ) →
    IsOutcome S told said bench s text → HasText s
outcome_has_text S told said bench s text outcome = text_by S said.job told said bench s text outcome

-- ---- where nothing is to be written there is none

no_text : (before now : ℕ) (old new : Option Told) (said : Said) (s : Status) → HasFilesCause before now old new said s → HasText s → ⊥
no_text before now old new said status.Ok cause text = cause
no_text before now old new said status.No cause text = cause
no_text before now old new said status.Usage cause text = text
no_text before now old new said status.UnknownPolicy cause text = text
no_text before now old new said (status.BadTrace fault) cause text = text
no_text before now old new said (status.BadWeights fault) cause text = text
no_text before now old new said (status.BadReport line) cause text = text
no_text before now old new said (status.BadScript line field) cause text = text
no_text before now old new said (status.BadOrder fault) cause text = text
no_text before now old new said (status.Limit which count) cause text = text
no_text before now old new said (status.ReadFault count) cause text = text
no_text before now old new said (status.WriteFault count) cause text = cause
no_text before now old new said (status.WireFault port count) cause text = cause
no_text before now old new said status.NoMemory cause text = text

none_by : (F : ℕ → Service → Type 0) (bench : List Meaning) (k : Job) (before now : ℕ) (old new : Option Told) (said : Said) (s : Status) →
    CauseBy F bench k before now old new said s →
    HasText s → ⊥
none_by F bench (plan_job trace) before now old new said s (inl cause) text = no_text before now old new said s cause text
none_by F bench (plan_job trace) before now old new said s (inr cause) text =
    let (port, count, is, p) = by_wire (λ port. Serves (F port) (plan_job trace) old said) s cause in
    subst HasText is text
none_by F bench (check_job trace report) before now old new said s cause text = no_text before now old new said s cause text
none_by F bench (make_job seed) before now old new said s cause text =
    of_served (λ port. Serves (F port) (make_job seed) old said) (λ (x : Status). HasText x → ⊥) s (λ t. t) (λ port count t. t) cause text
none_by F bench (compare_job trace) before now old new said s cause text = no_text before now old new said s cause text
none_by F bench (classes_job trace) before now old new said s cause text = no_text before now old new said s cause text
none_by F bench (serve_job trace order) before now old new said s cause text = no_text before now old new said s cause text
none_by F bench (online_job trace) before now old new said s (inl cause) text = no_text before now old new said s cause text
none_by F bench (online_job trace) before now old new said s (inr (inl cause)) text =
    let (port, count, is, p) = by_wire (λ port. Serves (F port) (online_job trace) old said) s cause in
    subst HasText is text
none_by F bench (online_job trace) before now old new said s (inr (inr cause)) text =
    let (count, is, p) = by_epochs (λ count. IfSome old (FilesPublishMore said count)) s cause in
    subst HasText is text
none_by F bench (replay_job trace) before now old new said s (inl cause) text = no_text before now old new said s cause text
none_by F bench (replay_job trace) before now old new said s (inr cause) text =
    let (count, is, p) = by_epochs (λ count. IfSome old (ReplaysPublishMore bench said count)) s cause in
    subst HasText is text
none_by F bench (record_job trace policy) before now old new said s (inl cause) text = no_text before now old new said s cause text
none_by F bench (record_job trace policy) before now old new said s (inr (inl cause)) text =
    let (count, is, p) = by_epochs (λ count. IfSome old (RecordPublishesMore bench policy said count)) s cause in
    subst HasText is text
none_by F bench (record_job trace policy) before now old new said s (inr (inr cause)) text =
    let (is, p) = by_policy (LacksPolicy bench (record_job trace policy)) s cause in
    subst HasText is text
none_by F bench (live_job trace script) before now old new said s (inl cause) text = no_text before now old new said s cause text
none_by F bench (live_job trace script) before now old new said s (inr cause) text =
    let (port, count, is, p) = by_wire (λ port. Serves (F port) (live_job trace script) old said) s cause in
    subst HasText is text
none_by F bench (audit_job trace journal) before now old new said s cause text = no_text before now old new said s cause text

pub cause_has_no_text : (F : ℕ → Service → Type 0) (bench : List Meaning) (before now : ℕ) (old new : Option Told) (said : Said) (s : Status) →
    HasCauseOf F bench before now old new said s →
    HasText s → ⊥
cause_has_no_text F bench before now old new said s cause text = none_by F bench said.job before now old new said s cause text
