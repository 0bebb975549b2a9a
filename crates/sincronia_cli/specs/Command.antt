-- The words of each command.
use Rattle.std.specs.Prelude.{◌≡◌, List}
use Rattle.command_words.specs.Jobs.{Job}
use Rattle.command_words.specs.Jobs.Job.{audit_job, check_job, classes_job, compare_job, live_job, make_job, online_job, plan_job, record_job, replay_job, serve_job}
use Rattle.command_words.specs.Line.{Text}
use Rattle.command_words.specs.Words.{IsWords, Said}

-- the words are those of a command, and ask for this job
pub record IsCommand (job : Job) (words : List Text) (said : Said) : Type 0 where
  pub words_say : IsWords words said
  pub job_is : said.job ≡ job

-- the job reads files; that of `make` reads none
abbrev pub ReadsFiles : Job → Type 0
ReadsFiles (plan_job trace) = Unit {0}
ReadsFiles (check_job trace report) = Unit {0}
ReadsFiles (make_job seed) = ⊥
ReadsFiles (compare_job trace) = Unit {0}
ReadsFiles (classes_job trace) = Unit {0}
ReadsFiles (audit_job trace journal) = Unit {0}
ReadsFiles (online_job trace) = Unit {0}
ReadsFiles (live_job trace script) = Unit {0}
ReadsFiles (serve_job trace order) = Unit {0}
ReadsFiles (record_job trace policy) = Unit {0}
ReadsFiles (replay_job trace) = Unit {0}

-- the job asks the rankers of the bench
abbrev pub AsksBench : Job → Type 0
AsksBench (compare_job trace) = Unit {0}
AsksBench (record_job trace policy) = Unit {0}
AsksBench (replay_job trace) = Unit {0}
AsksBench job = ⊥

-- the words are those of a command that reads files
pub record IsOfFiles (words : List Text) (said : Said) : Type 0 where
  pub words_say : IsWords words said
  pub reads : ReadsFiles said.job
