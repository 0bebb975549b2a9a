-- Why a command wrote nothing: what is wrong with its files, a wire that failed, too many publishings, or a policy that no
-- ranker has.
use Rattle.std.specs.Prelude.{ℕ, ◌⊎◌, List, Option, IfSome}
use Rattle.command_words.specs.Jobs.{Job}
use Rattle.command_words.specs.Jobs.Job.{audit_job, check_job, classes_job, compare_job, live_job, make_job, online_job, plan_job, record_job, replay_job, serve_job}
use Rattle.command_words.specs.Words.{Said}
use Rattle.outside.specs.Shelf.{Told}
use Rattle.rankers.specs.Meaning.{Meaning}
use Rattle.command_files.specs.declared.status.Status.{Status}
use Rattle.command_files.specs.JobCauses.{HasFilesCause}
use Rattle.command_files.specs.WireCauses.{IsWireCause}
use Rattle.command_jobs.specs.Make.{HasMadeCause}
use Rattle.command_jobs.specs.Online.{FilesPublishMore, IsEpochsCause}
use Rattle.command_jobs.specs.Record.{IsPolicyCause, LacksPolicy, RecordPublishesMore}
use Rattle.command_jobs.specs.Replay.{ReplaysPublishMore}
use Rattle.command_jobs.specs.Serving.{Serves, Service}

-- The cause of a status that comes before anything is written, where the bench has these rankers. At a wire fault this
-- holds of the port and of what was served.
abbrev pub CauseBy : (ℕ → Service → Type 0) → List Meaning → Job → ℕ → ℕ → Option Told → Option Told → Said → Status →
    Type 0
CauseBy F bench (plan_job trace) before now old new said status =
    HasFilesCause before now old new said status
    ⊎ IsWireCause (λ port. Serves (F port) (plan_job trace) old said) status
CauseBy F bench (check_job trace report) before now old new said status = HasFilesCause before now old new said status
CauseBy F bench (make_job seed) before now old new said status =
    HasMadeCause status ⊎ IsWireCause (λ port. Serves (F port) (make_job seed) old said) status
CauseBy F bench (compare_job trace) before now old new said status = HasFilesCause before now old new said status
CauseBy F bench (classes_job trace) before now old new said status = HasFilesCause before now old new said status
CauseBy F bench (audit_job trace journal) before now old new said status = HasFilesCause before now old new said status
CauseBy F bench (online_job trace) before now old new said status =
    HasFilesCause before now old new said status
    ⊎ (IsWireCause (λ port. Serves (F port) (online_job trace) old said) status
    ⊎ IsEpochsCause (λ count. IfSome old (FilesPublishMore said count)) status)
CauseBy F bench (live_job trace script) before now old new said status =
    HasFilesCause before now old new said status
    ⊎ IsWireCause (λ port. Serves (F port) (live_job trace script) old said) status
CauseBy F bench (serve_job trace order) before now old new said status = HasFilesCause before now old new said status
CauseBy F bench (replay_job trace) before now old new said status =
    HasFilesCause before now old new said status
    ⊎ IsEpochsCause (λ count. IfSome old (ReplaysPublishMore bench said count)) status
CauseBy F bench (record_job trace policy) before now old new said status =
    HasFilesCause before now old new said status
    ⊎ (IsEpochsCause (λ count. IfSome old (RecordPublishesMore bench policy said count)) status
    ⊎ IsPolicyCause (LacksPolicy bench (record_job trace policy)) status)

-- what is said has this cause of the status
abbrev pub HasCauseOf : (ℕ → Service → Type 0) → List Meaning → ℕ → ℕ → Option Told → Option Told → Said → Status →
    Type 0
HasCauseOf F bench before now old new said status = CauseBy F bench said.job before now old new said status
