-- When a command ends well.
use Rattle.std.specs.Prelude.{◌≡◌, ◌⊎◌, List, Option, IsSomeAnd}
use Rattle.command_words.specs.Jobs.{Job}
use Rattle.command_words.specs.Jobs.Job.{audit_job, check_job, classes_job, compare_job, live_job, make_job, online_job, plan_job, record_job, replay_job, serve_job}
use Rattle.command_words.specs.Words.{Said}
use Rattle.outside.specs.Shelf.{Told}
use Rattle.rankers.specs.Meaning.{Meaning}
use Rattle.command_files.specs.declared.status.Status.{Status}
use Rattle.command_files.specs.declared.status.Status.TheVariants.{No, Ok}
use Rattle.command_files.specs.GoodFiles.{HasGoodFiles}
use Rattle.command_jobs.specs.Publishing.{PublishesFew}
use Rattle.command_jobs.specs.Record.{HasPolicy}

-- the files that the command reads are told, and they are good; neither an online run of them nor a replay of a ranker of
-- the bench publishes too many orders; and a policy that is named is that of a ranker of the bench
abbrev pub AreGood : List Meaning → Job → Said → Option Told → Type 0
AreGood bench (plan_job trace) said told = IsSomeAnd told (HasGoodFiles (plan_job trace) said)
AreGood bench (check_job trace report) said told = IsSomeAnd told (HasGoodFiles (check_job trace report) said)
AreGood bench (make_job seed) said told = Unit {0}
AreGood bench (compare_job trace) said told = IsSomeAnd told (HasGoodFiles (compare_job trace) said)
AreGood bench (classes_job trace) said told = IsSomeAnd told (HasGoodFiles (classes_job trace) said)
AreGood bench (audit_job trace journal) said told = IsSomeAnd told (HasGoodFiles (audit_job trace journal) said)
AreGood bench (online_job trace) said told =
    IsSomeAnd told (λ t. HasGoodFiles (online_job trace) said t × PublishesFew bench (online_job trace) said t)
AreGood bench (live_job trace script) said told = IsSomeAnd told (HasGoodFiles (live_job trace script) said)
AreGood bench (serve_job trace order) said told = IsSomeAnd told (HasGoodFiles (serve_job trace order) said)
AreGood bench (replay_job trace) said told =
    IsSomeAnd told (λ t. HasGoodFiles (replay_job trace) said t × PublishesFew bench (replay_job trace) said t)
AreGood bench (record_job trace policy) said told = HasPolicy bench (record_job trace policy) ×
    IsSomeAnd told (λ t. HasGoodFiles (record_job trace policy) said t × PublishesFew bench (record_job trace policy) said t)

-- the job of the command was done, and its text was written whole
abbrev pub EndsWell : Job → Status → Type 0
EndsWell (plan_job trace) status = status ≡ Ok
EndsWell (check_job trace report) status = (status ≡ Ok) ⊎ (status ≡ No)
EndsWell (make_job seed) status = status ≡ Ok
EndsWell (compare_job trace) status = status ≡ Ok
EndsWell (classes_job trace) status = status ≡ Ok
EndsWell (audit_job trace journal) status = (status ≡ Ok) ⊎ (status ≡ No)
EndsWell (online_job trace) status = status ≡ Ok
EndsWell (live_job trace script) status = status ≡ Ok
EndsWell (serve_job trace order) status = status ≡ Ok
EndsWell (replay_job trace) status = status ≡ Ok
EndsWell (record_job trace policy) status = (status ≡ Ok) ⊎ (status ≡ No)
