-- Commands that would publish more orders than may be published.
use Rattle.std.specs.Prelude.{◌≡◌, ℕ, ◌⊎◌, List}
use Rattle.coflow_units.specs.declared.quantity.Quantity.{Quantity}
use Rattle.coflow_units.specs.declared.quantity.Quantity.TheVariants.{Epochs}
use Rattle.command_words.specs.Jobs.{Job}
use Rattle.command_words.specs.Jobs.Job.{online_job, record_job, replay_job}
use Rattle.command_words.specs.Words.{Said}
use Rattle.outside.specs.Shelf.{Told}
use Rattle.rankers.specs.Meaning.{Meaning}
use Rattle.command_files.specs.Causes.{FilesLimit}
use Rattle.command_jobs.specs.Online.{FilesPublishMore}
use Rattle.command_jobs.specs.Record.{RecordPublishesMore}
use Rattle.command_jobs.specs.Replay.{ReplaysPublishMore}

-- the job is an online run, a replay of the rankers of this bench, or the record of one of them, and it would publish more
-- orders than may be published
abbrev pub PublishesOver : List Meaning → Job → Said → ℕ → Told → Type 0
PublishesOver bench (online_job trace) said count t = FilesPublishMore said count t
PublishesOver bench (replay_job trace) said count t = ReplaysPublishMore bench said count t
PublishesOver bench (record_job trace policy) said count t = RecordPublishesMore bench policy said count t
PublishesOver bench job said count t = ⊥

-- the job does not do so
abbrev pub PublishesFew : List Meaning → Job → Said → Told → Type 0
PublishesFew bench job said t = (count : ℕ) → PublishesOver bench job said count t → ⊥

-- a quantity of the files is outside its range, or more orders would be published than may be
abbrev pub CommandLimit : List Meaning → Said → Quantity → ℕ → Told → Type 0
CommandLimit bench said which count t =
    FilesLimit said which count t ⊎ ((which ≡ Epochs) × PublishesOver bench said.job said count t)
