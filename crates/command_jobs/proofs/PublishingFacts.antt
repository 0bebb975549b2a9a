-- Which commands may publish too many orders, and the number of the next one there.
use Rattle.std.proofs.Common.{◌≡◌, ◌∙◌, ℕ, inl, inr, List, refl, subst, sym}
use Rattle.std.specs.Prelude.{◌⊎◌, IfSome, Option}
use Rattle.command_words.specs.Jobs.{Job}
use Rattle.command_words.specs.Jobs.Job.{audit_job, check_job, classes_job, compare_job, live_job, make_job, online_job, plan_job, record_job, replay_job, serve_job}
use Rattle.command_words.specs.Line.{Text}
use Rattle.command_words.specs.Words.{IsWords, Said}
use Rattle.command_words.proofs.OneMeaning.{words_one}
use Rattle.outside.specs.Shelf.{Told}
use Rattle.rankers.specs.Meaning.{Meaning}
use Rattle.command_jobs.specs.Online.{FilesPublishMore}
use Rattle.command_jobs.specs.Publishing.{PublishesFew, PublishesOver}
use Rattle.command_jobs.specs.Record.{RecordPublishesMore}
use Rattle.command_jobs.specs.Replay.{ReplaysPublishMore}

-- what holds for the words holds for all that they say
pub few_for : (bench : List Meaning) (words : List Text) (by said : Said) (told : Option Told) → IsWords words by → IsWords words said →
    IfSome told (PublishesFew bench by.job by) → IfSome told (PublishesFew bench said.job said)
few_for bench words by said told reads is few = subst (λ (x : Said). IfSome told (PublishesFew bench x.job x)) (words_one words by said reads is) few

module _ (bench : List Meaning) (said : Said) (t : Told) where
  -- only an online run, a replay and a record publish too many orders
  pub over_is : (k : Job) (count : ℕ) → PublishesOver bench k said count t →
      ((trace : Text) × (k ≡ online_job trace) × FilesPublishMore said count t) ⊎ (((trace : Text) × (k ≡ replay_job trace) × ReplaysPublishMore bench said count t)
      ⊎ ((trace : Text) × (policy : Text) × (k ≡ record_job trace policy) × RecordPublishesMore bench policy said count t))
  over_is (online_job trace) count over = inl (trace, refl, over)
  over_is (replay_job trace) count over = inr (inl (trace, refl, over))
  over_is (record_job trace policy) count over = inr (inr (trace, policy, refl, over))
  over_is (plan_job trace) count over = absurd over
  over_is (check_job trace report) count over = absurd over
  over_is (make_job seed) count over = absurd over
  over_is (compare_job trace) count over = absurd over
  over_is (classes_job trace) count over = absurd over
  over_is (audit_job trace journal) count over = absurd over
  over_is (live_job trace script) count over = absurd over
  over_is (serve_job trace order) count over = absurd over

  pub over_one : (k : Job) (m n : ℕ) → PublishesOver bench k said m t → PublishesOver bench k said n t → m ≡ n
  over_one (online_job trace) m n x y = x.more.count_is ∙ sym y.more.count_is
  over_one (replay_job trace) m n x y = x.more.next.applies.is_next ∙ sym y.more.next.applies.is_next
  over_one (record_job trace policy) m n x y = x.more.next.applies.is_next ∙ sym y.more.next.applies.is_next
  over_one (plan_job trace) m n x y = absurd x
  over_one (check_job trace report) m n x y = absurd x
  over_one (make_job seed) m n x y = absurd x
  over_one (compare_job trace) m n x y = absurd x
  over_one (classes_job trace) m n x y = absurd x
  over_one (audit_job trace journal) m n x y = absurd x
  over_one (live_job trace script) m n x y = absurd x
  over_one (serve_job trace order) m n x y = absurd x
