-- What holds of replays whose text was written, and of those that have none.
use Rattle.std.proofs.Common.{◌≡◌, ◌≢◌, ℕ, inl, inr, List, refl, subst, sym}
use Rattle.std.specs.Prelude.{◌⊎◌, Contains, IfSome, None, Option, Some}
use Rattle.coflow_units.specs.declared.quantity.Quantity.TheVariants.{Epochs}
use Rattle.command_words.specs.Jobs.{trace_name}
use Rattle.command_words.specs.Jobs.Job.{replay_job}
use Rattle.command_words.specs.Line.{Text}
use Rattle.command_words.specs.Words.{Said}
use Rattle.flow_table.specs.Table.{TableFacts}
use Rattle.flow_table.proofs.TablesOne.{tables_one}
use Rattle.outside.specs.Shelf.{Told, bytes_of}
use Rattle.rankers.specs.Meaning.{Meaning}
use Rattle.replays.specs.declared.rows.ReplayFault.{ReplayFault}
use Rattle.replays.specs.declared.rows.ReplayFault.TheVariants as replay_fault
use Rattle.replays.specs.Replayed.{IsTooManyFor}
use Rattle.trace_reader.specs.Trace.{trace_of}
use Rattle.command_files.specs.declared.status.Status.{Status}
use Rattle.command_files.specs.declared.status.Status.TheVariants as status
use Rattle.command_files.specs.Causes.{FilesGiveTable}
use Rattle.command_files.specs.Ends.{IsReadFault}
use Rattle.command_files.specs.Inputs.{Gives, IsInput, bytes_if}
use Rattle.command_files.specs.Written.{Appends}
use Rattle.command_files.proofs.InputFacts.{weights_one}
use Rattle.command_jobs.specs.Online.{IsEpochsCause}
use Rattle.command_jobs.specs.Publishing.{PublishesFew}
use Rattle.command_jobs.specs.Replay.{IsStatusOfReplay, ReplayOf, ReplaysPublishMore, WritesReplay, replay_input}

pub writes_replay : (told : Option Told) (said : Said) (bench : List Meaning) (old new : Option (List ℕ)) (text : List ℕ) → ReplayOf told said bench text →
    Appends old new text → WritesReplay told said bench old new
writes_replay told said bench old new text replays written = record { text = text; replays = replays; written = written }

-- ---- the status of a fault

pub replay_reads : (fault : ReplayFault) (s : Status) → IsStatusOfReplay fault s → IsReadFault s → ⊥
replay_reads (replay_fault.TooMany count) s is read = subst IsReadFault is read
replay_reads replay_fault.NoMemory s is read = subst IsReadFault is read

-- the cause is that of too many publishings, or there was no memory
pub replay_cause : (fault : ReplayFault) (s : Status) (Q : Status → Type 0) (E : ℕ → Type 0) → IsStatusOfReplay fault s → Q status.NoMemory →
    ((count : ℕ) → fault ≡ replay_fault.TooMany count → E count) → Q s ⊎ IsEpochsCause E s
replay_cause (replay_fault.TooMany count) s Q E is none many = subst (λ (x : Status). Q x ⊎ IsEpochsCause E x) (sym is) (inr (refl, many count refl))
replay_cause replay_fault.NoMemory s Q E is none many = subst (λ (x : Status). Q x ⊎ IsEpochsCause E x) (sym is) (inl none)

-- with another status the bench is as before
pub replay_ends : (fault : ReplayFault) (s : Status) (P : Type 0) → IsStatusOfReplay fault s → s ≢ status.NoMemory → ((count : ℕ) → s ≢ status.Limit Epochs count) → P
replay_ends (replay_fault.TooMany count) s P is memory few = absurd (few count is)
replay_ends replay_fault.NoMemory s P is memory few = absurd (memory is)

-- ---- the files give one table and one list of weights

module _ (told : Option Told) (said : Said) (bench : List Meaning) (table : TableFacts) (weights : List ℕ)
    (input : IsInput told (trace_name said.job) said.weights said.unit table weights) where
  -- where no ranker publishes too many orders on the table, none does on that of the files
  pub publishes_few : (trace : Text) → ((ranker : Meaning) (count : ℕ) → Contains bench ranker → IsTooManyFor (replay_input table weights said) ranker count → ⊥) →
      IfSome told (PublishesFew bench (replay_job trace) said)
  publishes_few trace few = by told input.gives
    where
      by : (t : Option Told) → IfSome t (λ s. Gives (bytes_of s (trace_name said.job)) (bytes_if s said.weights) said.unit table weights) →
          IfSome t (PublishesFew bench (replay_job trace) said)
      by None gives = tt
      by (Some t) gives = λ count over.
          let file = bytes_if t said.weights in
          let same : table ≡ over.given.table =
          tables_one (trace_of (bytes_of t (trace_name said.job))) said.unit table over.given.table input.table_fits over.fits gives.table_is over.given.gives.table_is in
          let alike : weights ≡ over.given.list =
          weights_one file (trace_of (bytes_of t (trace_name said.job))).coflows weights over.given.list gives.weights_are over.given.gives.weights_are in
          few over.ranker count over.on_bench
          (subst (λ (x : TableFacts). IsTooManyFor (replay_input x weights said) over.ranker count) (sym same)
          (subst (λ (w : List ℕ). IsTooManyFor (replay_input over.given.table w said) over.ranker count) (sym alike) over.more))

  -- and where one does so, it does on that of the files
  pub publishes_more : (count : ℕ) → IfSome told (FilesGiveTable said) →
      ((ranker : Meaning) × Contains bench ranker × IsTooManyFor (replay_input table weights said) ranker count) → IfSome told (ReplaysPublishMore bench said count)
  publishes_more count given (ranker, on_bench, more) = by told input.gives given
    where
      by : (t : Option Told) → IfSome t (λ s. Gives (bytes_of s (trace_name said.job)) (bytes_if s said.weights) said.unit table weights) → IfSome t (FilesGiveTable said) →
          IfSome t (ReplaysPublishMore bench said count)
      by None gives given = tt
      by (Some t) gives given = record {
        given = record { table = table; list = weights; gives = gives; fits = given.fits };
        fits = input.table_fits;
        ranker = ranker;
        on_bench = on_bench;
        more = more;
      }
