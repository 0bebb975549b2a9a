-- What holds of an online run whose text was written, and of one that has none.
use Rattle.std.proofs.Common.{◌≡◌, ℕ, inl, inr, List, refl, subst, sym}
use Rattle.std.specs.Prelude.{◌⊎◌, IfSome, None, Option, Some}
use Rattle.command_words.specs.Jobs.{trace_name}
use Rattle.command_words.specs.Words.{Said}
use Rattle.flow_table.specs.Table.{TableFacts}
use Rattle.flow_table.proofs.TablesOne.{tables_one}
use Rattle.hall_online.specs.declared.answer.OnlineFault.{OnlineFault}
use Rattle.hall_online.specs.declared.answer.OnlineFault.TheVariants as online_fault
use Rattle.outside.specs.Shelf.{Told, bytes_of}
use Rattle.hall_online.specs.Told.{PublishesMore}
use Rattle.trace_reader.specs.Trace.{trace_of}
use Rattle.command_files.specs.declared.status.Status.{Status}
use Rattle.command_files.specs.declared.status.Status.TheVariants as status
use Rattle.command_files.specs.Causes.{FilesGiveTable}
use Rattle.command_files.proofs.InputFacts.{weights_one}
use Rattle.command_files.specs.Ends.{IsReadFault}
use Rattle.command_files.specs.Inputs.{Gives, IsInput, bytes_if}
use Rattle.command_files.specs.WireCauses.{IsWireCause}
use Rattle.command_files.specs.Written.{Appends}
use Rattle.command_jobs.specs.Online.{FilesPublishMore, IsEpochsCause, IsStatusOfOnline, OnlineOf, WritesOnline}
use Rattle.command_jobs.specs.Serving.{MayHaveSent}

pub writes_online : (S : TableFacts → List (List ℕ) → Type 0) (told : Option Told) (said : Said) (old new : Option (List ℕ)) (text : List ℕ) → OnlineOf S told said text →
    Appends old new text → WritesOnline S told said old new
writes_online S told said old new text run written = record { text = text; run = run; right = run.tells.right run.input.ids; written = written }

-- ---- the status of a fault

pub online_reads : (fault : OnlineFault) (s : Status) → IsStatusOfOnline fault s → IsReadFault s → ⊥
online_reads (online_fault.WireFault port) s is read = subst IsReadFault is read
online_reads (online_fault.TooMany count) s is read = subst IsReadFault is read
online_reads online_fault.NoMemory s is read = subst IsReadFault is read

-- units may have been sent
pub online_may_send : (fault : OnlineFault) (s : Status) → IsStatusOfOnline fault s → MayHaveSent s
online_may_send (online_fault.WireFault port) s is = subst MayHaveSent (sym is) tt
online_may_send (online_fault.TooMany count) s is = subst MayHaveSent (sym is) refl
online_may_send online_fault.NoMemory s is = subst MayHaveSent (sym is) tt

-- the cause is that of the wire, or that of too many publishings, or there was no memory
pub online_cause : (fault : OnlineFault) (s : Status) (Q : Status → Type 0) (P E : ℕ → Type 0) → IsStatusOfOnline fault s → Q status.NoMemory →
    ((port : ℕ) → fault ≡ online_fault.WireFault port → P port) → ((count : ℕ) → fault ≡ online_fault.TooMany count → E count) → Q s ⊎ (IsWireCause P s ⊎ IsEpochsCause E s)
online_cause (online_fault.WireFault port) s Q P E is none wire many =
    subst (λ (x : Status). Q x ⊎ (IsWireCause P x ⊎ IsEpochsCause E x)) (sym is) (inr (inl (refl, wire port refl)))
online_cause (online_fault.TooMany count) s Q P E is none wire many =
    subst (λ (x : Status). Q x ⊎ (IsWireCause P x ⊎ IsEpochsCause E x)) (sym is) (inr (inr (refl, many count refl)))
online_cause online_fault.NoMemory s Q P E is none wire many = subst (λ (x : Status). Q x ⊎ (IsWireCause P x ⊎ IsEpochsCause E x)) (sym is) (inl none)

-- ---- the files give one table and one list of weights

module _ (told : Option Told) (said : Said) (table : TableFacts) (weights : List ℕ) (input : IsInput told (trace_name said.job) said.weights said.unit table weights) where
  -- where the table's run does not publish too many orders, that of the files does not
  pub publishes_few : ((count : ℕ) → PublishesMore table weights said.slot_ms said.epoch count → ⊥) →
      IfSome told (λ t. (count : ℕ) → FilesPublishMore said count t → ⊥)
  publishes_few few = by told input.gives
    where
      by : (t : Option Told) → IfSome t (λ s. Gives (bytes_of s (trace_name said.job)) (bytes_if s said.weights) said.unit table weights) →
          IfSome t (λ t. (count : ℕ) → FilesPublishMore said count t → ⊥)
      by None gives = tt
      by (Some t) gives = λ count over.
          let file = bytes_if t said.weights in
          let same : table ≡ over.given.table =
          tables_one (trace_of (bytes_of t (trace_name said.job))) said.unit table over.given.table input.table_fits over.fits gives.table_is over.given.gives.table_is in
          let alike : weights ≡ over.given.list =
          weights_one file (trace_of (bytes_of t (trace_name said.job))).coflows weights over.given.list gives.weights_are over.given.gives.weights_are in
          few count
          (subst (λ (x : TableFacts). PublishesMore x weights said.slot_ms said.epoch count) (sym same)
          (subst (λ (w : List ℕ). PublishesMore over.given.table w said.slot_ms said.epoch count) (sym alike) over.more))

  -- and where it does so, that of the files does
  pub publishes_more : (count : ℕ) → IfSome told (FilesGiveTable said) → PublishesMore table weights said.slot_ms said.epoch count → IfSome told (FilesPublishMore said count)
  publishes_more count given more = by told input.gives given
    where
      by : (t : Option Told) → IfSome t (λ s. Gives (bytes_of s (trace_name said.job)) (bytes_if s said.weights) said.unit table weights) → IfSome t (FilesGiveTable said) →
          IfSome t (FilesPublishMore said count)
      by None gives given = tt
      by (Some t) gives given = record {
        given = record { table = table; list = weights; gives = gives; fits = given.fits };
        fits = input.table_fits;
        more = more;
      }
