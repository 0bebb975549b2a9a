-- Trace and weights in turn, and that the shelf's count of faults stays.
use Rattle.std.proofs.Common.{◌≡◌, ◌≢◌, IsErrAnd, ℕ, List, Option, Some, None, Result, Ok, Err, refl, sym, subst}
use Rattle.coflow_units.specs.declared.trace.Trace.{Trace}
use Rattle.flow_table.specs.declared.fault.TableFault.{TableFault}
use Rattle.flow_table.specs.declared.fault.TableFault.TheVariants as table_fault
use Rattle.outside.specs.declared.shelf.Place4.TheVariants as place
use Rattle.outside.specs.Rose.{RoseOnce}
use Rattle.outside.specs.Shelf.{Told}
use Rattle.command_files.specs.declared.status.Status.{Status}
use Rattle.command_files.specs.declared.status.Status.TheVariants as status
use Rattle.command_files.specs.Ends.{IsReadFault, CountsFault}
use Rattle.command_files.specs.FileCauses.{NameFailed, NameFailedIf}
use Rattle.command_files.specs.Faults.{IsStatusOfTable}
use Rattle.command_files.specs.Inputs.{IsTraceOf}
use Rattle.command_files.specs.Shelves.{IsAsBefore, IsAsBeforeUnless, IsReadOut, KeepsFiles, KeepsOthers, OfBoth}
use Rattle.command_files.specs.TraceCauses.{IsTraceCause}
use Rattle.command_files.specs.Turns.{FailsAt, InputInTurn}
use Rattle.command_files.specs.Turns.InputInTurn.{at_trace, at_weights}
use Rattle.command_files.specs.WeightsCauses.{IsWeightsCause}
use Rattle.command_files.proofs.InputFacts.{ReadAs, by_name}
use Rattle.command_files.proofs.ShelfFacts.{as_before, as_before_through, both_and, both_joined, named_before, of_both, still_out}

-- ---- the count of the shelf

-- the status is handed on as it is
pub counts_on : {T : Type 0} (before mid now : ℕ) (r : Result T Status) (s : Status) → IsErrAnd r (λ x. x ≡ s) → mid ≡ before →
    ((IsReadFault s → ⊥) → now ≡ mid) × (IsReadFault s → RoseOnce mid now) → CountsFault before now r
counts_on before mid now (Ok x) s is e h = absurd is
counts_on before mid now (Err x) s is e (other, fault) =
    subst (λ (n : ℕ). ((IsReadFault x → ⊥) → now ≡ n) × (IsReadFault x → RoseOnce n now)) e
    (subst (λ (y : Status). ((IsReadFault y → ⊥) → now ≡ mid) × (IsReadFault y → RoseOnce mid now)) (sym is) (other, fault))

-- the status is no read fault, and the count is as before
pub counts_none : {T : Type 0} (before now : ℕ) (r : Result T Status) (Q : Status → Type 0) → IsErrAnd r Q → ((s : Status) → Q s → IsReadFault s → ⊥) → now ≡ before →
    CountsFault before now r
counts_none before now (Ok x) Q is not e = e
counts_none before now (Err s) Q is not e = (λ other. e, λ fault. absurd (not s is fault))

-- ---- places that are as before

trace_not_report : place.Report ≢ place.Trace
trace_not_report e = cc

weights_not_report : place.Report ≢ place.Weights
weights_not_report e = cc

trace_not_script : place.Script ≢ place.Trace
trace_not_script e = cc

weights_not_script : place.Script ≢ place.Weights
weights_not_script e = cc

weights_not_trace : place.Weights ≢ place.Trace
weights_not_trace e = cc

trace_not_weights : place.Trace ≢ place.Weights
trace_not_weights e = cc

pub no_report_by_trace : (old new : Option Told) → OfBoth old new (KeepsOthers place.Trace) → OfBoth old new (IsAsBefore place.Report)
no_report_by_trace old new keeps = as_before old new place.Report place.Trace trace_not_report keeps

pub no_report_by_both : (old mid new : Option Told) → OfBoth old mid (KeepsOthers place.Trace) → OfBoth mid new (KeepsOthers place.Weights) →
    OfBoth old new (IsAsBefore place.Report)
no_report_by_both old mid new trace weights =
    as_before_through old mid new place.Report (no_report_by_trace old mid trace) (as_before mid new place.Report place.Weights weights_not_report weights)

pub no_script_by_trace : (old new : Option Told) → OfBoth old new (KeepsOthers place.Trace) → OfBoth old new (IsAsBefore place.Script)
no_script_by_trace old new keeps = as_before old new place.Script place.Trace trace_not_script keeps

pub no_script_by_both : (old mid new : Option Told) → OfBoth old mid (KeepsOthers place.Trace) → OfBoth mid new (KeepsOthers place.Weights) →
    OfBoth old new (IsAsBefore place.Script)
no_script_by_both old mid new trace weights =
    as_before_through old mid new place.Script (no_script_by_trace old mid trace) (as_before mid new place.Script place.Weights weights_not_script weights)

-- ---- the file that failed

-- at a read fault this file failed, and with that
pub fails_if : (old new : Option Told) (name : Option (List ℕ)) (Q : Told → Told → Type 0) (s : Status) → OfBoth old new Q →
    ((count : ℕ) → s ≡ status.ReadFault count → OfBoth old new (NameFailedIf name)) → OfBoth old new (λ a b. FailsAt name s a b × Q a b)
fails_if old new name Q (status.ReadFault count) q h = both_joined old new (NameFailedIf name) Q (h count refl) q
fails_if old new name Q status.Ok q h = of_both old new Q (λ a b. FailsAt name status.Ok a b × Q a b) (λ a b x. (tt, x)) q
fails_if old new name Q status.No q h = of_both old new Q (λ a b. FailsAt name status.No a b × Q a b) (λ a b x. (tt, x)) q
fails_if old new name Q status.Usage q h = of_both old new Q (λ a b. FailsAt name status.Usage a b × Q a b) (λ a b x. (tt, x)) q
fails_if old new name Q status.UnknownPolicy q h = of_both old new Q (λ a b. FailsAt name status.UnknownPolicy a b × Q a b) (λ a b x. (tt, x)) q
fails_if old new name Q (status.BadTrace fault) q h = of_both old new Q (λ a b. FailsAt name (status.BadTrace fault) a b × Q a b) (λ a b x. (tt, x)) q
fails_if old new name Q (status.BadWeights fault) q h = of_both old new Q (λ a b. FailsAt name (status.BadWeights fault) a b × Q a b) (λ a b x. (tt, x)) q
fails_if old new name Q (status.BadReport line) q h = of_both old new Q (λ a b. FailsAt name (status.BadReport line) a b × Q a b) (λ a b x. (tt, x)) q
fails_if old new name Q (status.BadScript line field) q h = of_both old new Q (λ a b. FailsAt name (status.BadScript line field) a b × Q a b) (λ a b x. (tt, x)) q
fails_if old new name Q (status.BadOrder fault) q h = of_both old new Q (λ a b. FailsAt name (status.BadOrder fault) a b × Q a b) (λ a b x. (tt, x)) q
fails_if old new name Q (status.Limit which count) q h = of_both old new Q (λ a b. FailsAt name (status.Limit which count) a b × Q a b) (λ a b x. (tt, x)) q
fails_if old new name Q (status.WriteFault count) q h = of_both old new Q (λ a b. FailsAt name (status.WriteFault count) a b × Q a b) (λ a b x. (tt, x)) q
fails_if old new name Q (status.WireFault port count) q h = of_both old new Q (λ a b. FailsAt name (status.WireFault port count) a b × Q a b) (λ a b x. (tt, x)) q
fails_if old new name Q status.NoMemory q h = of_both old new Q (λ a b. FailsAt name status.NoMemory a b × Q a b) (λ a b x. (tt, x)) q

pub table_reads : (fault : TableFault) (s : Status) → IsStatusOfTable fault s → IsReadFault s → ⊥
table_reads (table_fault.Limit which count) s is read = subst IsReadFault is read
table_reads table_fault.NoMemory s is read = subst IsReadFault is read

pub no_read : (s : Status) (count : ℕ) → (IsReadFault s → ⊥) → s ≡ status.ReadFault count → ⊥
no_read s count other e = other (subst IsReadFault (sym e) tt)

-- ---- trace and weights in turn

pub trace_in_turn : (before now : ℕ) (old new : Option Told) (name : List ℕ) (file : Option (List ℕ)) (s : Status) → IsTraceCause before now old new name s →
    OfBoth old new (KeepsOthers place.Trace) → OfBoth old new (InputInTurn name file s)
trace_in_turn before now old new name file s cause others =
    of_both old new (λ a b. FailsAt (Some name) s a b × KeepsOthers place.Trace a b) (InputInTurn name file s)
    (λ a b (f, (files, lefts)). at_trace f (files place.Weights weights_not_trace, lefts place.Weights weights_not_trace))
    (fails_if old new (Some name) (KeepsOthers place.Trace) s others (λ count is. failed count (subst (λ (x : Status). IsTraceCause before now old new name x) is cause)))
  where
    failed : (count : ℕ) → IsTraceCause before now old new name (status.ReadFault count) → OfBoth old new (NameFailedIf (Some name))
    failed count (one, rose, named) = of_both old new (NameFailed name) (NameFailedIf (Some name)) (λ a b h. h) named

-- no file was looked at in the place of weights that are not named
left_alone : (old mid new : Option Told) (file : Option (List ℕ)) → OfBoth old mid (KeepsOthers place.Trace) → OfBoth mid new (KeepsOthers place.Weights) →
    (file ≡ None → OfBoth mid new (IsAsBefore place.Weights)) → OfBoth old new (IsAsBeforeUnless place.Weights file)
left_alone old mid new None trace weights unnamed =
    of_both old new (IsAsBefore place.Weights) (IsAsBeforeUnless place.Weights None) (λ a b h e. h)
    (as_before_through old mid new place.Weights (as_before old mid place.Weights place.Trace weights_not_trace trace) (unnamed refl))
left_alone old mid new (Some name) trace weights unnamed =
    of_both old new (IsAsBefore place.Report) (IsAsBeforeUnless place.Weights (Some name)) (λ a b h e. let clash : Some name ≡ None = e in cc)
    (no_report_by_both old mid new trace weights)

module _ (old mid new : Option Told) (name : List ℕ) (file : Option (List ℕ)) (trace : Trace) (read : IsTraceOf old name trace) (out : OfBoth old mid (IsReadOut place.Trace name))
    (elsewhere : OfBoth old mid (KeepsOthers place.Trace)) (others : OfBoth mid new (KeepsOthers place.Weights))
    (unnamed : file ≡ None → OfBoth mid new (IsAsBefore place.Weights)) where
  past_trace : (s : Status) → ((count : ℕ) → s ≡ status.ReadFault count → OfBoth old new (NameFailedIf file)) → OfBoth old new (InputInTurn name file s)
  past_trace s failed =
      both_and old new (ReadAs name trace) (λ a b. FailsAt file s a b × (IsReadOut place.Trace name a b × IsAsBeforeUnless place.Weights file a b)) (InputInTurn name file s)
      (λ a b (text, is) (f, (out, left)). at_weights text out left f) read.reads
      (fails_if old new file (λ a b. IsReadOut place.Trace name a b × IsAsBeforeUnless place.Weights file a b) s
      (both_joined old new (IsReadOut place.Trace name) (IsAsBeforeUnless place.Weights file)
      (still_out old mid new place.Trace place.Weights name trace_not_weights out others) (left_alone old mid new file elsewhere others unnamed)) failed)

  pub weights_in_turn : (before mid_count now : ℕ) (unit : ℕ) (s : Status) → KeepsFiles old mid → IsWeightsCause mid_count now mid new file trace.coflows s →
      OfBoth old new (InputInTurn name file s)
  weights_in_turn before mid_count now unit s keeps cause =
      past_trace s
      (λ count is.
      let known = subst (λ (x : Status). IsWeightsCause mid_count now mid new file trace.coflows x) is cause in
      let (one, rose, named) = by_name before mid_count now old mid new name file unit trace file count known in
      named_before old mid new file keeps named)

  pub table_in_turn : (fault : TableFault) (s : Status) → IsStatusOfTable fault s → OfBoth old new (InputInTurn name file s)
  table_in_turn fault s is = past_trace s (λ count e. absurd (no_read s count (table_reads fault s is) e))
