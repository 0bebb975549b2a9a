-- What trace and weights give together, and why they give nothing.
use Rattle.std.proofs.Common.{◌≡◌, ℕ, ◌^◌, ◌≤◌, inl, inr, List, Option, Some, None, length, sym, ap, subst, ◌∙◌, arith}
use Rattle.std.specs.Prelude.{IfSome}
use Rattle.std.proofs.lemmas.List.{length-map}
use Rattle.coflow_units.specs.Flows.{IsDistinct}
use Rattle.coflow_units.specs.declared.quantity.Quantity.{Quantity}
use Rattle.coflow_units.specs.declared.trace.CoflowLine.{CoflowLine}
use Rattle.coflow_units.specs.declared.trace.Trace.{Trace}
use Rattle.flow_table.specs.Causes.{HasCause}
use Rattle.flow_table.specs.declared.fault.TableFault.{TableFault}
use Rattle.flow_table.specs.declared.fault.TableFault.TheVariants as table_fault
use Rattle.flow_table.specs.Table.{IsTable, IsTableOf, TableFacts}
use Rattle.flow_table.specs.Units.{units_in_all}
use Rattle.outside.specs.declared.shelf.Place4.TheVariants as place
use Rattle.outside.specs.Rose.{Rose}
use Rattle.outside.specs.Shelf.{Told, bytes_of}
use Rattle.trace_reader.specs.Trace.{trace_of}
use Rattle.command_files.specs.declared.status.Status.{Status}
use Rattle.command_files.specs.declared.status.Status.TheVariants as status
use Rattle.command_files.specs.FileCauses.{NameFailed, NameFailedIf}
use Rattle.command_files.specs.InputCauses.{GiveTable, HasInputCause, HasWeightsFault, InputFailed, LimitCause}
use Rattle.command_files.specs.Faults.{IsStatusOfTable}
use Rattle.command_files.specs.InputCauses.LimitCause.{in_trace, in_weights, in_table}
use Rattle.command_files.specs.InputCauses.InputFailed.{at_trace, at_weights}
use Rattle.command_files.specs.Inputs.{GiveWeights, Gives, IsInput, IsTraceOf, IsTraceText, IsWeightsOf, bytes_if}
use Rattle.command_files.specs.Shelves.{AreReadOut, IsReadOut, IsReadOutIf, KeepsFiles, KeepsOthers, OfBoth}
use Rattle.command_files.specs.TraceCauses.{IsTraceCause, TraceLimit}
use Rattle.command_files.specs.WeightsCauses.{IsFaultOf, IsWeightsCause, WeightsLimit}
use Rattle.command_files.proofs.LimitFacts.{table_may}
use Rattle.command_files.proofs.ShelfFacts.{as_before, both_and, both_joined, if_some, later_out_if, named_before, of_both, rose_before, still_out, told_before, with_both}

given_before : (old mid : Option Told) (file : Option (List ℕ)) (coflows : List CoflowLine) (weights : List ℕ) → KeepsFiles old mid →
    IfSome mid (λ t. GiveWeights (bytes_if t file) coflows weights) → IfSome old (λ t. GiveWeights (bytes_if t file) coflows weights)
given_before old mid file coflows weights keeps h = told_before old mid file (λ b. GiveWeights b coflows weights) keeps h

-- a file gives one list of weights
pub weights_one : (file : Option (List ℕ)) (coflows : List CoflowLine) (a b : List ℕ) → GiveWeights file coflows a → GiveWeights file coflows b → a ≡ b
weights_one None coflows a b x y = x ∙ sym y
weights_one (Some text) coflows a b (short, passes, x) (low, good, y) = x ∙ sym y

-- what was read of a trace
abbrev pub ReadAs : List ℕ → Trace → Told → Type 0
ReadAs name trace t = IsTraceText (bytes_of t name) × (trace ≡ trace_of (bytes_of t name))

pub input_is : (old mid : Option Told) (name : List ℕ) (file : Option (List ℕ)) (unit : ℕ) (trace : Trace) (weights : List ℕ) (table : TableFacts) → IsTraceOf old name trace →
    KeepsFiles old mid → IsWeightsOf mid file trace.coflows weights → IsTableOf trace unit table → IsTable table →
    IsInput old name file unit table weights
input_is old mid name file unit trace weights table read keeps given of fits = record {
  table_fits = fits;
  ids = subst IsDistinct (sym of.ids) read.fits.ids;
  count = given.count ∙ sym (ap (λ (xs : List ℕ). length xs) of.ids ∙ length-map trace.coflows (λ (x : CoflowLine). x.id));
  least = given.least;
  most = given.most;
  gives = with_both old (ReadAs name trace) (λ t. GiveWeights (bytes_if t file) trace.coflows weights) (λ t. Gives (bytes_of t name) (bytes_if t file) unit table weights)
      (λ t (text, is) g. record {
        trace_text = text;
        weights_are = subst (λ (x : Trace). GiveWeights (bytes_if t file) x.coflows weights) is g;
        table_is = subst (λ (x : Trace). IsTableOf x unit table) is of;
      }) read.reads (given_before old mid file trace.coflows weights keeps given.given);
}

-- a table that was made is within its limits
fits_table : (trace : Trace) (unit : ℕ) (table : TableFacts) → IsTableOf trace unit table → IsTable table → units_in_all trace unit ≤ 2 ^ 40 → (which : Quantity) (count : ℕ) →
    HasCause trace unit (table_fault.Limit which count) → ⊥
fits_table trace unit table of fits units which count (inl (is, (many, told))) = absurd (omega (arith, units, many))
fits_table trace unit table of fits units which count (inr (is, (few, told, long))) = absurd (omega (arith, long table.flows of.flows, fits.few_flows))

pub table_given : (old : Option Told) (name : List ℕ) (file : Option (List ℕ)) (unit : ℕ) (trace : Trace) (weights : List ℕ) (table : TableFacts) → IsTraceOf old name trace →
    IsInput old name file unit table weights → IsTableOf trace unit table → units_in_all trace unit ≤ 2 ^ 40 →
    IfSome old (λ t. GiveTable (bytes_of t name) (bytes_if t file) unit)
table_given old name file unit trace weights table read input of units =
    with_both old (ReadAs name trace) (λ t. Gives (bytes_of t name) (bytes_if t file) unit table weights) (λ t. GiveTable (bytes_of t name) (bytes_if t file) unit)
    (λ t (text, is) gives. record {
      table = table;
      list = weights;
      gives = gives;
      fits = subst (λ (x : Trace). (which : Quantity) (count : ℕ) → HasCause x unit (table_fault.Limit which count) → ⊥) is (fits_table trace unit table of input.table_fits units);
    }) read.reads input.gives

-- both files are read to their ends
pub both_out : (old mid new : Option Told) (name : List ℕ) (file : Option (List ℕ)) → OfBoth old mid (IsReadOut place.Trace name) → KeepsFiles old mid →
    OfBoth old mid (KeepsOthers place.Trace) → OfBoth mid new (KeepsOthers place.Weights) → OfBoth mid new (IsReadOutIf place.Weights file) → OfBoth old new (AreReadOut name file)
both_out old mid new name file out keeps elsewhere others later =
    both_joined old new (IsReadOut place.Trace name) (IsReadOutIf place.Weights file) (still_out old mid new place.Trace place.Weights name differ out others)
    (later_out_if old mid new place.Weights file keeps (as_before old mid place.Weights place.Trace apart elsewhere) later)
  where
    differ : place.Trace ≡ place.Weights → ⊥
    differ e = cc

    apart : place.Weights ≡ place.Trace → ⊥
    apart e = cc

-- ---- the causes of both together

pub from_trace : (before now : ℕ) (old new : Option Told) (name : List ℕ) (file : Option (List ℕ)) (unit : ℕ) (s : Status) → IsTraceCause before now old new name s →
    HasInputCause before now old new name file unit s
from_trace before now old new name file unit (status.BadTrace fault) cause = cause
from_trace before now old new name file unit (status.Limit which count) (may, limit) =
    (may, if_some old (λ t. TraceLimit (bytes_of t name) which count) (λ t. LimitCause (bytes_of t name) (bytes_if t file) unit which count) (λ t h. in_trace h) limit)
from_trace before now old new name file unit (status.ReadFault count) (one, rose, named) =
    (one, rose, of_both old new (NameFailed name) (InputFailed name file) (λ a b h. at_trace h) named)
from_trace before now old new name file unit status.NoMemory cause = tt
from_trace before now old new name file unit status.Ok cause = absurd cause
from_trace before now old new name file unit status.Usage cause = absurd cause
from_trace before now old new name file unit status.UnknownPolicy cause = absurd cause
from_trace before now old new name file unit status.No cause = absurd cause
from_trace before now old new name file unit (status.BadReport line) cause = absurd cause
from_trace before now old new name file unit (status.BadScript line field) cause = absurd cause
from_trace before now old new name file unit (status.BadOrder fault) cause = absurd cause
from_trace before now old new name file unit (status.BadWeights fault) cause = absurd cause
from_trace before now old new name file unit (status.WriteFault count) cause = absurd cause
from_trace before now old new name file unit (status.WireFault port count) cause = absurd cause

module _ (before mid_count now : ℕ) (old mid new : Option Told) (name : List ℕ) (file : Option (List ℕ)) (unit : ℕ) (trace : Trace) where
  weights_failed : KeepsFiles old mid → IsTraceOf old name trace → OfBoth mid new (NameFailedIf file) → OfBoth old new (InputFailed name file)
  weights_failed keeps read named =
      both_and old new (ReadAs name trace) (NameFailedIf file) (InputFailed name file) (λ a b (text, is) h. at_weights text h) read.reads
      (named_before old mid new file keeps named)

  pub by_name : (o : Option (List ℕ)) (count : ℕ) → IsWeightsCause mid_count now mid new o trace.coflows (status.ReadFault count) → (count ≡ 1) × Rose mid_count now ×
      OfBoth mid new (NameFailedIf o)
  by_name None count h = absurd h
  by_name (Some weights) count (one, rose, named) = (one, rose, of_both mid new (NameFailed weights) (NameFailedIf (Some weights)) (λ a b h. h) named)

  pub from_weights : (s : Status) → before ≤ mid_count → KeepsFiles old mid → IsTraceOf old name trace → IsWeightsCause mid_count now mid new file trace.coflows s →
      HasInputCause before now old new name file unit s
  from_weights (status.BadWeights fault) le keeps read (form, h) = (
    form,
    with_both old (ReadAs name trace) (λ t. IsFaultOf (bytes_if t file) trace.coflows fault) (λ t. HasWeightsFault (bytes_of t name) (bytes_if t file) fault)
        (λ t (text, is) f. (text, subst (λ (x : Trace). IsFaultOf (bytes_if t file) x.coflows fault) is f)) read.reads
        (told_before old mid file (λ b. IsFaultOf b trace.coflows fault) keeps h),
  )
  from_weights (status.Limit which count) le keeps read (may, h) = (
    may,
    with_both old (ReadAs name trace) (λ t. WeightsLimit (bytes_if t file) trace.coflows which count) (λ t. LimitCause (bytes_of t name) (bytes_if t file) unit which count)
        (λ t (text, is) l. in_weights text (subst (λ (x : Trace). WeightsLimit (bytes_if t file) x.coflows which count) is l)) read.reads
        (told_before old mid file (λ b. WeightsLimit b trace.coflows which count) keeps h),
  )
  from_weights (status.ReadFault count) le keeps read h =
      let (one, rose, named) = by_name file count h in
      (one, rose_before before mid_count now le rose, weights_failed keeps read named)
  from_weights status.NoMemory le keeps read h = tt
  from_weights status.Ok le keeps read h = absurd h
  from_weights status.Usage le keeps read h = absurd h
  from_weights status.UnknownPolicy le keeps read h = absurd h
  from_weights status.No le keeps read h = absurd h
  from_weights (status.BadReport line) le keeps read h = absurd h
  from_weights (status.BadScript line field) le keeps read h = absurd h
  from_weights (status.BadOrder fault) le keeps read h = absurd h
  from_weights (status.BadTrace fault) le keeps read h = absurd h
  from_weights (status.WriteFault count) le keeps read h = absurd h
  from_weights (status.WireFault port count) le keeps read h = absurd h

pub from_table : (before now : ℕ) (old mid new : Option Told) (name : List ℕ) (file : Option (List ℕ)) (unit : ℕ) (trace : Trace) (weights : List ℕ) (fault : TableFault)
    (s : Status) →
    KeepsFiles old mid → IsTraceOf old name trace → IsWeightsOf mid file trace.coflows weights →
    HasCause trace unit fault → IsStatusOfTable fault s → HasInputCause before now old new name file unit s
from_table before now old mid new name file unit trace weights (table_fault.Limit which count) s keeps read given h is =
    subst (λ (x : Status). HasInputCause before now old new name file unit x) (sym is) (
      table_may trace unit which count h,
      with_both old (ReadAs name trace) (λ t. GiveWeights (bytes_if t file) trace.coflows weights) (λ t. LimitCause (bytes_of t name) (bytes_if t file) unit which count)
          (λ t (text, same) g. in_table text weights (subst (λ (x : Trace). GiveWeights (bytes_if t file) x.coflows weights) same g)
          (subst (λ (x : Trace). HasCause x unit (table_fault.Limit which count)) same h)) read.reads (given_before old mid file trace.coflows weights keeps given.given),
    )
from_table before now old mid new name file unit trace weights table_fault.NoMemory s keeps read given h is =
    subst (λ (x : Status). HasInputCause before now old new name file unit x) (sym is) tt
