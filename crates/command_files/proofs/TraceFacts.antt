-- What the bytes of a trace give, and why they give nothing.
use Rattle.std.proofs.Common.{◌≡◌, ℕ, ◌^◌, ◌≤◌, inl, inr, List, Option, Some, None, Err, length, sym, ap, subst, ◌∙◌}
use Rattle.std.specs.Prelude.{IfSome}
use Rattle.coflow_units.specs.declared.quantity.Quantity.{Quantity}
use Rattle.coflow_units.specs.declared.trace.Trace.{Trace}
use Rattle.outside.specs.Shelf.{Told, bytes_of}
use Rattle.text_fields.specs.Checks.{first_fault}
use Rattle.trace_reader.specs.Checks.{Answers}
use Rattle.trace_reader.specs.Trace.{trace_checks, trace_of}
use Rattle.trace_reader.specs.declared.fault.TraceFault.{TraceFault}
use Rattle.trace_reader.specs.declared.fault.TraceFault.TheVariants as trace_fault
use Rattle.command_files.specs.declared.status.Status.{Status}
use Rattle.command_files.specs.declared.status.Status.TheVariants as status
use Rattle.command_files.specs.FileCauses.{IsFileCause}
use Rattle.command_files.specs.Inputs.{IsTraceText}
use Rattle.command_files.specs.Shelves.{HasBytes}
use Rattle.command_files.specs.TraceCauses.{HasTraceFault, IsTooLong, IsTraceCause, IsTraceForm, TraceLimit}
use Rattle.command_files.specs.Faults.{IsStatusOfTrace}
use Rattle.command_files.proofs.LimitFacts.{text_may, trace_may}

trace_has : (old : Option Told) (name bytes lent : List ℕ) (fault : TraceFault) → HasBytes old name bytes → lent ≡ bytes → length bytes ≤ 2 ^ 26 →
    first_fault (trace_checks lent) ≡ Some fault → IfSome old (λ t. HasTraceFault (bytes_of t name) fault)
trace_has None name bytes lent fault has e short first = tt
trace_has (Some t) name bytes lent fault has e short first = record {
  short = subst (λ (xs : List ℕ). length xs ≤ 2 ^ 26) has short;
  first = ap (λ (xs : List ℕ). first_fault (trace_checks xs)) (sym (e ∙ has)) ∙ first;
}

bad_trace : (before now : ℕ) (old new : Option Told) (name bytes lent : List ℕ) (fault : TraceFault) (s : Status) → IsTraceForm fault → HasBytes old name bytes → lent ≡ bytes →
    length bytes ≤ 2 ^ 26 → first_fault (trace_checks lent) ≡ Some fault → s ≡ status.BadTrace fault →
    IsTraceCause before now old new name s
bad_trace before now old new name bytes lent fault s form has e short first is =
    subst (λ (x : Status). IsTraceCause before now old new name x) (sym is) (form, trace_has old name bytes lent fault has e short first)

trace_limit : (old : Option Told) (name bytes lent : List ℕ) (line : ℕ) (which : Quantity) (count : ℕ) → HasBytes old name bytes → lent ≡ bytes → length bytes ≤ 2 ^ 26 →
    first_fault (trace_checks lent) ≡ Some (trace_fault.Limit line which count) →
    IfSome old (λ t. TraceLimit (bytes_of t name) which count)
trace_limit None name bytes lent line which count has e short first = tt
trace_limit (Some t) name bytes lent line which count has e short first = inr (line, trace_has (Some t) name bytes lent (trace_fault.Limit line which count) has e short first)

pub trace_cause : (before now : ℕ) (old new : Option Told) (name bytes lent : List ℕ) (P : Trace → Type 0) (fault : TraceFault) (s : Status) → HasBytes old name bytes →
    lent ≡ bytes → length bytes ≤ 2 ^ 26 → Answers (trace_checks lent) P (Err fault) → IsStatusOfTrace fault s →
    IsTraceCause before now old new name s
trace_cause before now old new name bytes lent P trace_fault.BadHeader s has e short first is =
    bad_trace before now old new name bytes lent trace_fault.BadHeader s tt has e short first is
trace_cause before now old new name bytes lent P (trace_fault.BadLine line field) s has e short first is =
    bad_trace before now old new name bytes lent (trace_fault.BadLine line field) s tt has e short first is
trace_cause before now old new name bytes lent P (trace_fault.Missing have want) s has e short first is =
    bad_trace before now old new name bytes lent (trace_fault.Missing have want) s tt has e short first is
trace_cause before now old new name bytes lent P (trace_fault.Extra line) s has e short first is =
    bad_trace before now old new name bytes lent (trace_fault.Extra line) s tt has e short first is
trace_cause before now old new name bytes lent P (trace_fault.DuplicateId line id) s has e short first is =
    bad_trace before now old new name bytes lent (trace_fault.DuplicateId line id) s tt has e short first is
trace_cause before now old new name bytes lent P (trace_fault.PortRange line port) s has e short first is =
    bad_trace before now old new name bytes lent (trace_fault.PortRange line port) s tt has e short first is
trace_cause before now old new name bytes lent P (trace_fault.Limit line which count) s has e short first is =
    subst (λ (x : Status). IsTraceCause before now old new name x) (sym is)
    (trace_may lent line which count first, trace_limit old name bytes lent line which count has e short first)
trace_cause before now old new name bytes lent P trace_fault.NoMemory s has e short first is = subst (λ (x : Status). IsTraceCause before now old new name x) (sym is) tt

pub file_to_trace : (before now : ℕ) (old new : Option Told) (name : List ℕ) (s : Status) → IsFileCause 67108864 before now old new name s → IsTraceCause before now old new name s
file_to_trace before now old new name (status.Limit which count) cause = (text_may which cause.0, go old cause.2) where
  go : (o : Option Told) → IfSome o (λ t. IsTooLong (bytes_of t name)) → IfSome o (λ t. TraceLimit (bytes_of t name) which count)
  go None long = tt
  go (Some t) long = inl (cause.0, cause.1, long)
file_to_trace before now old new name (status.ReadFault count) cause = cause
file_to_trace before now old new name status.NoMemory cause = tt
file_to_trace before now old new name status.Ok cause = absurd cause
file_to_trace before now old new name status.Usage cause = absurd cause
file_to_trace before now old new name status.UnknownPolicy cause = absurd cause
file_to_trace before now old new name status.No cause = absurd cause
file_to_trace before now old new name (status.BadReport line) cause = absurd cause
file_to_trace before now old new name (status.BadScript line field) cause = absurd cause
file_to_trace before now old new name (status.BadOrder fault) cause = absurd cause
file_to_trace before now old new name (status.BadTrace fault) cause = absurd cause
file_to_trace before now old new name (status.BadWeights fault) cause = absurd cause
file_to_trace before now old new name (status.WriteFault count) cause = absurd cause
file_to_trace before now old new name (status.WireFault port count) cause = absurd cause

pub trace_read : (old : Option Told) (name bytes lent : List ℕ) (P : Trace → Type 0) (trace : Trace) → HasBytes old name bytes → lent ≡ bytes → length bytes ≤ 2 ^ 26 →
    first_fault (trace_checks lent) ≡ None → trace ≡ trace_of lent →
    IfSome old (λ t. IsTraceText (bytes_of t name) × (trace ≡ trace_of (bytes_of t name)))
trace_read None name bytes lent P trace has e short passes is = tt
trace_read (Some t) name bytes lent P trace has e short passes is = (
  record {
    short = subst (λ (xs : List ℕ). length xs ≤ 2 ^ 26) has short;
    passes = ap (λ (xs : List ℕ). first_fault (trace_checks xs)) (sym (e ∙ has)) ∙ passes;
  },
  is ∙ ap trace_of (e ∙ has),
)
