-- The parts of a text, as the code reads them.
use Rattle.std.proofs.Common.{◌≡◌, ℕ, ◌≤◌, ◌<◌, List, [], ◌∷◌, ◌++◌, Some, None, true, false, refl, sym, ap, subst, ◌∙◌, Err, length, map, arith}
use Rattle.std.specs.Prelude.{nat_le}
use Rattle.std.proofs.lemmas.Bool.Decides.{nat_tests}
use Rattle.std.proofs.lemmas.List.{length-map}
use Rattle.coflow_units.specs.declared.trace.CoflowLine.{CoflowLine}
use Rattle.coflow_units.specs.declared.trace.Trace.{Trace}
use Rattle.coflow_units.specs.Trace.{IsTrace}
use Rattle.text_fields.specs.Checks.{Check, first_fault}
use Rattle.text_fields.specs.Fields.{Text}
use Rattle.text_fields.specs.Lines.{Line, lines_of}
use Rattle.text_fields.proofs.CheckLists.{pass_first, fail_first}
use Rattle.trace_reader.specs.Checks.{Answers, is_no_memory}
use Rattle.trace_reader.specs.Coflow.{coflow_of}
use Rattle.trace_reader.specs.Header.{coflow_count, header_checks, ports_of}
use Rattle.trace_reader.specs.Trace.{coflow_checks, lines_checks, lines_trace, missing, trace_checks, trace_of}
use Rattle.trace_reader.specs.declared.fault.TraceFault.{TraceFault}
use Rattle.trace_reader.specs.declared.fault.TraceFault.TheVariants as fault
use Rattle.trace_reader.proofs.Accepted.{accepted, counts_in, lines_in, none_differ}
use Rattle.text_fields.proofs.PartAnswers.{retold}

-- So many lines of coflows pass, behind a header that passes, as the header may say at most.
pub few_lines : (header : Line) (lines : List Line) (counts : ℕ × ℕ) (items : List CoflowLine) →
    (first_fault (header_checks header) ≡ None) × ((counts.0 ≡ ports_of header) × (counts.1 ≡ coflow_count header))
    → (first_fault (coflow_checks counts.0 counts.1 [] lines) ≡ None) × (items ≡ map coflow_of lines) → length items ≤ 4096
few_lines header lines counts items passed read =
    let n : length items ≡ length lines = ap length read.1 ∙ length-map lines coflow_of in
    let most = (lines_in counts.0 counts.1 [] lines read.0 (omega arith) none_differ).0 in
    omega (arith, most, (counts_in header passed.0).1.1, passed.1.1)

module _ (text : Text) (header : Line) (lines : List Line) (counts : ℕ × ℕ) (cut : lines_of text ≡ header ∷ lines)
    (passed : (first_fault (header_checks header) ≡ None) × ((counts.0 ≡ ports_of header) × (counts.1 ≡ coflow_count header))) where
  abbrev coflows : List (Check TraceFault)
  coflows = coflow_checks counts.0 counts.1 [] lines

  abbrev ended : List (Check TraceFault)
  ended = missing (length lines) counts.1 ∷ []

  -- Behind the header the lines of coflows decide, and then their number.
  header_decides : first_fault (trace_checks text) ≡ first_fault (coflows ++ ended)
  header_decides =
      ap (λ (l : List Line). first_fault (lines_checks l)) cut
      ∙ (pass_first (header_checks header) (coflow_checks (ports_of header) (coflow_count header) [] lines ++ (missing (length lines) (coflow_count header) ∷ [])) passed.0
      ∙ rw (← passed.1.0, ← passed.1.1) refl)

  -- A line of a coflow fails.
  pub coflows_fail : {V W : Type 0} (P : V → Type 0) (Q : W → Type 0) (f : TraceFault) → Answers coflows P (Err f) → Answers (trace_checks text) Q (Err f)
  coflows_fail P Q f told = retold is_no_memory P Q coflows (trace_checks text) f (λ e. header_decides ∙ fail_first coflows ended f e) told

  module _ (have : ℕ) (items : List CoflowLine) (count : have ≡ length items) (read : (first_fault coflows ≡ None) × (items ≡ map coflow_of lines)) where
    have_is : have ≡ length lines
    have_is = count ∙ (ap length read.1 ∙ length-map lines coflow_of)

    -- Some lines are missing.
    pub some_missing : have < counts.1 → first_fault (trace_checks text) ≡ Some (fault.Missing have counts.1)
    some_missing less =
        let n = have_is in
        let t : nat_le counts.1 (length lines) ≡ false = grind (arith, nat_tests) in
        header_decides ∙ (pass_first coflows ended read.0 ∙ rw (t, ← n) refl)

    -- No line is missing.
    pub none_missing : counts.1 ≤ have → first_fault (trace_checks text) ≡ None
    none_missing most =
        let n = have_is in
        let t : nat_le counts.1 (length lines) ≡ true = grind (arith, nat_tests) in
        header_decides ∙ (pass_first coflows ended read.0 ∙ rw t refl)

    -- What was read is what the text says.
    pub trace_is : (xs : List CoflowLine) → xs ≡ items → ◌≡◌ {A = Trace} record { number = counts.0; coflows = xs } (trace_of text)
    trace_is xs e = let s : xs ≡ map coflow_of lines = e ∙ read.1 in rw (passed.1.0, s) (sym (ap lines_trace cut))

-- A trace that was read is within the limits.
pub within_limits : (text : Text) (t : Trace) → first_fault (trace_checks text) ≡ None → t ≡ trace_of text → IsTrace t
within_limits text t passed same = subst IsTrace (sym same) (accepted (lines_of text) passed)
