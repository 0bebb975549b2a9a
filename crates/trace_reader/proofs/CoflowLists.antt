-- The lines of coflows, one after another.
use Rattle.std.proofs.Common.{◌≡◌, ℕ, ◌<◌, List, [], ◌∷◌, ◌++◌, None, true, refl, sym, ◌∙◌, Err, length, map, append_assoc, length-append, arith}
use Rattle.std.specs.Prelude.{nat_lt}
use Rattle.std.proofs.lemmas.Bool.Decides.{nat_tests}
use Rattle.coflow_units.specs.declared.trace.CoflowLine.{CoflowLine}
use Rattle.text_fields.specs.Checks.{Check, first_fault}
use Rattle.text_fields.specs.Lines.{Line}
use Rattle.text_fields.proofs.CheckLists.{pass_first, fail_first}
use Rattle.trace_reader.specs.Checks.{Answers, is_no_memory}
use Rattle.trace_reader.specs.Coflow.{coflow_of, id_of, line_checks}
use Rattle.trace_reader.specs.Trace.{coflow_checks}
use Rattle.trace_reader.specs.declared.fault.TraceFault.{TraceFault}
use Rattle.text_fields.proofs.PartAnswers.{retold}

-- The lines before those that are left passed, and gave these ids and coflows.
pub record SoFar (ports count : ℕ) (all left : List Line) (ids : List ℕ) (coflows : List CoflowLine) : Type 0 where
  pub coflows_are : coflows ++ map coflow_of left ≡ map coflow_of all
  pub checks : first_fault (coflow_checks ports count ids left) ≡ first_fault (coflow_checks ports count [] all)
  pub ids_count : length ids ≡ length coflows

module _ (ports count : ℕ) (all left lines : List Line) (line : Line) (ids : List ℕ) (coflows : List CoflowLine) (next : left ≡ line ∷ lines)
    (so_far : SoFar ports count all left ids coflows) where
  abbrev others : List (Check TraceFault)
  others = coflow_checks ports count (ids ++ (id_of line ∷ [])) lines

  -- Where the line is none too many, its checks and those of the other lines decide.
  line_decides : length coflows < count → first_fault (line_checks ports ids line ++ others) ≡ first_fault (coflow_checks ports count [] all)
  line_decides few =
      let t : nat_lt (length ids) count ≡ true = let s = so_far.ids_count in grind (arith, nat_tests) in
      let first : first_fault (coflow_checks ports count ids left) ≡ first_fault (line_checks ports ids line ++ others) = rw (next, t) refl in
      sym first ∙ so_far.checks

  -- The line fails.
  pub line_fails : {V W : Type 0} (P : V → Type 0) (Q : W → Type 0) (f : TraceFault) → length coflows < count → Answers (line_checks ports ids line) P (Err f) →
      Answers (coflow_checks ports count [] all) Q (Err f)
  line_fails P Q f few told = retold is_no_memory P Q (line_checks ports ids line) (coflow_checks ports count [] all) f
      (λ e. sym (line_decides few) ∙ fail_first (line_checks ports ids line) others f e) told

  -- The loop goes on by the line.
  pub goes_on : (more : List ℕ) (x : CoflowLine) (back : List CoflowLine) → length coflows < count → (first_fault (line_checks ports ids line) ≡ None) × (x ≡ coflow_of line) →
      more ≡ ids ++ (id_of line ∷ []) → back ≡ coflows ++ (x ∷ []) → SoFar ports count all lines more back
  goes_on more x back few passed m b = record {
    coflows_are = rw (b, passed.1, append_assoc) (rw next at so_far.coflows_are);
    checks = rw m (sym (pass_first (line_checks ports ids line) others passed.0) ∙ line_decides few);
    ids_count = let s = so_far.ids_count in let f = length-append ids (id_of line ∷ []) in let g = length-append coflows (x ∷ []) in rw (m, b, f, g) (omega arith);
  }
