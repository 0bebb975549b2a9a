-- A script line by line.
use Rattle.std.proofs.Common.{◌≡◌, ℕ, ◌+◌, ◌≤◌, ◌<◌, List, ◌∷◌, ◌++◌, Some, None, true, false, arith, refl, sym, ◌∙◌, Err}
use Rattle.std.specs.Prelude.{max, nat_le}
use Rattle.std.proofs.lemmas.Bool.Decides.{nat_tests}
use Rattle.coflow_units.specs.declared.limits.TheConstants.{MAX_COMMANDS}
use Rattle.coflow_units.specs.declared.quantity.Quantity.TheVariants as quantity
use Rattle.text_fields.specs.Checks.{first_fault}
use Rattle.text_fields.specs.Lines.{Line}
use Rattle.text_fields.proofs.CheckLists.{pass_first, fail_first}
use Rattle.workload.specs.Checks.{Answers, count_checks, is_no_memory, line_checks, lines_checks}
use Rattle.workload.specs.Draft.{all_rounds}
use Rattle.workload.specs.Script.{client_of, clients_of, put_step, rounds_of, step_of}
use Rattle.workload.specs.declared.fault.ScriptFault.{ScriptFault}
use Rattle.workload.specs.declared.fault.ScriptFault.TheVariants as fault
use Rattle.workload.specs.declared.script.Round.{Round}
use Rattle.workload.specs.declared.script.ScriptLine.{ScriptLine}
use Rattle.workload.specs.declared.line.Step.{Step}
use Rattle.text_fields.proofs.PartAnswers.{first_fails}

-- So many lines passed and stand in the draft, and the others are left.
pub record SoFar (ids : List ℕ) (lines left : List Line) (count clients : ℕ) (rounds : List Round) (asked : List ScriptLine) : Type 0 where
  pub few : count ≤ MAX_COMMANDS
  pub rounds_are : all_rounds rounds asked (rounds_of ids left) ≡ rounds_of ids lines
  pub clients_are : max clients (clients_of ids left) ≡ clients_of ids lines
  pub passed : first_fault (lines_checks ids count left) ≡ first_fault (lines_checks ids 0 lines)

module _ (ids : List ℕ) (lines left rest : List Line) (line : Line) (count clients : ℕ) (rounds : List Round) (asked : List ScriptLine) (next : left ≡ line ∷ rest)
    (h : SoFar ids lines left count clients rounds asked) where
  behind : first_fault (line_checks ids line ++ (count_checks count ++ lines_checks ids (count + 1) rest)) ≡ first_fault (lines_checks ids 0 lines)
  behind = rw next at h.passed

  -- A line fails.
  pub line_fails : {V W : Type 0} (P : V → Type 0) (Q : W → Type 0) (f : ScriptFault) → Answers (line_checks ids line) P (Err f) → Answers (lines_checks ids 0 lines) Q (Err f)
  line_fails P Q f a = first_fails is_no_memory P Q (line_checks ids line) (count_checks count ++ lines_checks ids (count + 1) rest) (lines_checks ids 0 lines) f behind a

  -- A line that passes is one too many.
  pub too_many : first_fault (line_checks ids line) ≡ None → count ≡ MAX_COMMANDS →
      first_fault (lines_checks ids 0 lines) ≡ Some (fault.Limit quantity.Commands (MAX_COMMANDS + 1))
  too_many e full =
      let over : nat_le (count + 1) MAX_COMMANDS ≡ false = grind (arith, nat_tests) in
      sym behind ∙ (pass_first (line_checks ids line) (count_checks count ++ lines_checks ids (count + 1) rest) e ∙
      fail_first (count_checks count) (lines_checks ids (count + 1) rest) (fault.Limit quantity.Commands (MAX_COMMANDS + 1)) (rw over refl))

  -- A line passes and goes to the draft.
  pub goes_on : (step : Step) (clients' : ℕ) (rounds' : List Round) (asked' : List ScriptLine) → first_fault (line_checks ids line) ≡ None → step ≡ step_of ids line →
      count < MAX_COMMANDS → clients' ≡ max clients (client_of step) →
      ((xs : List Round) → all_rounds rounds' asked' xs ≡ all_rounds rounds asked (put_step step xs)) → SoFar ids lines rest (count + 1) clients' rounds' asked'
  goes_on step clients' rounds' asked' e is few greater put =
      let within : nat_le (count + 1) MAX_COMMANDS ≡ true = grind (arith, nat_tests) in
      let all_rounds_are : all_rounds rounds asked (put_step (step_of ids line) (rounds_of ids rest)) ≡ rounds_of ids lines = rw next at h.rounds_are in
      let all_clients_are : max clients (max (client_of (step_of ids line)) (clients_of ids rest)) ≡ clients_of ids lines = rw next at h.clients_are in
      let counted : first_fault (count_checks count) ≡ None = rw within refl in
      record {
        few = omega (arith, few);
        rounds_are = put (rounds_of ids rest) ∙ rw is all_rounds_are;
        clients_are = rw (greater, is) (omega (arith, all_clients_are));
        passed = sym (pass_first (line_checks ids line) (count_checks count ++ lines_checks ids (count + 1) rest) e ∙
            pass_first (count_checks count) (lines_checks ids (count + 1) rest) counted) ∙ behind;
      }
