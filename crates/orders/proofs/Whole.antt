-- The checks of a whole text, once its lines were looked at.
use Rattle.std.proofs.Common.{◌≡◌, ◌≢◌, ℕ, List, [], Some, None, Err, true, false, length, refl, sym, ap, subst, ◌∙◌}
use Rattle.std.specs.Prelude.{◌==◌}
use Rattle.std.proofs.lemmas.Bool.{eq-eqb, ne_eqb}
use Rattle.std.proofs.lemmas.List.{length-map}
use Rattle.coflow_units.specs.Grants.{place_in}
use Rattle.orders.specs.Checks.{Answers, count_checks, id_of, is_no_memory, lines_checks}
use Rattle.orders.specs.Orders.{order_in, text_checks}
use Rattle.orders.specs.declared.fault.OrderFault.{OrderFault}
use Rattle.orders.specs.declared.fault.OrderFault.TheVariants as fault
use Rattle.text_fields.specs.Checks.{first_fault}
use Rattle.text_fields.specs.Fields.{Text}
use Rattle.text_fields.specs.Lines.{Line, lines_of}
use Rattle.text_fields.proofs.CheckLists.{pass_first}
use Rattle.text_fields.proofs.PartAnswers.{part_fails}

-- A line is refused.
pub refused : (text : Text) (seen ids : List ℕ) (f : OrderFault) → seen ≡ ids →
    Answers {V = List ℕ} (lines_checks seen [] (lines_of text)) (λ order. order ≡ order_in text seen) (Err f) →
    Answers {V = List ℕ} (text_checks text ids) (λ order. order ≡ order_in text ids) (Err f)
refused text seen ids f same a =
    part_fails is_no_memory (λ (order : List ℕ). order ≡ order_in text ids) (λ (order : List ℕ). order ≡ order_in text ids) (lines_checks ids [] (lines_of text))
    (count_checks (length (lines_of text)) (length ids)) f
    (subst (λ (x : List ℕ). Answers {V = List ℕ} (lines_checks x [] (lines_of text)) (λ order. order ≡ order_in text x) (Err f)) same a)

-- The lines passed, and were counted.
module _ (text : Text) (seen ids order : List ℕ) (same : seen ≡ ids) (passed : first_fault (lines_checks seen [] (lines_of text)) ≡ None) (is : order ≡ order_in text seen)
    (have want : ℕ) (said : have ≡ length order) (all : want ≡ length ids) where
  here : order ≡ order_in text ids
  here = is ∙ ap (order_in text) same

  count : length (lines_of text) ≡ have
  count = sym (said ∙ (ap length here ∙ length-map (lines_of text) (λ (line : Line). place_in ids (id_of line))))

  last : first_fault (text_checks text ids) ≡ first_fault (count_checks have want)
  last =
      pass_first (lines_checks ids [] (lines_of text)) (count_checks (length (lines_of text)) (length ids))
      (subst (λ (x : List ℕ). first_fault (lines_checks x [] (lines_of text)) ≡ None) same passed) ∙ rw (count, all) refl

  -- No coflow is missing.
  pub complete : have ≡ want → (first_fault (text_checks text ids) ≡ None) × (order ≡ order_in text ids)
  complete e = (last ∙ (let t : (have == want) ≡ true = eq-eqb have want e in rw t refl), here)

  -- A coflow is missing.
  pub missing : have ≢ want → first_fault (text_checks text ids) ≡ Some (fault.Missing have want)
  missing apart = last ∙ (let t : (have == want) ≡ false = ne_eqb have want apart in rw t refl)
