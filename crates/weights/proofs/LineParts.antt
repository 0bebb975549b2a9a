-- The parts of a line, as the code reads them.
use Rattle.std.proofs.Common.{◌≡◌, ℕ, List, [], ◌∷◌, ◌++◌, Some, None, Bool, true, false, refl, sym, ◌∙◌, Ok, Err, is_some, drop, length, subst}
use Rattle.std.specs.Prelude.{nat_eq, ◌==◌}
use Rattle.std.specs.List.{list_any}
use Rattle.std.specs.Map.{keys_of, lookup}
use Rattle.text_fields.specs.Checks.{Check, first_fault}
use Rattle.text_fields.specs.Fields.{Text, field_at}
use Rattle.text_fields.specs.Lines.{Line}
use Rattle.text_fields.specs.Numbers.{number}
use Rattle.text_fields.proofs.CheckLists.{pass_first, fail_first}
use Rattle.weights.specs.Checks.{Answers, id_checks, fresh_checks, weight_checks, end_checks, is_no_memory, line_checks}
use Rattle.weights.specs.declared.fault.WeightsFault.{WeightsFault}
use Rattle.weights.specs.declared.fault.WeightsFault.TheVariants as fault
use Rattle.text_fields.proofs.PartAnswers.{part_fails, after_passed}

-- A map has a key just where its keys list it.
pub found_key : (test : ℕ → Bool) (es : List (ℕ × ℕ)) → is_some (lookup test es) ≡ list_any test (keys_of es)
found_key test [] = refl
found_key test (e ∷ es) = go (test e.0) refl (found_key test es)
  where
    go : (b : Bool) → test e.0 ≡ b → is_some (lookup test es) ≡ list_any test (keys_of es) → is_some (lookup test (e ∷ es)) ≡ list_any test (keys_of (e ∷ es))
    go true t rest = rw t refl
    go false t rest = rw t rest

-- The id was read from the first field.
pub id_passed : (ids : List ℕ) (n l : ℕ) (field f : Text) (id : ℕ) → n ≡ l → field ≡ f → Answers (id_checks ids n field) (λ v. v ≡ number field) (Ok id) →
    (first_fault (id_checks ids l f) ≡ None) × (id ≡ number f)
id_passed ids n l field f id p q h = rw (← p, ← q) h

-- The weight was read from the second field.
pub weight_passed : (n l : ℕ) (field f : Text) (weight : ℕ) → n ≡ l → field ≡ f → Answers (weight_checks n field) (λ v. v ≡ number field) (Ok weight) →
    (first_fault (weight_checks l f) ≡ None) × (weight ≡ number f)
weight_passed n l field f weight p q h = rw (← p, ← q) h

-- The second field was refused.
pub weight_refused : (n l : ℕ) (field f : Text) (e : WeightsFault) → n ≡ l → field ≡ f → Answers {V = ℕ} (weight_checks n field) (λ v. v ≡ number field) (Err e) →
    Answers {V = ℕ} (weight_checks l f) (λ v. v ≡ number f) (Err e)
weight_refused n l field f e p q h =
    subst (λ (x : Text). Answers {V = ℕ} (weight_checks l x) (λ v. v ≡ number x) (Err e)) q
    (subst (λ (x : ℕ). Answers {V = ℕ} (weight_checks x field) (λ v. v ≡ number field) (Err e)) p h)

-- No earlier line has the id.
pub fresh_passed : (es : List (ℕ × ℕ)) (l : ℕ) (f : Text) (id : ℕ) → id ≡ number f → false ≡ is_some (lookup (nat_eq id) es) → first_fault (fresh_checks (keys_of es) l f) ≡ None
fresh_passed es l f id p none = let e : list_any (nat_eq (number f)) (keys_of es) ≡ false = rw (← p) (sym (found_key (nat_eq id) es) ∙ sym none) in rw e refl

-- An earlier line has the id.
pub fresh_fails : (es : List (ℕ × ℕ)) (n l : ℕ) (f : Text) (id : ℕ) → n ≡ l → id ≡ number f → true ≡ is_some (lookup (nat_eq id) es) →
    first_fault (fresh_checks (keys_of es) l f) ≡ Some (fault.DuplicateId n id)
fresh_fails es n l f id q p some = let e : list_any (nat_eq (number f)) (keys_of es) ≡ true = rw (← p) (sym (found_key (nat_eq id) es) ∙ sym some) in rw (e, q, p) refl

-- The line has no third field.
pub end_passed : (line : Line) (left : List Text) → left ≡ drop 2 line.texts → true ≡ (length left == 0) → first_fault (end_checks line) ≡ None
end_passed line left p none = let e : (length (drop 2 line.texts) == 0) ≡ true = rw (← p) (sym none) in rw e refl

-- The line has a third field.
pub end_fails : (line : Line) (n : ℕ) (left : List Text) → n ≡ line.number → left ≡ drop 2 line.texts → false ≡ (length left == 0) →
    first_fault (end_checks line) ≡ Some (fault.BadLine n 3)
end_fails line n left q p some = let e : (length (drop 2 line.texts) == 0) ≡ false = rw (← p) (sym some) in rw (e, q) refl

module _ (ids earlier : List ℕ) (line : Line) where
  abbrev first : List (Check WeightsFault)
  first = id_checks ids line.number (field_at line.texts 0)

  abbrev second : List (Check WeightsFault)
  second = fresh_checks earlier line.number (field_at line.texts 0)

  abbrev third : List (Check WeightsFault)
  third = weight_checks line.number (field_at line.texts 1)

  abbrev fourth : List (Check WeightsFault)
  fourth = end_checks line

  -- The line fails at its second check.
  pub second_fails : (f : WeightsFault) → first_fault first ≡ None → first_fault second ≡ Some f → first_fault (line_checks ids earlier line) ≡ Some f
  second_fails f p1 e = pass_first first (second ++ (third ++ fourth)) p1 ∙ fail_first second (third ++ fourth) f e

  -- The line fails at its weight.
  pub third_fails : {V W : Type 0} (P : V → Type 0) (Q : W → Type 0) (f : WeightsFault) → first_fault first ≡ None → first_fault second ≡ None → Answers third P (Err f) →
      Answers (line_checks ids earlier line) Q (Err f)
  third_fails P Q f p1 p2 e =
      after_passed is_no_memory Q Q first (second ++ (third ++ fourth)) f p1
      (after_passed is_no_memory Q Q second (third ++ fourth) f p2 (part_fails is_no_memory P Q third fourth f e))

  -- The line fails at its end, or passes.
  pub fourth_decides : first_fault first ≡ None → first_fault second ≡ None → first_fault third ≡ None → first_fault (line_checks ids earlier line) ≡ first_fault fourth
  fourth_decides p1 p2 p3 = pass_first first (second ++ (third ++ fourth)) p1 ∙ (pass_first second (third ++ fourth) p2 ∙ pass_first third fourth p3)
