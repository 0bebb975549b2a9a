-- The parts of a line, as the code reads them.
use Rattle.std.proofs.Common.{◌≡◌, ℕ, ◌+◌, ◌^◌, ◌-◌, ◌≤◌, List, [], ◌∷◌, ◌++◌, Some, None, true, false, refl, sym, ap, ◌∙◌, Err, drop, length}
use Rattle.std.specs.Prelude.{◌==◌}
use Rattle.std.proofs.lemmas.List.{drop-drop}
use Rattle.coflow_units.specs.declared.quantity.Quantity.{Quantity}
use Rattle.coflow_units.specs.declared.quantity.Quantity.TheVariants as quantity
use Rattle.coflow_units.specs.declared.trace.CoflowLine.{CoflowLine}
use Rattle.coflow_units.specs.declared.trace.Reducer.{Reducer}
use Rattle.text_fields.specs.Checks.{Check, first_fault}
use Rattle.text_fields.specs.Fields.{Text, field_at}
use Rattle.text_fields.specs.Lines.{Line, without_first}
use Rattle.text_fields.specs.Numbers.{number}
use Rattle.text_fields.proofs.CheckLists.{pass_first, fail_first}
use Rattle.trace_reader.specs.Checks.{Answers, each, is_no_memory, number_checks, values}
use Rattle.trace_reader.specs.Coflow.{arrival_of, back_checks, behind_mappers, coflow_of, front_checks, id_checks, id_of, line_checks, mapper_checks, mappers_of, mapper_count}
use Rattle.trace_reader.specs.Coflow.{reducer_checks, reducer_of, reducers_of, reducer_count, without}
use Rattle.trace_reader.specs.declared.fault.TraceFault.{TraceFault}
use Rattle.trace_reader.specs.declared.fault.TraceFault.TheVariants as fault
use Rattle.text_fields.proofs.PartAnswers.{retold}

-- The number of a field was read.
pub number_passed : (l line k least most v : ℕ) (which : Quantity) (field f : Text) → l ≡ line → field ≡ f
    → (first_fault (number_checks l k which least most field) ≡ None) × ((v ≡ number field) × (least ≤ v) × (v ≤ most)) →
    (first_fault (number_checks line k which least most f) ≡ None) × (v ≡ number f)
number_passed l line k least most v which field f p q h = rw (← p, ← q) (h.0, h.1.0)

module _ (ports k : ℕ) (line : Line) where
  abbrev counted : List (Check TraceFault)
  counted = number_checks line.number k quantity.Reducers 0 4096 (field_at line.texts 0)

  abbrev rows : List (Check TraceFault)
  rows = each (reducer_checks ports line.number) (k + 1) (drop 1 line.texts) (reducer_count line)

  abbrev ended : List (Check TraceFault)
  ended = (length (drop (1 + reducer_count line) line.texts) == 0, fault.BadLine line.number (k + 1 + reducer_count line)) ∷ []

  module _ (left : Line) (count : ℕ) (next : left ≡ without_first line) (passed : (first_fault counted ≡ None) × (count ≡ reducer_count line)) where
    -- A reducer fails.
    pub rows_fail : {V W : Type 0} (P : V → Type 0) (Q : W → Type 0) (f : TraceFault) → Answers (each (reducer_checks ports left.number) (k + 1) left.texts count) P (Err f) →
        Answers (back_checks ports k line) Q (Err f)
    rows_fail P Q f a =
        retold is_no_memory P Q (each (reducer_checks ports left.number) (k + 1) left.texts count) (back_checks ports k line) f
        (λ e. pass_first counted (rows ++ ended) passed.0 ∙ fail_first rows ended f (rw (next, passed.1) at e)) a

    -- All reducers were read, and the end decides.
    pub end_decides : first_fault (each (reducer_checks ports left.number) (k + 1) left.texts count) ≡ None → first_fault (back_checks ports k line) ≡ first_fault ended
    end_decides e = pass_first counted (rows ++ ended) passed.0 ∙ pass_first rows ended (rw (next, passed.1) at e)

    pub reducers_are : (items : List Reducer) → items ≡ values reducer_of left.texts count → items ≡ reducers_of line
    reducers_are items e = rw (next, passed.1) at e

    -- The fields behind the reducers.
    behind : (last : Line) → last ≡ without count left → last.texts ≡ drop (1 + reducer_count line) line.texts
    behind last e = rw (e, next, passed.1) (drop-drop (reducer_count line) 1 line.texts)

    -- No field is left.
    pub end_passed : (last : Line) → last ≡ without count left → true ≡ (length last.texts == 0) → first_fault ended ≡ None
    end_passed last e none = let s : (length (drop (1 + reducer_count line) line.texts) == 0) ≡ true = rw (← behind last e) (sym none) in rw s refl

    -- A field is left.
    pub end_fails : (last : Line) (l : ℕ) → l ≡ line.number → last ≡ without count left → false ≡ (length last.texts == 0) →
        first_fault ended ≡ Some (fault.BadLine l (k + 1 + count))
    end_fails last l p e some = let s : (length (drop (1 + reducer_count line) line.texts) == 0) ≡ false = rw (← behind last e) (sym some) in rw (s, p, passed.1) refl

-- The fields behind the third.
third_left : (line a b d : Line) → a ≡ without_first line → b ≡ without_first a → d ≡ without_first b → d ≡ without 3 line
third_left line a b d p q r = rw (r, q, p) (ap (λ x. record { number = line.number; texts = x }) (drop-drop 1 1 (drop 1 line.texts) ∙ drop-drop 2 1 line.texts))

module _ (ports : ℕ) (earlier : List ℕ) (line : Line) where
  abbrev named : List (Check TraceFault)
  named = id_checks earlier line.number (field_at line.texts 0)

  abbrev arrived : List (Check TraceFault)
  arrived = number_checks line.number 2 quantity.Arrival 0 (2 ^ 32 - 1) (field_at line.texts 1)

  abbrev mapped : List (Check TraceFault)
  mapped = number_checks line.number 3 quantity.Mappers 1 4096 (field_at line.texts 2)

  abbrev mappers : List (Check TraceFault)
  mappers = each (mapper_checks ports line.number) 4 (drop 3 line.texts) (mapper_count line)

  -- The id was read.
  pub id_passed : (l : ℕ) (field : Text) → l ≡ line.number → field ≡ field_at line.texts 0 → first_fault (id_checks earlier l field) ≡ None → first_fault named ≡ None
  id_passed l field p q h = rw (← p, ← q) h

  -- A mapper fails.
  pub mapper_fails : {V W : Type 0} (P : V → Type 0) (Q : W → Type 0) (f : TraceFault) (a b d : Line) (count : ℕ) → a ≡ without_first line → b ≡ without_first a →
      d ≡ without_first b
      → first_fault named ≡ None → first_fault arrived ≡ None → (first_fault mapped ≡ None) × (count ≡ mapper_count line)
      → Answers (each (mapper_checks ports d.number) 4 d.texts count) P (Err f) → Answers (front_checks ports earlier line) Q (Err f)
  mapper_fails P Q f a b d count p q r p1 p2 p3 told =
      retold is_no_memory P Q (each (mapper_checks ports d.number) 4 d.texts count) (front_checks ports earlier line) f
      (λ e. pass_first named (arrived ++ (mapped ++ mappers)) p1 ∙
      (pass_first arrived (mapped ++ mappers) p2 ∙ (pass_first mapped mappers p3.0 ∙ (rw (third_left line a b d p q r, p3.1) at e)))) told

  module _ (left : Line) (k : ℕ) (next : left ≡ behind_mappers line) (place : k ≡ 4 + mapper_count line) where
    -- What is left of the line has the checks behind the mappers.
    same_back : first_fault (back_checks ports k left) ≡ first_fault (back_checks ports (4 + mapper_count line) (behind_mappers line))
    same_back = ap (λ (x : ℕ). first_fault (back_checks ports x left)) place ∙ ap (λ (x : Line). first_fault (back_checks ports (4 + mapper_count line) x)) next

    -- Behind a front that passed, the rest of the line decides.
    pub back_decides : first_fault (front_checks ports earlier line) ≡ None → first_fault (line_checks ports earlier line) ≡ first_fault (back_checks ports k left)
    back_decides passed = pass_first (front_checks ports earlier line) (back_checks ports (4 + mapper_count line) (behind_mappers line)) passed ∙ sym same_back

    -- The rest of the line fails.
    pub back_fails : {V W : Type 0} (P : V → Type 0) (Q : W → Type 0) (f : TraceFault) → first_fault (front_checks ports earlier line) ≡ None →
        Answers (back_checks ports k left) P (Err f) → Answers (line_checks ports earlier line) Q (Err f)
    back_fails P Q f passed told = retold is_no_memory P Q (back_checks ports k left) (line_checks ports earlier line) f (λ e. back_decides passed ∙ e) told

-- The parts of a line say what the whole line says.
pub coflow_is : (line left : Line) (id arrival : ℕ) (mappers : List ℕ) (reducers : List Reducer) → left ≡ behind_mappers line
    → id ≡ id_of line → arrival ≡ arrival_of line → mappers ≡ mappers_of line → reducers ≡ reducers_of left →
    ◌≡◌ {A = CoflowLine} record { id = id; arrival = arrival; mappers = mappers; reducers = reducers } (coflow_of line)
coflow_is line left id arrival mappers reducers next a b d e = let r : reducers ≡ reducers_of (behind_mappers line) = e ∙ ap reducers_of next in rw (a, b, d, r) refl
