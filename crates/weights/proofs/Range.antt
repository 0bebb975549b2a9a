-- The weights of a text that passes are in range.
use Rattle.std.proofs.Common.{◌≡◌, ℕ, ◌^◌, ◌≤◌, ◌<◌, ◌==◌, Bool, true, false, cond, List, [], ◌∷◌, ◌++◌, Option, Some, None, length, get_or, sym, subst, refl, arith}
use Rattle.std.specs.Prelude.{nat_le, All}
use Rattle.std.proofs.lemmas.Bool.{and_parts, leb-true}
use Rattle.std.proofs.lemmas.List.{get_or-map, length-map}
use Rattle.coflow_units.specs.declared.trace.CoflowLine.{CoflowLine}
use Rattle.text_fields.specs.Checks.{first_fault}
use Rattle.text_fields.specs.Fields.{Text, field_at}
use Rattle.text_fields.specs.Lines.{Line, lines_of}
use Rattle.text_fields.specs.Numbers.{number}
use Rattle.text_fields.proofs.CheckLists.{passed_parts}
use Rattle.weights.specs.declared.fault.WeightsFault.{WeightsFault}
use Rattle.weights.specs.Checks.{end_checks, fresh_checks, id_checks, id_of, line_checks, lines_checks, weight_checks, weight_in}
use Rattle.weights.specs.Weights.{text_checks, weight_of, weights_of}
use Rattle.coflow_units.specs.Trace.{ids_of}

second_holds : (p q : Bool) (f g : WeightsFault) → first_fault ((p, f) ∷ (q, g) ∷ []) ≡ None → q ≡ true
second_holds true true f g e = refl
second_holds true false f g e = absurd (some_none e) where
  some_none : {x : WeightsFault} → Some x ≡ None → ⊥
  some_none e = subst (λ (o : Option WeightsFault). is o) e tt where
    is : Option WeightsFault → Type 0
    is (Some x) = Unit {0}
    is None = ⊥
second_holds false q f g e = absurd (some_none e) where
  some_none : {x : WeightsFault} → Some x ≡ None → ⊥
  some_none e = subst (λ (o : Option WeightsFault). is o) e tt where
    is : Option WeightsFault → Type 0
    is (Some x) = Unit {0}
    is None = ⊥

-- the weight of a line that passes
weight_fits : (line : ℕ) (field : Text) → first_fault (weight_checks line field) ≡ None → (1 ≤ number field) × (number field ≤ 2 ^ 32)
weight_fits line field e =
    let both = and_parts (nat_le 1 (number field)) (nat_le (number field) (2 ^ 32)) (second_holds _ _ _ _ e) in
    (leb-true 1 (number field) both.0, leb-true (number field) (2 ^ 32) both.1)

line_fits : (ids earlier : List ℕ) (line : Line) → first_fault (line_checks ids earlier line) ≡ None → (1 ≤ weight_in line) × (weight_in line ≤ 2 ^ 32)
line_fits ids earlier line e =
    let rest = (passed_parts (id_checks ids line.number (field_at line.texts 0))
    (fresh_checks earlier line.number (field_at line.texts 0) ++ (weight_checks line.number (field_at line.texts 1) ++ end_checks line)) e).1 in
    let last = (passed_parts (fresh_checks earlier line.number (field_at line.texts 0)) (weight_checks line.number (field_at line.texts 1) ++ end_checks line) rest).1 in
    weight_fits line.number (field_at line.texts 1) (passed_parts (weight_checks line.number (field_at line.texts 1)) (end_checks line) last).0

pub weight_in_range : (ids earlier : List ℕ) (lines : List Line) (id : ℕ) → first_fault (lines_checks ids earlier lines) ≡ None →
    (1 ≤ weight_of lines id) × (weight_of lines id ≤ 2 ^ 32)
weight_in_range ids earlier [] id e = (omega arith, omega arith)
weight_in_range ids earlier (line ∷ lines) id e =
    let parts = passed_parts (line_checks ids earlier line) (lines_checks ids (earlier ++ (id_of line ∷ [])) lines) e in
    choose (id == id_of line) (line_fits ids earlier line parts.0) (weight_in_range ids (earlier ++ (id_of line ∷ [])) lines id parts.1) where
      choose : (b : Bool) {m n : ℕ} → (1 ≤ m) × (m ≤ 2 ^ 32) → (1 ≤ n) × (n ≤ 2 ^ 32) → (1 ≤ cond b m n) × (cond b m n ≤ 2 ^ 32)
      choose true here there = here
      choose false here there = there

pub weights_in_range : (text : Text) (coflows : List CoflowLine) → first_fault (text_checks text coflows) ≡ None → All (λ w. (1 ≤ w) × (w ≤ 2 ^ 32)) (weights_of text coflows)
weights_in_range text coflows e k d lt =
    let in' : k < length coflows = omega (arith, lt, length-map coflows (λ (x : CoflowLine). weight_of (lines_of text) x.id)) in
    subst (λ (n : ℕ). (1 ≤ n) × (n ≤ 2 ^ 32))
    (sym (get_or-map (λ (x : CoflowLine). weight_of (lines_of text) x.id) coflows k record { id = 0; arrival = 0; mappers = []; reducers = [] } d in'))
    (weight_in_range (ids_of coflows) [] (lines_of text) (get_or coflows k record { id = 0; arrival = 0; mappers = []; reducers = [] }).id e)
