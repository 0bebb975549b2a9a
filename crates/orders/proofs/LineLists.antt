-- What lines say one after another.
use Rattle.std.proofs.Common.{◌≡◌, ℕ, List, [], ◌∷◌, ◌++◌, None, Contains, sym, subst, inl, inr, ◌∙◌, map, true≢false}
use Rattle.std.specs.Prelude.{nat_eq}
use Rattle.std.specs.List.{list_any}
use Rattle.std.proofs.lemmas.Bool.{not-true}
use Rattle.std.proofs.lemmas.List.Elements.{Contains-append_left}
use Rattle.coflow_units.specs.Grants.{place_in}
use Rattle.coflow_units.proofs.Sums.{first_or_tail, nothing_in}
use Rattle.orders.specs.Checks.{end_checks, id_checks, id_of, line_checks, lines_checks}
use Rattle.orders.proofs.Places.{has_known, known_has}
use Rattle.text_fields.specs.Checks.{first_fault}
use Rattle.text_fields.specs.Fields.{field_at}
use Rattle.text_fields.specs.Lines.{Line}
use Rattle.text_fields.proofs.CheckLists.{all_hold, passed_parts}

-- The numbers of the coflows of the lines.
abbrev pub numbers_of : List ℕ → List Line → List ℕ
numbers_of ids lines = map (λ (line : Line). place_in ids (id_of line)) lines

-- A line that passes has an id that a coflow has and no earlier line.
pub line_passed : (ids earlier : List ℕ) (line : Line) → first_fault (line_checks ids earlier line) ≡ None → Contains ids (id_of line) × (Contains earlier (id_of line) → ⊥)
line_passed ids earlier line e =
    let held = all_hold (id_checks ids earlier line.number (field_at line.texts 0))
    (passed_parts (id_checks ids earlier line.number (field_at line.texts 0)) (end_checks line) e).0 in (
      known_has ids (id_of line) held.1.0,
      λ has. true≢false (sym (has_known earlier (id_of line) has) ∙ not-true (list_any (nat_eq (id_of line)) earlier) held.1.1.0),
    )

-- So has each line of lines that pass.
pub lines_passed : (ids earlier : List ℕ) (lines : List Line) (x : Line) → first_fault (lines_checks ids earlier lines) ≡ None → Contains lines x →
    Contains ids (id_of x) × (Contains earlier (id_of x) → ⊥)
lines_passed ids earlier [] x e has = absurd (nothing_in x has)
lines_passed ids earlier (line ∷ lines) x e has =
    let parts = passed_parts (line_checks ids earlier line) (lines_checks ids (earlier ++ (id_of line ∷ [])) lines) e in
    elim (first_or_tail line lines x has) [
      | inl same ↦ subst (λ (y : Line). Contains ids (id_of y) × (Contains earlier (id_of y) → ⊥)) same (line_passed ids earlier line parts.0)
      | inr later ↦ let (known, fresh) = lines_passed ids (earlier ++ (id_of line ∷ [])) lines x parts.1 later in
          (known, λ before. fresh (Contains-append_left earlier (id_of line ∷ []) (id_of x) before))
    ]
