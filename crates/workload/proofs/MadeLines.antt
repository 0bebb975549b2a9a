-- The lines of a text that has a line for each made coflow.
use Rattle.std.proofs.Common.{◌≡◌, ℕ, suc, ◌+◌, ◌*◌, ◌≤◌, List, [], ◌∷◌, length, length-append, map, refl, ap, ◌∙◌, arith}
use Rattle.text_fields.specs.Fields.{Text, fields}
use Rattle.text_fields.specs.Lines.{Line, numbered}
use Rattle.workload.specs.declared.coflow.MadeCoflow.{MadeCoflow}
use Rattle.coflow_units.specs.Text.{ended, text_of}
use Rattle.workload.proofs.MadeRanges.{AreMade, IsMade}
use Rattle.workload.proofs.TextLines.{AreFullLines, IsFullLine}

-- lines of these fields, the first of which is line n
abbrev pub read_lines : (MadeCoflow → List Text) → ℕ → List MadeCoflow → List Line
read_lines texts n [] = []
read_lines texts n (c ∷ cs) = record { number = n; texts = texts c } ∷ read_lines texts (n + 1) cs

pub count_read : (texts : MadeCoflow → List Text) (n : ℕ) (cs : List MadeCoflow) → length (read_lines texts n cs) ≡ length cs
count_read texts n [] = refl
count_read texts n (c ∷ cs) = ap suc (count_read texts (n + 1) cs)

module _ (line : MadeCoflow → Text) where
  pub full_lines : ((c : MadeCoflow) → IsMade c → IsFullLine (line c)) → (m : ℕ) (cs : List MadeCoflow) → AreMade m cs → AreFullLines (map line cs)
  full_lines each m [] h = tt
  full_lines each m (c ∷ cs) h = (each c h.1.0, full_lines each (m + 1) cs h.1.1)

  pub numbered_are : (texts : MadeCoflow → List Text) → ((c : MadeCoflow) → IsMade c → fields (line c) ≡ texts c) → (m n : ℕ) (cs : List MadeCoflow) → AreMade m cs →
      numbered n (map line cs) ≡ read_lines texts n cs
  numbered_are texts each m n [] h = refl
  numbered_are texts each m n (c ∷ cs) h =
      ap (λ (t : List Text). record { number = n; texts = t } ∷ numbered (n + 1) (map line cs)) (each c h.1.0)
      ∙ ap (λ (l : List Line). record { number = n; texts = texts c } ∷ l) (numbered_are texts each (m + 1) (n + 1) cs h.1.1)

  pub text_is_short : (most : ℕ) → ((c : MadeCoflow) → IsMade c → length (line c) + 1 ≤ most) → (m : ℕ) (cs : List MadeCoflow) → AreMade m cs →
      length (text_of (map line cs)) ≤ length cs * most
  text_is_short most each m [] h = omega arith
  text_is_short most each m (c ∷ cs) h =
      omega (arith, length-append (ended (line c)) (text_of (map line cs)), length-append (line c) (10 ∷ []), each c h.1.0, text_is_short most each (m + 1) cs h.1.1)
