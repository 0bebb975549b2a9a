-- The texts of comparisons and of classes, line by line.
use Rattle.std.proofs.Common.{◌≡◌, ◌++◌, List, [], ◌∷◌, ℕ, append_assoc, map, refl, sym}
use Rattle.std.specs.Prelude.{codes}
use Rattle.report_text.specs.declared.classed.ClassText.{ClassText}
use Rattle.report_text.specs.declared.compared.Compare.{Compare}
use Rattle.report_text.specs.Classed.{cap_line, class_text, member_line}
use Rattle.report_text.specs.Compared.{compare_text, row_line}
use Rattle.report_text.specs.Text.{bound_line, cost_line, run_line}
use Rattle.coflow_units.specs.Text.{ended, text_of}
use Rattle.report_text.proofs.TextSteps.{lines_more, one_more, served}

pub compared : (c : Compare) (first bound rows all : List ℕ) → first ≡ [] ++ codes "sincronia compare 1\n" → bound ≡ first ++ ended (bound_line c.bound) →
    rows ≡ bound ++ text_of (map row_line c.rows) → all ≡ rows ++ codes "end\n" → all ≡ compare_text c
compared c first bound rows all f b r e =
    let head = codes "sincronia compare 1" ∷ [] in
    let to_bound = one_more first bound head (head ++ (bound_line c.bound ∷ [])) (bound_line c.bound) f b refl in
    let to_rows = lines_more (head ++ (bound_line c.bound ∷ [])) (map row_line c.rows) bound rows to_bound r in
    lines_more (head ++ (bound_line c.bound ∷ []) ++ map row_line c.rows) (codes "end" ∷ []) rows all to_rows e

pub classed : (c : ClassText) (first members cap cost all : List ℕ) → first ≡ [] ++ codes "sincronia classes 1\n" → members ≡ first ++ text_of (map member_line c.members) →
    cap ≡ members ++ ended (cap_line c.cap) → cost ≡ cap ++ ended (cost_line c.cost) → all ≡ cost ++ text_of (map run_line c.runs ++ (codes "end" ∷ [])) → all ≡ class_text c
classed c first members cap cost all f m p t e =
    let head = codes "sincronia classes 1" ∷ [] in
    let some = head ++ map member_line c.members in
    let to_members = lines_more head (map member_line c.members) first members f m in
    let to_cap = one_more members cap some (some ++ (cap_line c.cap ∷ [])) (cap_line c.cap) to_members p refl in
    let to_cost = one_more cap cost (some ++ (cap_line c.cap ∷ [])) (some ++ (cap_line c.cap ∷ cost_line c.cost ∷ [])) (cost_line c.cost) to_cap t
    (sym (append_assoc some (cap_line c.cap ∷ []) (cost_line c.cost ∷ []))) in
    served (some ++ (cap_line c.cap ∷ cost_line c.cost ∷ [])) c.runs cost all to_cost e
