-- The text of a summary, line by line.
use Rattle.std.proofs.Common.{◌≡◌, ◌++◌, List, [], ◌∷◌, ℕ, refl, sym, ap, ◌∙◌}
use Rattle.std.specs.Prelude.{codes}
use Rattle.std.proofs.lemmas.Grind.{flat_map-append}
use Rattle.report_text.specs.declared.made.Made.{Made}
use Rattle.report_text.specs.Text.{bound_line, cost_line, slack_line}
use Rattle.coflow_units.specs.Text.{ended, text_of}
use Rattle.report_text.specs.Made.{counts_line, made_text, seed_line}
use Rattle.report_text.proofs.TextSteps.{one_more}

-- the first lines, down to the counts
abbrev front : Made → List (List ℕ)
front m = seed_line m.seed ∷ counts_line m ∷ []

-- the lines of the bound, the slack and the cost, added to the first lines
added : (m : Made) (text bound slack cost : List ℕ) → text ≡ text_of (front m) → bound ≡ text ++ ended (bound_line m.bound) → slack ≡ bound ++ ended (slack_line m.slack) →
    cost ≡ slack ++ ended (cost_line m.cost) → cost ≡ text_of (front m ++ (bound_line m.bound ∷ slack_line m.slack ∷ cost_line m.cost ∷ []))
added m text bound slack cost old b s c =
    one_more slack cost (front m ++ (bound_line m.bound ∷ slack_line m.slack ∷ [])) (front m ++ (bound_line m.bound ∷ slack_line m.slack ∷ cost_line m.cost ∷ []))
    (cost_line m.cost)
    (one_more bound slack (front m ++ (bound_line m.bound ∷ [])) (front m ++ (bound_line m.bound ∷ slack_line m.slack ∷ [])) (slack_line m.slack)
    (one_more text bound (front m) (front m ++ (bound_line m.bound ∷ [])) (bound_line m.bound) old b refl) s refl) c refl

-- the calls in their order give the text
pub summary : (m : Made) (seed counts bound slack cost text : List ℕ) → seed ≡ [] ++ ended (seed_line m.seed) → counts ≡ seed ++ ended (counts_line m) →
    bound ≡ counts ++ ended (bound_line m.bound) → slack ≡ bound ++ ended (slack_line m.slack) → cost ≡ slack ++ ended (cost_line m.cost) →
    text ≡ cost ++ text_of (codes "check yes" ∷ codes "end" ∷ []) → text ≡ made_text m
summary m seed counts bound slack cost text s n b l c e =
    let first : seed ≡ text_of (seed_line m.seed ∷ []) = one_more [] seed [] (seed_line m.seed ∷ []) (seed_line m.seed) refl s refl in
    let told : counts ≡ text_of (front m) = one_more seed counts (seed_line m.seed ∷ []) (front m) (counts_line m) first n refl in
    e ∙ (ap (λ x. x ++ text_of (codes "check yes" ∷ codes "end" ∷ [])) (added m counts bound slack cost told b l c)
    ∙ sym (flat_map-append ended (front m ++ (bound_line m.bound ∷ slack_line m.slack ∷ cost_line m.cost ∷ [])) (codes "check yes" ∷ codes "end" ∷ [])))
