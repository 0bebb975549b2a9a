-- The lines of places, by the completions of the coflows.
use Rattle.std.proofs.Common.{◌≡◌, ℕ, ◌<◌, List, [], ◌∷◌, refl, ap, ◌∙◌}
use Rattle.std.specs.Prelude.{All, map, slice_index}
use Rattle.std.proofs.lemmas.List.Elements.{All-head, All-tail}
use Rattle.coflow_units.specs.declared.fabric.Flow.{Flow}
use Rattle.coflow_units.specs.declared.plan.Place.{Place}
use Rattle.coflow_units.specs.Completion.{completion}
use Rattle.cert_check.proofs.EndFacts.{AreOf, number_at}
use Rattle.report_text.specs.declared.value.PlaceLine.{PlaceLine}
use Rattle.plans.specs.PlanReport.{line_from, line_of}

same_line : (ids : List ℕ) (flows : List Flow) (slots : List (List ℕ)) (ends : List ℕ) (n : ℕ) (x : Place) → AreOf ends (completion flows slots) n → x.coflow < n →
    line_from ids ends x ≡ line_of ids flows slots x
same_line ids flows slots ends n x e lt =
    ap (λ d. record { id = slice_index ids x.coflow; port = x.port; y = x.y; done = d }) (number_at ends (completion flows slots) n x.coflow e lt)

pub same_lines : (ids : List ℕ) (flows : List Flow) (slots : List (List ℕ)) (ends : List ℕ) (n : ℕ) (places : List Place) → AreOf ends (completion flows slots) n →
    All (λ (x : Place). x.coflow < n) places → map (line_from ids ends) places ≡ map (line_of ids flows slots) places
same_lines ids flows slots ends n [] e within = refl
same_lines ids flows slots ends n (x ∷ xs) e within =
    ap (λ (l : PlaceLine). l ∷ map (line_from ids ends) xs) (same_line ids flows slots ends n x e (All-head (λ (x : Place). x.coflow < n) x xs within)) ∙
    ap (λ (l : List PlaceLine). line_of ids flows slots x ∷ l) (same_lines ids flows slots ends n xs e (All-tail (λ (x : Place). x.coflow < n) x xs within))
