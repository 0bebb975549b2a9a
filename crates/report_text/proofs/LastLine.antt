-- What was read of a report is the front of its lines, and the last line ends it.
use Rattle.std.proofs.Common.{◌≡◌, ◌≢◌, ◌⊎◌, inl, inr, ℕ, ◌<◌, List, [], ◌∷◌, ◌++◌, Option, Some, None, append_assoc, append-nil, map, refl, sym, ap, ◌∙◌, arith}
use Rattle.std.specs.Prelude.{codes}
use Rattle.report_text.specs.declared.draft.Stage.{Stage}
use Rattle.report_text.specs.declared.draft.Stage.TheVariants.{Version, Places, Slack, Cost, Runs, Done}
use Rattle.report_text.specs.declared.value.Report.{Report}
use Rattle.report_text.specs.Text.{bound_line, cost_line, place_lines, report_lines, run_line, slack_line, total_lines, version_line}
use Rattle.report_text.specs.Draft.{lines_before}
use Rattle.report_text.proofs.LineLists.{AllFirst, first, last_lines, lines_behind, lines_nested, places_first}
use Rattle.report_text.proofs.DraftText.{runs_first}

-- the lines of a report behind those before the stage
abbrev pub lines_after : Stage → Report → List (List ℕ)
lines_after Version r = report_lines r
lines_after Places r = lines_behind r (last_lines r)
lines_after Slack r = slack_line r.slack ∷ cost_line r.cost ∷ last_lines r
lines_after Cost r = cost_line r.cost ∷ last_lines r
lines_after Runs r = codes "end" ∷ []
lines_after Done r = []

pub lines_parted : (s : Stage) (r : Report) → report_lines r ≡ lines_before s r ++ lines_after s r
lines_parted Version r = refl
lines_parted Places r = lines_nested r
lines_parted Slack r = lines_nested r ∙
    ap (λ x. version_line r.weights ∷ x) (sym (append_assoc (place_lines r) (bound_line r.bound ∷ []) (slack_line r.slack ∷ cost_line r.cost ∷ last_lines r)))
lines_parted Cost r = lines_nested r ∙
    ap (λ x. version_line r.weights ∷ x) (sym (append_assoc (place_lines r) (bound_line r.bound ∷ slack_line r.slack ∷ []) (cost_line r.cost ∷ last_lines r)))
lines_parted Runs r = refl
lines_parted Done r = sym (append-nil (report_lines r))

-- no line begins with the byte of the last line
abbrev pub NoneLast : List (List ℕ) → Type 0
NoneLast [] = Unit {0}
NoneLast (x ∷ xs) = (first x ≢ 101) × NoneLast xs

none_both : (xs ys : List (List ℕ)) → NoneLast xs → NoneLast ys → NoneLast (xs ++ ys)
none_both [] ys hx hy = hy
none_both (x ∷ xs) ys hx hy = (hx.0, none_both xs ys hx.1 hy)

none_of : (p : ℕ) (xs : List (List ℕ)) → p ≢ 101 → AllFirst p xs → NoneLast xs
none_of p [] other h = tt
none_of p (x ∷ xs) other h = ((λ e. other (sym h.0 ∙ e)), none_of p xs other h.1)

none_inside : (xs : List (List ℕ)) (l : List ℕ) → NoneLast (xs ++ (l ∷ [])) → first l ≢ 101
none_inside [] l h = h.0
none_inside (x ∷ xs) l h = none_inside xs l h.1

not_last : (n : ℕ) → n < 101 ⊎ 101 < n → n ≢ 101
not_last n (inl lt) e = absurd (omega (arith, lt, e))
not_last n (inr lt) e = absurd (omega (arith, lt, e))

version_none : (weights : Option (List ℕ)) → first (version_line weights) ≢ 101
version_none (Some ws) = not_last 115 (inr (omega arith))
version_none None = not_last 115 (inr (omega arith))

-- a report whose lines are all read has its last line read
pub unfinished : (s : Stage) (p r : Report) → s ≢ Done → report_lines r ≡ lines_before s p → ⊥
unfinished s p r early e = none_inside (version_line r.weights ∷ (place_lines r ++ total_lines r ++ map run_line r.runs)) (codes "end") (rw (← e) at (none s early)) refl
  where
    places : NoneLast (place_lines p)
    places = none_of 112 (place_lines p) (not_last 112 (inr (omega arith))) (places_first p)

    runs : NoneLast (map run_line p.runs)
    runs = none_of 114 (map run_line p.runs) (not_last 114 (inr (omega arith))) (runs_first p.runs)

    bound : NoneLast (bound_line p.bound ∷ [])
    bound = (not_last 98 (inl (omega arith)), tt)

    two : NoneLast (bound_line p.bound ∷ slack_line p.slack ∷ [])
    two = (not_last 98 (inl (omega arith)), (not_last 115 (inr (omega arith)), tt))

    totals : NoneLast (total_lines p)
    totals = (not_last 98 (inl (omega arith)), (not_last 115 (inr (omega arith)), (not_last 99 (inl (omega arith)), tt)))

    none : (t : Stage) → t ≢ Done → NoneLast (lines_before t p)
    none Version h = tt
    none Places h = (version_none p.weights, places)
    none Slack h = (version_none p.weights, none_both (place_lines p) (bound_line p.bound ∷ []) places bound)
    none Cost h = (version_none p.weights, none_both (place_lines p) (bound_line p.bound ∷ slack_line p.slack ∷ []) places two)
    none Runs h = (version_none p.weights, none_both (place_lines p ++ total_lines p) (map run_line p.runs) (none_both (place_lines p) (total_lines p) places totals) runs)
    none Done h = absurd (h refl)
