-- The text of the numbers of a schedule, part by part.
use Rattle.std.proofs.Common.{◌≡◌, ℕ, ◌<◌, ◌+◌, ◌++◌, List, [], ◌∷◌, Option, get_or, length, refl, take}
use Rattle.std.specs.Prelude.{codes}
use Rattle.std.proofs.lemmas.List.{get_or_default}
use Rattle.coflow_units.specs.Text.{ended, spaced, text_of}
use Rattle.report_text.proofs.TextSteps.{each_step, lines_more, one_more}
use Rattle.coflow_stats.specs.declared.value.Finished.{Finished}
use Rattle.coflow_stats.specs.declared.value.Stats.{Stats}
use Rattle.coflow_stats.specs.Rows.{names_line, row_line, rows_text}
use Rattle.coflow_stats.specs.Text.{cost_lines, ms_lines, net_lines, stats_text, summary_lines}

pub whole : (s : Stats) (slot_ms : Option ℕ) (first costs net makespan slots ms all : List ℕ) → first ≡ [] ++ codes "sincronia stats 1\n" →
    costs ≡ first ++ text_of (cost_lines s) → net ≡ costs ++ text_of (net_lines s.bound s.cost s.arrivals) → makespan ≡ net ++ ended (codes "makespan" ++ spaced s.makespan) →
    slots ≡ makespan ++ text_of (summary_lines (codes "slots") 1 s) → ms ≡ slots ++ text_of (ms_lines s slot_ms) → all ≡ ms ++ codes "end\n" → all ≡ stats_text s slot_ms
whole s slot_ms first costs net makespan slots ms all f c n m l x e =
    let a = codes "sincronia stats 1" ∷ [] in
    let b = a ++ cost_lines s in
    let d = b ++ net_lines s.bound s.cost s.arrivals in
    let g = d ++ ((codes "makespan" ++ spaced s.makespan) ∷ []) in
    let h = g ++ summary_lines (codes "slots") 1 s in
    let i = h ++ ms_lines s slot_ms in
    let to_costs = lines_more a (cost_lines s) first costs f c in
    let to_net = lines_more b (net_lines s.bound s.cost s.arrivals) costs net to_costs n in
    let to_makespan = one_more net makespan d g (codes "makespan" ++ spaced s.makespan) to_net m refl in
    let to_slots = lines_more g (summary_lines (codes "slots") 1 s) makespan slots to_makespan l in
    let to_ms = lines_more h (ms_lines s slot_ms) slots ms to_slots x in
    lines_more i (codes "end" ∷ []) ms all to_ms e

-- the line of one coflow more
pub row_step : (unit : ℕ) (xs : List Finished) (k : ℕ) (d : Finished) (text new : List ℕ) → k < length xs → text ≡ rows_text unit (take k xs) →
    new ≡ text ++ ended (row_line unit (get_or xs k d)) → new ≡ rows_text unit (take (k + 1) xs)
row_step unit xs k d text new lt old step =
    each_step (row_line unit) xs k (get_or xs k d) (ended names_line) text new lt (get_or_default xs k d (get_or xs k d) lt) old step
