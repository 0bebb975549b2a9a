-- The text of a replay, line after line.
use Rattle.std.proofs.Common.{◌≡◌, ℕ, List, [], ◌∷◌, ◌++◌, map, refl}
use Rattle.std.specs.Prelude.{codes}
use Rattle.coflow_units.specs.Text.{ended, spaced, text_of}
use Rattle.report_text.proofs.TextSteps.{lines_more, one_more}
use Rattle.replays.specs.declared.writing.ReplayReport.{ReplayReport}
use Rattle.replays.specs.Text.{replay_text, row_line}

pub replayed : (r : ReplayReport) (first total arrivals rows all : List ℕ) → first ≡ [] ++ codes "sincronia replay 1\n" → total ≡ first ++ ended (codes "total" ++ spaced r.total) →
    arrivals ≡ total ++ ended (codes "arrivals" ++ spaced r.arrivals) → rows ≡ arrivals ++ text_of (map row_line r.rows) → all ≡ rows ++ codes "end\n" → all ≡ replay_text r
replayed r first total arrivals rows all f t a p e =
    let total_line = codes "total" ++ spaced r.total in
    let arrivals_line = codes "arrivals" ++ spaced r.arrivals in
    let head = codes "sincronia replay 1" ∷ [] in
    let two = head ++ (total_line ∷ []) in
    let three = two ++ (arrivals_line ∷ []) in
    let to_total = one_more first total head two total_line f t refl in
    let to_arrivals = one_more total arrivals two three arrivals_line to_total a refl in
    let to_rows = lines_more three (map row_line r.rows) arrivals rows to_arrivals p in
    lines_more (three ++ map row_line r.rows) (codes "end" ∷ []) rows all to_rows e
