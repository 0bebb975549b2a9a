-- The text of a replay, line by line.
use Rattle.std.specs.Prelude.{ℕ, ◌++◌, List, [], ◌∷◌, codes, map}
use Rattle.coflow_units.specs.Text.{spaced, text_of}
use Rattle.replays.specs.declared.rows.Replayed.{Replayed}
use Rattle.replays.specs.declared.rows.Replayed.TheVariants.{Cost, Unfit}
use Rattle.replays.specs.declared.rows.ReplayRow.{ReplayRow}
use Rattle.replays.specs.declared.writing.ReplayReport.{ReplayReport}

-- what a replay comes to, behind a space
abbrev pub replayed_words : Replayed → List ℕ
replayed_words (Cost total) = codes " cost" ++ spaced total
replayed_words (Unfit epoch place) = codes " unfit" ++ spaced epoch ++ spaced place

-- the line of a row: the ranker's place on the bench, its name, and what its replay comes to
abbrev pub row_line : ReplayRow → List ℕ
row_line r = codes "row" ++ spaced r.index ++ codes " " ++ r.name ++ replayed_words r.result

-- the lines of a replay
abbrev pub replay_lines : ReplayReport → List (List ℕ)
replay_lines r =
    (codes "sincronia replay 1" ∷ (codes "total" ++ spaced r.total) ∷ (codes "arrivals" ++ spaced r.arrivals) ∷ []) ++
    map row_line r.rows ++ (codes "end" ∷ [])

-- the text of a replay
abbrev pub replay_text : ReplayReport → List ℕ
replay_text r = text_of (replay_lines r)
