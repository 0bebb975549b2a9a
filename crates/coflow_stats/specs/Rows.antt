-- The text of the coflows of a schedule: a line of names, and a line for each coflow, with commas between.
use Rattle.std.specs.Prelude.{ℕ, ◌++◌, List, ◌∷◌, codes, decimal, map}
use Rattle.coflow_units.specs.Text.{text_of}
use Rattle.coflow_stats.specs.declared.value.Finished.{Finished}
use Rattle.coflow_stats.specs.Groups.{duration, group_of, group_word}

-- a number behind a comma
abbrev pub comma_then : ℕ → List ℕ
comma_then n = codes "," ++ decimal n

-- the names of the columns
abbrev pub names_line : List ℕ
names_line = codes "id,arrival,flows,units,bottleneck,weight,completion,duration,group"

-- the line of a coflow, where a unit has so many megabytes
abbrev pub row_line : ℕ → Finished → List ℕ
row_line unit x = decimal x.id ++ comma_then x.arrival ++ comma_then x.flows ++ comma_then x.units ++
    comma_then x.bottleneck ++ comma_then x.weight ++ comma_then x.completion ++ comma_then (duration x) ++
    codes "," ++ group_word (group_of unit x)

-- the text of the coflows
abbrev pub rows_text : ℕ → List Finished → List ℕ
rows_text unit xs = text_of (names_line ∷ map (row_line unit) xs)
