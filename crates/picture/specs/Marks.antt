-- What stands on the bars: the ids of their coflows, and the marks of those that complete their coflows.
use Rattle.std.specs.Prelude.{ℕ, ◌+◌, ◌*◌, ◌-◌, ◌==◌, ◌++◌, Bool, leb, List, [], if◌then◌else◌, codes}
use Rattle.std.specs.Prelude.{decimal, length, slice_index}
use Rattle.std.specs.List.{flat_map, range_with_len, slice_index_or}
use Rattle.picture.specs.declared.value.Bar.{Bar}
use Rattle.picture.specs.declared.value.Picture.{Picture}
use Rattle.picture.specs.Layout.{bar_width, bar_x, edge_x, port_y, row_height}
use Rattle.picture.specs.Palette.{colour_of, colour_text, ink_on}
use Rattle.picture.specs.Text.{numbered}

-- the number of a coflow as an id; a coflow past the ids has 0
abbrev pub id_of : Picture → ℕ → ℕ
id_of p coflow = slice_index p.ids coflow

-- the slot in which a coflow is completed; a coflow past them has 0
abbrev pub end_of : Picture → ℕ → ℕ
end_of p coflow = slice_index p.ends coflow

-- rows are high enough
abbrev pub has_marks : Picture → Bool
has_marks p = leb 10 (row_height p)

-- the bar is as wide as the id of its coflow: six for each digit, and four
abbrev pub has_room : Picture → Bar → Bool
has_room p b = leb (6 * length (decimal (id_of p b.coflow)) + 4) (bar_width p b)

-- the id of a bar's coflow in the middle of the bar, where it has room
abbrev pub id_text : Picture → ℕ → Bar → List ℕ
id_text p port b = if has_room p b then
    numbered (codes "<text x='") (bar_x p b) ++ numbered (codes "' y='") (port_y p port + 3) ++
    codes "' fill='" ++ colour_text (ink_on (colour_of p b.coflow)) ++ numbered (codes "'>") (id_of p b.coflow) ++
    codes "</text>\n"
    else []

-- a mark
abbrev pub circle_text : ℕ → ℕ → List ℕ
circle_text x y = numbered (codes "<circle cx='") x ++ numbered (codes "' cy='") y ++
    codes "' r='2' fill='#ffffff' stroke='#000000'/>\n"

-- the last slot of the bar completes its coflow
abbrev pub completes : Picture → Bar → Bool
completes p b = b.last == end_of p b.coflow

-- the mark at the right end of a bar that completes its coflow
abbrev pub end_text : Picture → ℕ → Bar → List ℕ
end_text p port b = if completes p b
    then circle_text (edge_x p (b.last - (p.window.first - 1))) (port_y p port) else []

-- what stands on a bar
abbrev pub mark_text : Picture → ℕ → Bar → List ℕ
mark_text p port b = id_text p port b ++ end_text p port b

-- what stands on the bars of a port
abbrev pub row_marks : Picture → ℕ → List ℕ
row_marks p port = flat_map (mark_text p port) (slice_index_or p.rows port [])

-- what stands on the bars of all ports
abbrev pub all_marks : Picture → List ℕ
all_marks p = flat_map (row_marks p) (range_with_len 0 (length p.rows))

-- what stands on the bars, where rows are high enough
abbrev pub marks_text : Picture → List ℕ
marks_text p = if has_marks p then codes "<g font-size='9' text-anchor='middle'>\n" ++ all_marks p ++ codes "</g>\n"
    else []
