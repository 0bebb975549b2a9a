-- The text of a picture: SVG 1.1, element by element.
use Rattle.std.specs.Prelude.{ℕ, ◌+◌, ◌*◌, ◌-◌, ◌/◌, ◌++◌, List, [], if◌then◌else◌, codes, length, max, min}
use Rattle.std.specs.List.{flat_map, range_with_len, slice_index_or}
use Rattle.coflow_units.specs.declared.fabric.Side.{Side}
use Rattle.coflow_units.specs.declared.fabric.Side.TheVariants.{Ingress, Egress}
use Rattle.picture.specs.declared.value.Bar.{Bar}
use Rattle.picture.specs.declared.value.Span.{Span}
use Rattle.picture.specs.declared.value.Step.{Step}
use Rattle.picture.specs.declared.value.Picture.{Picture}
use Rattle.picture.specs.Layout.{bars_end, bars_height, curve_end, curve_top, hairline, height, port_y, slot_count}
use Rattle.picture.specs.Layout.{slot_x, slots_of, span_of}
use Rattle.picture.specs.Marks.{circle_text, has_marks, id_of, marks_text}
use Rattle.picture.specs.Means.{means_text}
use Rattle.picture.specs.Palette.{colour_at, colour_of, colour_text}
use Rattle.picture.specs.Text.{numbered, three_digits}
use Rattle.picture.specs.Ticks.{multiples, step_of}
use Rattle.picture.specs.Title.{title_words}

-- the beginning of a picture of this height, with a white ground
abbrev pub ground_text : ℕ → List ℕ
ground_text size =
    numbered (codes "<svg xmlns='http://www.w3.org/2000/svg' version='1.1' width='1150' height='") size ++
    numbered (codes "' font-family='sans-serif' font-size='13'>\n<rect width='1150' height='") size ++
    codes "' fill='#ffffff'/>\n"

-- the beginning
abbrev pub head_text : Picture → List ℕ
head_text p = ground_text (height p)

-- the title
abbrev pub title_text : Picture → List ℕ
title_text p = codes "<text x='70' y='24' font-size='16'>" ++ title_words p.cost p.bound ++ codes "</text>\n"

-- ---- the bars

-- the word of a side
abbrev pub side_word : Side → List ℕ
side_word Ingress = codes "ingress"
side_word Egress = codes "egress"

-- what the bars show, and their beginning: a slot is 1 wide, a port is 10 high, and a white line parts the bars
abbrev pub bars_head : Picture → List ℕ
bars_head p = codes "<text x='70' y='70'>" ++ side_word p.window.side ++
    numbered (codes " ports, slots ") p.window.first ++ numbered (codes " to ") p.window.last ++
    numbered (codes "</text>\n<svg x='70' y='80' width='720' height='") (bars_height p) ++
    numbered (codes "' viewBox='0 0 ") (slot_count p) ++ numbered (codes " ") (10 * length p.rows) ++
    codes "' preserveAspectRatio='none' stroke='#ffffff' stroke-width='" ++ three_digits (hairline p) ++ codes "'>\n"

-- A bar. It begins as many slots behind the window's first slot as x says, in the row of its port, and its coflow is told
-- by its colour and its id.
abbrev pub bar_text : Picture → ℕ → Bar → List ℕ
bar_text p port b = numbered (codes "<rect x='") (b.first - p.window.first) ++
    numbered (codes "' y='") (10 * port + 1) ++ numbered (codes "' width='") (b.last - (b.first - 1)) ++
    codes "' height='8' fill='" ++ colour_text (colour_of p b.coflow) ++
    numbered (codes "'><title>coflow ") (id_of p b.coflow) ++ codes "</title></rect>\n"

-- the bars of a port
abbrev pub row_text : Picture → ℕ → List ℕ
row_text p port = flat_map (bar_text p port) (slice_index_or p.rows port [])

-- the bars of all ports
abbrev pub rows_text : Picture → List ℕ
rows_text p = flat_map (row_text p) (range_with_len 0 (length p.rows))

-- the bars, with what they show
abbrev pub bars_text : Picture → List ℕ
bars_text p = bars_head p ++ rows_text p ++ codes "</svg>\n"

-- ---- the curve

-- The beginning of the curve: a slot is 1 wide, and a coflow is 1 high.
abbrev pub curve_head : Picture → List ℕ
curve_head p = numbered (codes "<text x='70' y='") (curve_top p - 10) ++
    numbered (codes "'>completed coflows</text>\n<svg x='70' y='") (curve_top p) ++
    numbered (codes "' width='720' height='120' viewBox='0 0 ") (slot_count p) ++
    numbered (codes " ") (length p.ids) ++
    numbered (codes "' preserveAspectRatio='none'>\n<path d='M0 ") (length p.ids)

-- a step of the curve: to the end of the slot, and up to how many coflows are completed
abbrev pub step_text : Picture → Step → List ℕ
step_text p s = numbered (codes "H") (s.slot - (p.window.first - 1)) ++ numbered (codes "V") (length p.ids - s.done)

-- the curve as an area
abbrev pub curve_text : Picture → List ℕ
curve_text p = curve_head p ++ flat_map (step_text p) p.steps ++ numbered (codes "H") (slot_count p) ++
    numbered (codes "V") (length p.ids) ++ codes "Z' fill='#bbbbbb'/>\n</svg>\n"

-- ---- the axes

-- a frame around bars or curve
abbrev pub frame_text : ℕ → ℕ → List ℕ
frame_text top size = numbered (codes "<rect x='70' y='") top ++ numbered (codes "' width='720' height='") size ++
    codes "' fill='none' stroke='#000000'/>\n"

-- the mark and the number of a slot, below where bars or curve end
abbrev pub slot_tick : Span → ℕ → ℕ → List ℕ
slot_tick s end slot = numbered (codes "<rect x='") (slot_x s slot) ++ numbered (codes "' y='") end ++
    numbered (codes "' width='1' height='5'/><text x='") (slot_x s slot) ++ numbered (codes "' y='") (end + 18) ++
    numbered (codes "' text-anchor='middle'>") slot ++ codes "</text>\n"

-- the marks and the numbers of the span's slots that are multiples of the step
abbrev pub slot_ticks : Span → ℕ → ℕ → List ℕ
slot_ticks s end step = flat_map (λ k. slot_tick s end (k * step)) (multiples step s.first s.last)

-- the axis of slots below where bars or curve end
abbrev pub slot_axis : Span → ℕ → List ℕ
slot_axis s end = slot_ticks s end (step_of (slots_of s)) ++
    numbered (codes "<text x='430' y='") (end + 36) ++ codes "' text-anchor='middle'>slot</text>\n"

-- a number beside what is at this height
abbrev pub height_label : ℕ → ℕ → List ℕ
height_label y n = numbered (codes "<text x='62' y='") (y + 4) ++ numbered (codes "' text-anchor='end'>") n ++
    codes "</text>\n"

-- the mark and the number of a port
abbrev pub port_tick : Picture → ℕ → List ℕ
port_tick p port = numbered (codes "<rect x='65' y='") (port_y p port) ++ codes "' width='5' height='1'/>" ++
    height_label (port_y p port) port

-- the marks and the numbers of the ports that are multiples of the step
abbrev pub port_ticks : Picture → ℕ → List ℕ
port_ticks p step = flat_map (λ k. port_tick p (k * step)) (range_with_len 0 ((length p.rows - 1) / step + 1))

-- the axis of ports
abbrev pub port_axis : Picture → List ℕ
port_axis p = port_ticks p (step_of (length p.rows))

-- the axis of completed coflows: none, and all
abbrev pub done_axis : Picture → List ℕ
done_axis p = height_label (curve_top p) (length p.ids) ++ height_label (curve_end p) 0

-- frames and axes
abbrev pub axes_text : Picture → List ℕ
axes_text p = frame_text 80 (bars_height p) ++ slot_axis (span_of p) (bars_end p) ++ port_axis p ++
    frame_text (curve_top p) 120 ++ slot_axis (span_of p) (curve_end p) ++ done_axis p

-- ---- the legend

-- how many colours the legend shows: one for each place, where there are enough of them
abbrev pub swatches : Picture → ℕ
swatches p = min (max (length p.ids) 1) 32

-- how wide each of them is
abbrev pub swatch_width : Picture → ℕ
swatch_width p = 256 / swatches p

-- the square of a colour
abbrev pub swatch_text : Picture → ℕ → List ℕ
swatch_text p k = numbered (codes "<rect x='") (850 + swatch_width p * k) ++
    numbered (codes "' y='80' width='") (swatch_width p) ++ codes "' height='12' fill='" ++
    colour_text (colour_at (k + 1) (swatches p)) ++ codes "'/>\n"

-- the first and the last place, below their colours
abbrev pub places_text : Picture → List ℕ
places_text p = numbered (codes "<text x='850' y='108'>1</text>\n<text x='") (850 + swatch_width p * swatches p) ++
    numbered (codes "' y='108' text-anchor='end'>") (length p.ids) ++ codes "</text>\n"

-- what a mark says, where there are marks
abbrev pub mark_entry : Picture → List ℕ
mark_entry p = if has_marks p then circle_text 856 128 ++ codes "<text x='868' y='132'>completes its coflow</text>\n"
    else []

-- the legend
abbrev pub legend_text : Picture → List ℕ
legend_text p = codes "<text x='850' y='70'>place in the order</text>\n" ++
    flat_map (swatch_text p) (range_with_len 0 (swatches p)) ++ places_text p ++ mark_entry p

-- the text of a picture
abbrev pub picture_text : Picture → List ℕ
picture_text p = head_text p ++ title_text p ++ bars_text p ++ marks_text p ++ curve_text p ++ means_text p ++
    axes_text p ++ legend_text p ++ codes "</svg>\n"
