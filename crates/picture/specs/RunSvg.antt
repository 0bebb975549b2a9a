-- The text of the picture of an online run: SVG 1.1, element by element.
use Rattle.std.specs.Prelude.{ℕ, ◌+◌, ◌*◌, ◌-◌, ◌/◌, ◌++◌, leb, ltb, List, [], if◌then◌else◌, codes, length, max}
use Rattle.std.specs.List.{flat_map}
use Rattle.picture.specs.declared.run_curves.RunCurve.{RunCurve}
use Rattle.picture.specs.declared.run_curves.RunCurve.TheVariants.{Arrived, Completed}
use Rattle.picture.specs.declared.run_value.RunCosts.{RunCosts}
use Rattle.picture.specs.declared.run_value.RunPicture.{RunPicture}
use Rattle.picture.specs.declared.value.Span.{Span}
use Rattle.picture.specs.declared.value.Step.{Step}
use Rattle.picture.specs.Layout.{span_edge}
use Rattle.picture.specs.Svg.{frame_text, ground_text, height_label, slot_axis}
use Rattle.picture.specs.Text.{numbered, two_digits}
use Rattle.picture.specs.Title.{hundredths}

-- ---- the title

-- How many times the least cost the run costs at most, where each completion counts from the arrival; nothing where the
-- total is no more than what the arrivals cost.
abbrev pub run_ratio : RunCosts → List ℕ
run_ratio c = if ltb c.arrivals c.total then
    codes "; without arrivals at most " ++ two_digits (hundredths (c.cost - c.arrivals) (c.total - c.arrivals)) ++
    codes " times the least"
    else []

-- the words of the title
abbrev pub run_words : RunCosts → List ℕ
run_words c = numbered (codes "cost ") c.cost ++
    numbered (codes ", no schedule that waits for arrivals costs less than ") c.total ++ run_ratio c

-- the title
abbrev pub run_title : RunCosts → List ℕ
run_title c = codes "<text x='70' y='24' font-size='16'>" ++ run_words c ++ codes "</text>\n"

-- ---- the curves

-- where a time lies, from left: where the slot of this number ends
abbrev pub time_x : Span → ℕ → ℕ
time_x s time = span_edge s (time - (s.first - 1))

-- where so many coflows lie, from above: none at the foot, and all at the top
abbrev pub coflows_y : RunPicture → ℕ → ℕ
coflows_y p count = 440 - count * 360 / max p.coflows 1

-- a step of a curve: to the end of the slot, and up to how many coflows the curve has by then; none behind the span
abbrev pub run_step : RunPicture → Step → List ℕ
run_step p s = if leb s.slot p.span.last
    then numbered (codes "H") (time_x p.span s.slot) ++ numbered (codes "V") (coflows_y p s.done)
    else []

-- the steps of a curve
abbrev pub steps_of : RunPicture → RunCurve → List Step
steps_of p Arrived = p.arrivals
steps_of p Completed = p.done

-- How a curve is drawn. Arrivals are a broken line over grey, and completions a whole line over white that lies on the
-- grey: what stays grey is between the two.
abbrev pub style_of : RunCurve → List ℕ
style_of Arrived = codes " stroke-width='2' fill='#dddddd' stroke='#0072b2' stroke-dasharray='6 3'/>\n"
style_of Completed = codes " stroke-width='2' fill='#ffffff' stroke='#d55e00'/>\n"

-- a curve as an area
abbrev pub run_curve : RunPicture → RunCurve → List ℕ
run_curve p kind = codes "<path d='M68 442" ++ flat_map (run_step p) (steps_of p kind) ++ codes "H792V442Z'" ++
    style_of kind

-- both curves, of which the frame cuts off what lies outside, with what they show
abbrev pub curves_text : RunPicture → List ℕ
curves_text p = numbered (codes "<text x='70' y='70'>coflows, slots ") p.span.first ++
    numbered (codes " to ") p.span.last ++
    codes "</text>\n<svg x='70' y='80' width='720' height='360' viewBox='70 80 720 360'>\n" ++
    run_curve p Arrived ++ run_curve p Completed ++ codes "</svg>\n"

-- ---- the ticks

-- a short line at the foot
abbrev pub tick_text : RunPicture → ℕ → List ℕ
tick_text p time = numbered (codes "M") (time_x p.span time) ++ codes " 430v10"

-- the short lines at the foot, one where each order is published
abbrev pub ticks_text : RunPicture → List ℕ
ticks_text p = codes "<path d='" ++ flat_map (tick_text p) p.ticks ++ codes "' stroke='#000000'/>\n"

-- ---- the axes

-- the frame and the axes: slots below, and none and all of the coflows at the left
abbrev pub run_axes : RunPicture → List ℕ
run_axes p = frame_text 80 360 ++ slot_axis p.span 440 ++ height_label 80 p.coflows ++ height_label 440 0

-- ---- the legend

-- the word of a curve
abbrev pub word_of : RunCurve → List ℕ
word_of Arrived = codes "arrived"
word_of Completed = codes "completed"

-- where a curve stands in the legend, from above
abbrev pub key_y : RunCurve → ℕ
key_y Arrived = 86
key_y Completed = 106

-- a piece of a curve's line beside its word
abbrev pub key_text : RunCurve → List ℕ
key_text kind = numbered (codes "<path d='M850 ") (key_y kind) ++ codes "h24'" ++ style_of kind ++
    numbered (codes "<text x='884' y='") (key_y kind + 4) ++ codes "'>" ++ word_of kind ++ codes "</text>\n"

-- a short line beside how many orders are published
abbrev pub ticks_key : RunPicture → List ℕ
ticks_key p = numbered (codes "<path d='M862 121v10' stroke='#000000'/>\n<text x='884' y='130'>orders published: ")
    (length p.ticks) ++ codes "</text>\n"

-- the legend
abbrev pub run_legend : RunPicture → List ℕ
run_legend p = key_text Arrived ++ key_text Completed ++ ticks_key p

-- the text of the picture of an online run
abbrev pub run_picture_text : RunPicture → List ℕ
run_picture_text p = ground_text 490 ++ run_title p.costs ++ curves_text p ++ ticks_text p ++ run_axes p ++
    run_legend p ++ codes "</svg>\n"
