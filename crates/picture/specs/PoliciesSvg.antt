-- The text of the picture of policies: SVG 1.1, element by element.
use Rattle.std.specs.Prelude.{ℕ, ◌+◌, ◌*◌, ◌-◌, ◌/◌, ◌^◌, ◌==◌, ◌++◌, leb, List, [], ◌∷◌, Option, Some}
use Rattle.std.specs.Prelude.{None, if◌then◌else◌, codes, decimal, length, max, min}
use Rattle.std.specs.Int.{div_ceil}
use Rattle.std.specs.List.{flat_map, range_with_len}
use Rattle.coflow_stats.specs.declared.value.Ranks.{Ranks}
use Rattle.coflow_stats.specs.declared.value.Summary.{Summary}
use Rattle.picture.specs.declared.policies_value.PoliciesPicture.{PoliciesPicture}
use Rattle.picture.specs.declared.policies_value.Policy.{Policy}
use Rattle.picture.specs.declared.value.Step.{Step}
use Rattle.picture.specs.Log.{log_of}
use Rattle.picture.specs.Means.{line_text, tenths_up}
use Rattle.picture.specs.Svg.{frame_text, ground_text, height_label}
use Rattle.picture.specs.Text.{numbered, one_digit, two_digits}
use Rattle.picture.specs.Ticks.{step_of}
use Rattle.picture.specs.Title.{hundredths}

-- ---- the looks

-- How the line of a policy is drawn, by its place from 0 on: each by its colour and by its dashes, which stay in grey
-- print. The colours are those of Okabe and Ito.
abbrev pub look_of : ℕ → List ℕ
look_of place = if place == 0 then codes " stroke-width='2' stroke='#000000'/>\n"
    else (if place == 1 then codes " stroke-width='2' stroke='#0072b2' stroke-dasharray='9 3'/>\n"
    else (if place == 2 then codes " stroke-width='2' stroke='#d55e00' stroke-dasharray='3 3'/>\n"
    else (if place == 3 then codes " stroke-width='2' stroke='#009e73' stroke-dasharray='9 3 2 3'/>\n"
    else codes " stroke-width='2' stroke='#cc79a7' stroke-dasharray='1 2'/>\n")))

-- the policies with their places, each in turn
abbrev pub each_policy : (ℕ → Policy → List ℕ) → ℕ → List Policy → List ℕ
each_policy text place [] = []
each_policy text place (x ∷ xs) = text place x ++ each_policy text (place + 1) xs

-- ---- the title

-- the title
abbrev pub policies_title : PoliciesPicture → List ℕ
policies_title p = numbered (codes "<text x='70' y='24' font-size='16'>policies on ") p.coflows ++
    numbered (codes " coflows, no schedule costs less than ") p.bound ++ codes "</text>\n"

-- ---- the bars

-- how many powers of 2 the axis of the bars has behind 1: as few as reach the greatest cost over the
-- bound, but at least one
abbrev pub octaves : PoliciesPicture → ℕ
octaves p = max 1 (div_ceil (log_of p.most p.bound) 1024)

-- how wide a bar is: as the logarithm of cost over bound, so that it begins at 1, and no wider than the frame
abbrev pub ratio_width : PoliciesPicture → ℕ → ℕ
ratio_width p cost = min 720 (log_of cost p.bound * 720 / (1024 * octaves p))

-- where the row of a bar begins, from above
abbrev pub bar_y : ℕ → ℕ
bar_y place = 80 + 30 * place

-- where the number of a bar of this width stands: behind the bar, or in it where it is longer than half of the axis
abbrev pub label_place : ℕ → ℕ → List ℕ
label_place place width = if leb width 360
    then numbered (codes "<text x='") (76 + width) ++ numbered (codes "' y='") (bar_y place + 19) ++ codes "'>"
    else numbered (codes "<text x='") (64 + width) ++ numbered (codes "' y='") (bar_y place + 19) ++
    codes "' text-anchor='end'>"

-- how many times the bound the policy costs, rounded up to two digits, at the end of its bar
abbrev pub ratio_label : PoliciesPicture → ℕ → Policy → List ℕ
ratio_label p place x = label_place place (ratio_width p x.cost) ++ two_digits (hundredths x.cost p.bound) ++
    codes "</text>\n"

-- a bar with its number, from the line at 1 on
abbrev pub policy_bar : PoliciesPicture → ℕ → Policy → List ℕ
policy_bar p place x = numbered (codes "<rect x='70' y='") (bar_y place + 7) ++
    numbered (codes "' width='") (ratio_width p x.cost) ++ codes "' height='16' fill='#dddddd'" ++ look_of place ++
    ratio_label p place x

-- the mark and the number of a place at an axis, below where bars or curves end
abbrev pub power_tick : ℕ → ℕ → ℕ → List ℕ
power_tick x end n = numbered (codes "<rect x='") x ++ numbered (codes "' y='") end ++
    numbered (codes "' width='1' height='5'/><text x='") x ++ numbered (codes "' y='") (end + 18) ++
    numbered (codes "' text-anchor='middle'>") n ++ codes "</text>\n"

-- the mark and the number of a power of 2, where there are so many behind 1
abbrev pub octave_tick : ℕ → ℕ → List ℕ
octave_tick powers power = power_tick (70 + power * 720 / powers) 230 (2 ^ power)

-- the powers of 2 from 1 on, or, where there are more than six, some of them
abbrev pub octave_ticks : ℕ → List ℕ
octave_ticks powers =
    flat_map (λ k. octave_tick powers (k * step_of powers)) (range_with_len 0 (powers / step_of powers + 1))

-- the axis of the bars
abbrev pub octave_axis : PoliciesPicture → List ℕ
octave_axis p = octave_ticks (octaves p) ++ codes "<text x='430' y='266' text-anchor='middle'>cost over bound</text>\n"

-- the line at 1
abbrev pub least_line : List ℕ
least_line = codes "<text x='70' y='70'>no schedule is left of here</text>\n" ++
    line_text (codes " stroke-width='3'") 70 74 230

-- the bars with their axis and the line at 1; where the bound is 0, it says nothing of costs, and there is none of them
abbrev pub bars_part : PoliciesPicture → List ℕ
bars_part p = if p.bound == 0 then codes "<text x='430' y='160' text-anchor='middle'>the bound says nothing</text>\n"
    else each_policy (policy_bar p) 0 p.policies ++ octave_axis p ++ least_line

-- the name beside the row of a bar
abbrev pub name_label : ℕ → Policy → List ℕ
name_label place x = numbered (codes "<text x='62' y='") (bar_y place + 19) ++ codes "' text-anchor='end'>" ++ x.name ++
    codes "</text>\n"

-- the bars in their frame, with the names
abbrev pub policies_bars : PoliciesPicture → List ℕ
policies_bars p = frame_text 80 150 ++ bars_part p ++ each_policy name_label 0 p.policies

-- ---- the curves

-- how many powers of ten the axis of slots has behind 1: as few as reach the last slot, but at least one
abbrev pub decades : PoliciesPicture → ℕ
decades p = length (decimal (p.last - 1))

-- where the axis of slots ends, as a logarithm
abbrev pub slots_end : PoliciesPicture → ℕ
slots_end p = log_of (10 ^ decades p) 1

-- where a slot lies, from left: slot 1 at the left edge, and none behind the right edge
abbrev pub log_x : PoliciesPicture → ℕ → ℕ
log_x p slot = 70 + min 720 (log_of slot 1 * 720 / slots_end p)

-- where so many coflows lie, from above
abbrev pub completed_y : PoliciesPicture → ℕ → ℕ
completed_y p count = 550 - count * 240 / p.coflows

-- a step of a curve: to the slot, and up to how many coflows are completed by its end
abbrev pub policy_step : PoliciesPicture → Step → List ℕ
policy_step p s = numbered (codes "H") (log_x p s.slot) ++ numbered (codes "V") (completed_y p s.done)

-- the curve of a policy, up to the right edge
abbrev pub policy_curve : PoliciesPicture → ℕ → Policy → List ℕ
policy_curve p place x = codes "<path d='M70 550" ++ flat_map (policy_step p) x.steps ++ codes "H790' fill='none'" ++
    look_of place

-- the mark and the number of a power of ten
abbrev pub decade_tick : PoliciesPicture → ℕ → List ℕ
decade_tick p power = power_tick (log_x p (10 ^ power)) 550 (10 ^ power)

-- the powers of ten from 1 on, or, where there are more than six, some of them
abbrev pub decade_ticks : PoliciesPicture → List ℕ
decade_ticks p =
    flat_map (λ k. decade_tick p (k * step_of (decades p))) (range_with_len 0 (decades p / step_of (decades p) + 1))

-- the axis of slots
abbrev pub decade_axis : PoliciesPicture → List ℕ
decade_axis p = decade_ticks p ++ codes "<text x='430' y='586' text-anchor='middle'>slot</text>\n"

-- the curves in their frame, with the axes
abbrev pub policies_curves : PoliciesPicture → List ℕ
policies_curves p = codes "<text x='70' y='300'>completed coflows</text>\n" ++
    each_policy (policy_curve p) 0 p.policies ++ frame_text 310 240 ++ decade_axis p ++ height_label 310 p.coflows ++
    height_label 550 0

-- ---- the legend

-- where the entry of a policy begins, from above
abbrev pub entry_y : ℕ → ℕ
entry_y place = 80 + 80 * place

-- a line of an entry
abbrev pub entry_line : ℕ → List ℕ → List ℕ → List ℕ
entry_line y words number = numbered (codes "<text x='884' y='") y ++ codes "'>" ++ words ++ number ++ codes "</text>\n"

-- the line of a name
abbrev pub name_line : ℕ → List ℕ → List ℕ
name_line y name = numbered (codes "<text x='884' y='") y ++ codes "'>" ++ name ++ codes "</text>\n"

-- the median and the number at 95 per cent, where there are any
abbrev pub ranks_lines : ℕ → Option Ranks → List ℕ
ranks_lines y None = []
ranks_lines y (Some r) = entry_line (y + 42) (codes "median ") (decimal r.median) ++
    entry_line (y + 58) (codes "95 % by ") (decimal r.p95)

-- the mean completion in slots, rounded up to one digit, and the ranks
abbrev pub times_lines : ℕ → Summary → List ℕ
times_lines y s = entry_line (y + 26) (codes "mean at most ") (one_digit (tenths_up s.total s.count)) ++
    ranks_lines y s.ranks

-- the entry of a policy: a piece of its line, its name, and its completions in slots
abbrev pub policy_entry : ℕ → Policy → List ℕ
policy_entry place x = numbered (codes "<path d='M850 ") (entry_y place + 6) ++ codes "h24' fill='none'" ++
    look_of place ++ name_line (entry_y place + 10) x.name ++ times_lines (entry_y place) x.times

-- the legend
abbrev pub policies_legend : PoliciesPicture → List ℕ
policies_legend p = codes "<text x='850' y='70'>completion, in slots</text>\n" ++ each_policy policy_entry 0 p.policies

-- the text of the picture of policies
abbrev pub policies_text : PoliciesPicture → List ℕ
policies_text p = ground_text 600 ++ policies_title p ++ policies_bars p ++ policies_curves p ++ policies_legend p ++
    codes "</svg>\n"
