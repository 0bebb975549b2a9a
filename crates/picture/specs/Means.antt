-- The mean completion of the schedule, and the mean that no schedule is below, which is that of the bound. Each
-- coflow counts as often as its weight says.
use Rattle.std.specs.Prelude.{ℕ, ◌+◌, ◌*◌, ◌-◌, ◌/◌, ◌&&◌, ◌==◌, ◌++◌, Bool, leb, ltb, List, []}
use Rattle.std.specs.Prelude.{if◌then◌else◌, codes, sum}
use Rattle.std.specs.Int.{div_ceil}
use Rattle.std.specs.List.{list_all}
use Rattle.picture.specs.declared.means.Mean.{Mean}
use Rattle.picture.specs.declared.means.Mean.TheVariants.{OfSchedule, OfBound}
use Rattle.picture.specs.declared.value.Picture.{Picture}
use Rattle.picture.specs.Layout.{curve_end, curve_top, slot_count}
use Rattle.picture.specs.Text.{numbered, one_digit}

-- the sum of the weights
abbrev pub weight_sum : Picture → ℕ
weight_sum p = sum p.weights

-- the tenths of the mean of a schedule with this cost, rounded up
abbrev pub tenths_up : ℕ → ℕ → ℕ
tenths_up cost weight = div_ceil (10 * cost) weight

-- the tenths of the mean that no schedule is below, rounded down
abbrev pub tenths_down : ℕ → ℕ → ℕ
tenths_down bound weight = 10 * bound / weight

-- the words of the mean
abbrev pub mean_words : Picture → List ℕ
mean_words p = if list_all (λ w. w == 1) p.weights then codes "mean completion" else codes "weighted mean completion"

-- the second line of the title: both means; nothing where the weights add up to 0
abbrev pub means_title : Picture → List ℕ
means_title p = if ltb 0 (weight_sum p) then
    codes "<text x='70' y='44'>" ++ mean_words p ++ codes " at most " ++ one_digit (tenths_up p.cost (weight_sum p)) ++
    codes " slots, and no schedule's is below " ++ one_digit (tenths_down p.bound (weight_sum p)) ++ codes "</text>\n"
    else []

-- the sum of weight times completion whose mean it is
abbrev pub total_of : Picture → Mean → ℕ
total_of p OfSchedule = p.cost
total_of p OfBound = p.bound

-- the words beside the line of a mean
abbrev pub words_of : Picture → Mean → List ℕ
words_of p OfSchedule = mean_words p
words_of p OfBound = codes "no schedule's mean is below"

-- how a line is drawn: that of the bound is broken
abbrev pub dashes_of : Mean → List ℕ
dashes_of OfSchedule = []
dashes_of OfBound = codes " stroke-dasharray='5 3'"

-- how far below where the curve begins the words stand
abbrev pub drop_of : Mean → ℕ
drop_of OfSchedule = 14
drop_of OfBound = 34

-- the mean of a total lies in the window: neither before its first slot begins nor behind the end of its last slot
abbrev pub is_in_window : Picture → ℕ → Bool
is_in_window p total = ltb 0 (weight_sum p) && leb ((p.window.first - 1) * weight_sum p) total &&
    leb total (p.window.last * weight_sum p)

-- where the mean of a total lies, from left; a slot's number is where the slot ends
abbrev pub mean_x : Picture → ℕ → ℕ
mean_x p total = 70 + (total - (p.window.first - 1) * weight_sum p) * 720 / (slot_count p * weight_sum p)

-- a line downwards
abbrev pub line_text : List ℕ → ℕ → ℕ → ℕ → List ℕ
line_text dashes x top end = numbered (codes "<path d='M") x ++ numbered (codes " ") top ++ numbered (codes "V") end ++
    codes "' stroke='#000000'" ++ dashes ++ codes "/>\n"

-- the line of a mean over the curve, and a piece of it beside its words
abbrev pub mean_lines : Picture → Mean → List ℕ
mean_lines p m = line_text (dashes_of m) (mean_x p (total_of p m)) (curve_top p) (curve_end p) ++
    line_text (dashes_of m) 856 (curve_top p + drop_of m - 12) (curve_top p + drop_of m + 2) ++
    numbered (codes "<text x='868' y='") (curve_top p + drop_of m) ++ codes "'>" ++ words_of p m ++ codes "</text>\n"

-- a mean, where it lies in the window
abbrev pub mean_text : Picture → Mean → List ℕ
mean_text p m = if is_in_window p (total_of p m) then mean_lines p m else []

-- both means
abbrev pub means_text : Picture → List ℕ
means_text p = means_title p ++ mean_text p OfSchedule ++ mean_text p OfBound
