-- Where the parts of a picture lie. All coordinates are whole numbers.
use Rattle.std.specs.Prelude.{ℕ, ◌+◌, ◌*◌, ◌-◌, ◌/◌, ◌<◌, ◌≤◌, ◌^◌, [], All, length, min, sum}
use Rattle.std.specs.List.{slice_index_or}
use Rattle.coflow_units.specs.declared.limits.TheConstants.{MAX_PORTS, MAX_SLOT}
use Rattle.picture.specs.declared.value.Bar.{Bar}
use Rattle.picture.specs.declared.value.Span.{Span}
use Rattle.picture.specs.declared.value.Window.{Window}
use Rattle.picture.specs.declared.value.Picture.{Picture}

-- the bar has a slot, and its slots are slots of the window
pub record IsInside (w : Window) (b : Bar) : Type 0 where
  pub some : b.first ≤ b.last
  pub from : w.first ≤ b.first
  pub upto : b.last ≤ w.last

-- The window has a slot, and its last slot is one that a schedule may have. There is a port, and no more of them than a
-- side may have. The bars lie inside the window. The weights add up to a number of 64 bits, and a hundred times the
-- cost or the bound is a number of 128 bits.
pub record IsDrawable (p : Picture) : Type 0 where
  pub counted : 1 ≤ p.window.first
  pub some : p.window.first ≤ p.window.last
  pub short : p.window.last ≤ MAX_SLOT
  pub has_ports : 1 ≤ length p.rows
  pub few_ports : length p.rows ≤ MAX_PORTS + 1
  pub inside : (port : ℕ) → port < length p.rows → All (IsInside p.window) (slice_index_or p.rows port [])
  pub small_weights : sum p.weights < 2 ^ 64
  pub small_cost : p.cost ≤ 2 ^ 120
  pub small_bound : p.bound ≤ 2 ^ 120

-- the span has a slot, and its last slot is one that a schedule may have
pub record IsSpan (s : Span) : Type 0 where
  pub counted : 1 ≤ s.first
  pub some : s.first ≤ s.last
  pub short : s.last ≤ MAX_SLOT

-- how many slots a span has
abbrev pub slots_of : Span → ℕ
slots_of s = s.last - (s.first - 1)

-- the slots of the window
abbrev pub span_of : Picture → Span
span_of p = record { first = p.window.first; last = p.window.last }

-- how many slots the window has
abbrev pub slot_count : Picture → ℕ
slot_count p = slots_of (span_of p)

-- the height of the bars: 16 for each port, and 480 at most
abbrev pub bars_height : Picture → ℕ
bars_height p = min (16 * length p.rows) 480

-- where the bars end
abbrev pub bars_end : Picture → ℕ
bars_end p = 80 + bars_height p

-- where the curve begins, which is 120 high
abbrev pub curve_top : Picture → ℕ
curve_top p = bars_end p + 80

-- where the curve ends
abbrev pub curve_end : Picture → ℕ
curve_end p = curve_top p + 120

-- where the picture ends
abbrev pub height : Picture → ℕ
height p = curve_end p + 50

-- the middle of one of so many equal parts of a length, which count from 0
abbrev pub middle : ℕ → ℕ → ℕ → ℕ
middle part count size = (2 * part + 1) * size / (2 * count)

-- where the middle of a slot of the span lies, from left
abbrev pub slot_x : Span → ℕ → ℕ
slot_x s slot = 70 + middle (slot - s.first) (slots_of s) 720

-- where the middle of a port's row lies, from above
abbrev pub port_y : Picture → ℕ → ℕ
port_y p port = 80 + middle port (length p.rows) (bars_height p)

-- how high the row of a port is
abbrev pub row_height : Picture → ℕ
row_height p = bars_height p / length p.rows

-- where the edge behind so many slots of the span lies, from left
abbrev pub span_edge : Span → ℕ → ℕ
span_edge s slots = 70 + slots * 720 / slots_of s

-- where the edge behind so many slots of the window lies, from left
abbrev pub edge_x : Picture → ℕ → ℕ
edge_x p slots = span_edge (span_of p) slots

-- how wide a bar is
abbrev pub bar_width : Picture → Bar → ℕ
bar_width p b = (b.last - (b.first - 1)) * 720 / slot_count p

-- where the middle of a bar lies, from left
abbrev pub bar_x : Picture → Bar → ℕ
bar_x p b = 70 + ((b.first - p.window.first) + (b.last - (p.window.first - 1))) * 360 / slot_count p

-- the white line around a bar, in thousandths of a slot: it is a pixel wide, or two fifths of a slot where that is less
abbrev pub hairline : Picture → ℕ
hairline p = min (slot_count p * 25 / 18) 400
