-- The colours of the places of an order.
use Rattle.std.specs.Prelude.{ℕ, ◌+◌, ◌*◌, ◌-◌, ◌/◌, ◌%◌, ◌^◌, ◌++◌, ltb, List, if◌then◌else◌}
use Rattle.std.specs.Prelude.{codes, length, max, slice_index}
use Rattle.picture.specs.declared.palette.TheConstants.{COLOURS}
use Rattle.picture.specs.declared.value.Picture.{Picture}
use Rattle.picture.specs.Text.{numbered}

-- the parts of a colour, each from 0 to 255
abbrev pub red : ℕ → ℕ
red colour = colour / 2 ^ 16 % 256

abbrev pub green : ℕ → ℕ
green colour = colour / 2 ^ 8 % 256

abbrev pub blue : ℕ → ℕ
blue colour = colour % 256

-- how light a colour is, from 0 to 2550000: its relative luminance (ITU-R BT.709)
abbrev pub luminance : ℕ → ℕ
luminance colour = 2126 * red colour + 7152 * green colour + 722 * blue colour

-- which colour a place has, where there are so many places, counted from 1
abbrev pub level : ℕ → ℕ → ℕ
level place places = (place - 1) * 32 / max places 1

-- the colour of a place
abbrev pub colour_at : ℕ → ℕ → ℕ
colour_at place places = slice_index COLOURS (level place places)

-- the place of a coflow; a coflow past the places has 0
abbrev pub place_of : Picture → ℕ → ℕ
place_of p coflow = slice_index p.places coflow

-- the colour of a coflow, by its place among all coflows
abbrev pub colour_of : Picture → ℕ → ℕ
colour_of p coflow = colour_at (place_of p coflow) (length p.ids)

-- what words on a colour are written in: white on a dark one, black on a light one
abbrev pub ink_on : ℕ → ℕ
ink_on colour = if ltb (luminance colour) 1200000 then 16777215 else 0

-- a colour in the text
abbrev pub colour_text : ℕ → List ℕ
colour_text colour = numbered (codes "rgb(") (red colour) ++ numbered (codes ",") (green colour) ++
    numbered (codes ",") (blue colour) ++ codes ")"
