-- The bars that a text tells.
use Rattle.std.specs.Prelude.{ℕ, ◌<◌, ◌^◌, List, [], All, length, map}
use Rattle.std.specs.List.{flat_map, range_with_len, slice_index_or}
use Rattle.picture.specs.declared.value.Bar.{Bar}
use Rattle.picture.specs.declared.value.Picture.{Picture}
use Rattle.picture.specs.Marks.{id_of}

-- a bar as a text tells it: with its port, and its coflow by id
pub record ToldBar : Type 0 where
  pub port : ℕ
  pub id : ℕ
  pub first : ℕ
  pub last : ℕ

-- the bars of a port
abbrev pub told_row : Picture → ℕ → List ToldBar
told_row p port =
    map (λ (b : Bar). record { port = port; id = id_of p b.coflow; first = b.first; last = b.last })
    (slice_index_or p.rows port [])

-- the bars of all ports, port by port
abbrev pub told_bars : Picture → List ToldBar
told_bars p = flat_map (told_row p) (range_with_len 0 (length p.rows))

-- the ids are numbers of 32 bits
pub record HasSmallIds (p : Picture) : Type 0 where
  pub ids : All (λ id. id < 2 ^ 32) p.ids
