-- The text of an online run, line by line.
use Rattle.std.specs.Prelude.{ℕ, ◌+◌, ◌++◌, List, [], ◌∷◌, length, map, codes}
use Rattle.std.specs.List.{flat_map, range_with_len, slice_index_or}
use Rattle.coflow_units.specs.declared.fabric.Port.{Port}
use Rattle.coflow_units.specs.declared.fabric.Side.TheVariants.{Ingress}
use Rattle.report_text.specs.Text.{bound_line, cost_line, run_line, side_word}
use Rattle.coflow_units.specs.Text.{spaced, text_of}
use Rattle.online_text.specs.declared.value.DoneLine.{DoneLine}
use Rattle.online_text.specs.declared.value.Epoch.{Epoch}
use Rattle.online_text.specs.declared.value.Online.{Online}
use Rattle.online_text.specs.declared.value.OnlinePlace.{OnlinePlace}
use Rattle.online_text.specs.declared.value.ReleaseLine.{ReleaseLine}

-- what a line says of a place: id, side, port and y
abbrev pub charge_words : ℕ → Port → ℕ → List ℕ
charge_words id port y = spaced id ++ codes " " ++ side_word port.side ++ spaced port.number ++ spaced y

-- the line of the place of an order with number k, counted from 1
abbrev pub order_line : ℕ → OnlinePlace → List ℕ
order_line k p = codes "place" ++ spaced k ++ charge_words p.id p.port p.y

-- the line of the place with index k; an index past the end gives zeros, and is read only where it is known to be a
-- place's
abbrev pub order_line_at : List OnlinePlace → ℕ → List ℕ
order_line_at places k =
    order_line (k + 1) (slice_index_or places k record { id = 0; port = record { side = Ingress; number = 0 }; y = 0 })

-- the lines of an order
abbrev pub order_lines : List OnlinePlace → List (List ℕ)
order_lines places = map (order_line_at places) (range_with_len 0 (length places))

-- the line of the time of a publishing
abbrev pub time_line : ℕ → List ℕ
time_line time = codes "epoch" ++ spaced time

-- the lines of a publishing
abbrev pub epoch_lines : Epoch → List (List ℕ)
epoch_lines e = (time_line e.time ∷ []) ++ order_lines e.places ++ (bound_line e.bound ∷ [])

-- the line of a completion
abbrev pub done_line : DoneLine → List ℕ
done_line d = codes "done" ++ spaced d.id ++ spaced d.slot

-- the line of the place of the released certificate with number k, counted from 1
abbrev pub release_line : ℕ → ReleaseLine → List ℕ
release_line k r = codes "release" ++ spaced k ++ charge_words r.id r.port r.y ++ spaced r.z

-- the line of the place with index k, as above
abbrev pub release_line_at : List ReleaseLine → ℕ → List ℕ
release_line_at places k = release_line (k + 1)
    (slice_index_or places k record { id = 0; port = record { side = Ingress; number = 0 }; y = 0; z = 0 })

-- the lines of the released certificate
abbrev pub certificate_lines : List ReleaseLine → List (List ℕ)
certificate_lines places = map (release_line_at places) (range_with_len 0 (length places))

-- the line of the total
abbrev pub total_line : ℕ → List ℕ
total_line total = codes "total" ++ spaced total

-- the lines from the first run on
abbrev pub lines_from_runs : Online → List (List ℕ)
lines_from_runs o = map run_line o.runs ++ (codes "end" ∷ [])

-- the lines from the released certificate on
abbrev pub lines_from_release : Online → List (List ℕ)
lines_from_release o = certificate_lines o.release ++ (total_line o.total ∷ lines_from_runs o)

-- the lines from the first completion on
abbrev pub lines_from_done : Online → List (List ℕ)
lines_from_done o = map done_line o.done ++ (cost_line o.cost ∷ lines_from_release o)

-- the lines of an online run
abbrev pub online_lines : Online → List (List ℕ)
online_lines o = (codes "sincronia online 2" ∷ []) ++ flat_map epoch_lines o.epochs ++ map done_line o.done ++
    (cost_line o.cost ∷ []) ++ certificate_lines o.release ++ (total_line o.total ∷ []) ++ map run_line o.runs ++
    (codes "end" ∷ [])

-- the text of an online run
abbrev pub online_text : Online → List ℕ
online_text o = text_of (online_lines o)
