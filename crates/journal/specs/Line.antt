-- The published orders, and the line in which coflows are served.
use Rattle.std.specs.Prelude.{ℕ, ◌+◌, ◌&&◌, not, nat_lt, if◌then◌else◌, List, [], ◌∷◌, ◌++◌, length, map}
use Rattle.std.specs.List.{filter, range_with_len, slice_index_or}
use Rattle.coflow_units.specs.Flows.{Instance, coflow_of}
use Rattle.coflow_units.specs.Grants.{place_in}
use Rattle.journal.specs.declared.opening.Opening.{Opening}
use Rattle.journal.specs.Chosen.{the_order}
use Rattle.journal.specs.State.{has, owed, State}

-- the newest version
abbrev pub version : State → ℕ
version s = length s.published

-- the order of a version; that of version 0 is empty
abbrev pub order : State → ℕ → List ℕ
order s v = slice_index_or ([] ∷ map the_order s.published) v []

-- the order of the last publishing
abbrev pub newest_in : List Instance → List ℕ
newest_in published = slice_index_or ([] ∷ map the_order published) (length published) []

abbrev pub newest : State → List ℕ
newest s = newest_in s.published

-- the place of a coflow in an order, counted from 1, or 0 where it has none
abbrev pub rank_in : List ℕ → ℕ → ℕ
rank_in xs coflow = if has xs coflow then place_in xs coflow + 1 else 0

abbrev pub rank : State → ℕ → ℕ → ℕ
rank s v coflow = rank_in (order s v) coflow

-- the newest order without those who left, then the unranked coflows that have not left, by joining
abbrev pub line : State → List ℕ
line s = filter (λ c. not (has s.left c)) (newest s) ++
    filter (λ c. not (has (newest s) c) && not (has s.left c)) s.joined

-- the flows of the line that owe units, by number
abbrev pub owing : Opening → State → List ℕ
owing o s = filter (λ f. has (line s) (coflow_of o.table.flows f) && nat_lt 0 (owed o s f))
    (range_with_len 0 (length o.table.flows))
