-- The coflows that are made from a seed. Each is drawn in this order: the growth of the arrival, the mappers, the
-- reducers, the weight.
use Rattle.std.specs.Prelude.{ℕ, zero, suc, ◌+◌, ◌*◌, List, map, sum_by}
use Rattle.std.specs.List.{range_with_len}
use Rattle.workload.specs.declared.coflow.MadeCoflow.{MadeCoflow}
use Rattle.workload.specs.declared.coflow.MadeReducer.{MadeReducer}
use Rattle.workload.specs.Draws.{after, draw, next}

-- A coflow has from 1 to 8 mappers, and from 1 to 8 reducers. The number of either is drawn before them.
abbrev pub count_from : ℕ → ℕ
count_from x = 1 + draw 8 x

-- The mappers that are drawn from state x on: their number, and then a location for each.
abbrev pub mappers_from : ℕ → List ℕ
mappers_from x = map (λ j. draw 150 (after j (next x))) (range_with_len 0 (count_from x))

-- The state behind these mappers.
abbrev pub behind_mappers : ℕ → ℕ
behind_mappers x = after (count_from x) (next x)

-- The reducer that is drawn from state x on: its location, and then its megabytes, from 1 to 64.
abbrev pub reducer_from : ℕ → MadeReducer
reducer_from x = record { location = draw 150 x; megabytes = 1 + draw 64 (next x) }

-- The reducers that are drawn from state x on: their number, and then two draws for each.
abbrev pub reducers_from : ℕ → List MadeReducer
reducers_from x = map (λ j. reducer_from (after (2 * j) (next x))) (range_with_len 0 (count_from x))

-- The state behind these reducers.
abbrev pub behind_reducers : ℕ → ℕ
behind_reducers x = after (2 * count_from x) (next x)

-- By how much the arrival grows for a coflow that is drawn from state x on. It is the first draw of the coflow.
abbrev pub growth : ℕ → ℕ
growth x = draw 100 x

-- The state behind this draw, from which on the mappers are drawn.
abbrev pub at_mappers : ℕ → ℕ
at_mappers x = next x

-- The state behind the mappers, from which on the reducers are drawn.
abbrev pub at_reducers : ℕ → ℕ
at_reducers x = behind_mappers (at_mappers x)

-- The state behind the reducers, in which the weight is drawn.
abbrev pub at_weight : ℕ → ℕ
at_weight x = behind_reducers (at_reducers x)

-- The coflow with this id that is drawn from state x on, where the arrival was as given before it. Its weight is from 1
-- to 16.
abbrev pub coflow_from : ℕ → ℕ → ℕ → MadeCoflow
coflow_from id arrival x = record {
  id = id;
  arrival = arrival + growth x;
  mappers = mappers_from (at_mappers x);
  reducers = reducers_from (at_reducers x);
  weight = 1 + draw 16 (at_weight x);
}

-- The state behind the weight, which is the last draw of a coflow.
abbrev pub behind_coflow : ℕ → ℕ
behind_coflow x = next (at_weight x)

-- The state before the coflow with index k. The seed is the state before the first one.
unfoldable pub before_coflow : ℕ → ℕ → ℕ
before_coflow seed zero = seed
before_coflow seed (suc k) = behind_coflow (before_coflow seed k)

-- The arrival before the coflow with index k: it starts at 0, and each of the coflows before this one has let it grow.
abbrev pub arrival_before : ℕ → ℕ → ℕ
arrival_before seed k = sum_by growth (map (before_coflow seed) (range_with_len 0 k))

-- The coflow with index k. Ids count from 1.
abbrev pub coflow_at : ℕ → ℕ → MadeCoflow
coflow_at seed k = coflow_from (k + 1) (arrival_before seed k) (before_coflow seed k)

-- The first n coflows that are made from a seed.
unfoldable pub first_coflows : ℕ → ℕ → List MadeCoflow
first_coflows seed n = map (coflow_at seed) (range_with_len 0 n)

-- The coflows that are made from a seed: 200 of them.
abbrev pub made_coflows : ℕ → List MadeCoflow
made_coflows seed = first_coflows seed 200
