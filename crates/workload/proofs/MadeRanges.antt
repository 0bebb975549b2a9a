-- The numbers of made coflows are small.
use Rattle.std.proofs.Common.{◌≡◌, ℕ, suc, zero, ◌+◌, ◌*◌, ◌<◌, ◌≤◌, List, [], ◌∷◌, get_or, length, map, arith, sym, subst, refl, zero-add}
use Rattle.std.specs.Prelude.{All}
use Rattle.std.specs.List.{range_with_len}
use Rattle.std.proofs.lemmas.List.FromFn.{get_or-map-range_with_len, length-map-range_with_len}
use Rattle.std.proofs.lemmas.List.Sums.{sum_by-le}
use Rattle.workload.specs.declared.coflow.MadeCoflow.{MadeCoflow}
use Rattle.workload.specs.declared.coflow.MadeReducer.{MadeReducer}
use Rattle.workload.specs.Coflows.{arrival_before, at_mappers, at_reducers, at_weight, before_coflow, coflow_at, count_from, first_coflows, growth, reducer_from}
use Rattle.workload.specs.Draws.{after, draw, next}
use Rattle.workload.proofs.CoflowSteps.{draw_below}

pub record IsMadeReducer (r : MadeReducer) : Type 0 where
  pub location_small : r.location < 150
  pub megabytes_few : r.megabytes ≤ 64

pub record IsMade (c : MadeCoflow) : Type 0 where
  pub id_small : c.id ≤ 200
  pub arrival_small : c.arrival ≤ 20000
  pub has_mapper : 1 ≤ length c.mappers
  pub few_mappers : length c.mappers ≤ 8
  pub mappers_small : All (λ m. m < 150) c.mappers
  pub few_reducers : length c.reducers ≤ 8
  pub reducers_small : All IsMadeReducer c.reducers
  pub has_weight : 1 ≤ c.weight
  pub weight_small : c.weight ≤ 16

-- made coflows, the first of which has the id m, and the others count on from it
abbrev pub AreMade : ℕ → List MadeCoflow → Type 0
AreMade m [] = Unit {0}
AreMade m (c ∷ cs) = (c.id ≡ m) × (IsMade c × AreMade (m + 1) cs)

-- what holds of each element that is made from an index holds of all
all_from : {X : Type 0} (P : X → Type 0) (f : ℕ → X) (n : ℕ) → ((j : ℕ) → P (f j)) → All P (map f (range_with_len 0 n))
all_from P f n h = λ k d lt.
    let less : k < n = omega (arith, length-map-range_with_len f 0 n) in
    subst P (sym (get_or-map-range_with_len f 0 n k k d less (zero-add k))) (h k)

arrivals_small : (seed k : ℕ) → arrival_before seed k ≤ k * 99
arrivals_small seed k =
    let states = map (before_coflow seed) (range_with_len 0 k) in
    let each : All (λ x. growth x ≤ 99) states = λ j d lt. let below = draw_below 100 (get_or states j d) (omega arith) in omega arith in
    let many = sum_by-le growth 99 states each in
    let count : length states ≡ k = length-map-range_with_len (before_coflow seed) 0 k in
    rw count at many

reducer_small : (x : ℕ) → IsMadeReducer (reducer_from x)
reducer_small x = record {
  location_small = draw_below 150 x (omega arith);
  megabytes_few = let below = draw_below 64 (next x) (omega arith) in omega arith;
}

is_made : (seed k : ℕ) → k < 200 → IsMade (coflow_at seed k)
is_made seed k lt =
    let x = before_coflow seed k in
    let m = next (at_mappers x) in
    let r = next (at_reducers x) in
    let mappers = draw_below 8 (at_mappers x) (omega arith) in
    let reducers = draw_below 8 (at_reducers x) (omega arith) in
    let grows = draw_below 100 x (omega arith) in
    let weight = draw_below 16 (at_weight x) (omega arith) in
    let mappers_count = length-map-range_with_len (λ j. draw 150 (after j m)) 0 (count_from (at_mappers x)) in
    let reducers_count = length-map-range_with_len (λ j. reducer_from (after (2 * j) r)) 0 (count_from (at_reducers x)) in
    record {
      id_small = omega arith;
      arrival_small = omega (arith, arrivals_small seed k);
      has_mapper = rw mappers_count (omega arith);
      few_mappers = rw mappers_count (omega arith);
      mappers_small = all_from (λ n. n < 150) (λ j. draw 150 (after j m)) (count_from (at_mappers x)) (λ j. draw_below 150 (after j m) (omega arith));
      few_reducers = rw reducers_count (omega arith);
      reducers_small = all_from IsMadeReducer (λ j. reducer_from (after (2 * j) r)) (count_from (at_reducers x)) (λ j. reducer_small (after (2 * j) r));
      has_weight = omega arith;
      weight_small = omega arith;
    }

made_from : (seed a n : ℕ) → a + n ≤ 200 → AreMade (a + 1) (map (coflow_at seed) (range_with_len a n))
made_from seed a zero le = tt
made_from seed a (suc n) le = (refl, (is_made seed a (omega arith), made_from seed (a + 1) n (omega arith)))

pub are_made : (seed n : ℕ) → n ≤ 200 → AreMade 1 (first_coflows seed n)
unfolding first_coflows
are_made seed n le = made_from seed 0 n (omega arith)

pub count_is : (seed n : ℕ) → length (first_coflows seed n) ≡ n
unfolding first_coflows
count_is seed n = length-map-range_with_len (coflow_at seed) 0 n
