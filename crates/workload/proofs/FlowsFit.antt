-- The flows of made coflows are few.
use Rattle.std.proofs.Common.{◌≡◌, ℕ, suc, ◌+◌, ◌*◌, ◌≤◌, inl, inr, List, [], ◌∷◌, length, map, mul-le-mul_left, mul-le-mul_right, ap, arith}
use Rattle.std.specs.Prelude.{All, sum_by}
use Rattle.std.specs.Int.{div_ceil}
use Rattle.std.proofs.lemmas.Bool.{cases_lt}
use Rattle.std.proofs.lemmas.Grind.{div_ceil_times}
use Rattle.std.proofs.lemmas.List.{length-map}
use Rattle.std.proofs.lemmas.List.Elements.{All-cons, All-nil}
use Rattle.std.proofs.lemmas.List.Sums.{sum_by-cons, sum_by-le}
use Rattle.coflow_units.specs.declared.fabric.Flow.{Flow}
use Rattle.coflow_units.specs.declared.quantity.Quantity.{Quantity}
use Rattle.coflow_units.specs.declared.trace.CoflowLine.{CoflowLine}
use Rattle.coflow_units.specs.declared.trace.Reducer.{Reducer}
use Rattle.coflow_units.specs.declared.trace.Trace.{Trace}
use Rattle.coflow_units.specs.Trace.{IsTrace}
use Rattle.flow_table.specs.Causes.{HasCause}
use Rattle.flow_table.specs.declared.fault.TableFault.TheVariants.{Limit}
use Rattle.flow_table.specs.Units.{units_in_all, units_of_line, units_of_reducer}
use Rattle.flow_table.proofs.FlowsExist.{flows_are_there}
use Rattle.flow_table.proofs.Kept.{all_kept}
use Rattle.workload.specs.declared.coflow.MadeCoflow.{MadeCoflow}
use Rattle.workload.specs.declared.coflow.MadeReducer.{MadeReducer}
use Rattle.workload.specs.Made.{said_coflow, said_reducer}
use Rattle.workload.proofs.MadeRanges.{AreMade, IsMadeReducer}

-- whole megabytes have no more units than megabytes
ceil_small : (megabytes unit : ℕ) → 1 ≤ unit → div_ceil (megabytes * 1000000) (unit * 1000000) ≤ megabytes
ceil_small megabytes unit some =
    let units = div_ceil (megabytes * 1000000) (unit * 1000000) in
    let b = unit * 1000000 in
    let times = div_ceil_times (megabytes * 1000000) b (omega arith) in
    elim (cases_lt megabytes units) [
      | inr le ↦ le
      | inl lt ↦
          let more : (megabytes + 1) * b ≤ units * b = mul-le-mul_right b (omega (arith, lt)) in
          let least : megabytes * 1000000 ≤ megabytes * b = mul-le-mul_left megabytes (omega arith) in
          absurd (omega (arith, times.1))
    ]

reducers_units : (unit : ℕ) (reducers : List MadeReducer) → 1 ≤ unit → All IsMadeReducer reducers → All (λ (r : Reducer). units_of_reducer unit r ≤ 64) (map said_reducer reducers)
reducers_units unit [] some h = All-nil (λ (r : Reducer). units_of_reducer unit r ≤ 64)
reducers_units unit (r ∷ rs) some h =
    let few : units_of_reducer unit (said_reducer r) ≤ 64 = let made = h 0 r (omega arith) in omega (arith, ceil_small r.megabytes unit some, made.megabytes_few) in
    All-cons (λ (x : Reducer). units_of_reducer unit x ≤ 64) (said_reducer r) (map said_reducer rs) few (reducers_units unit rs some (λ k d lt. h (suc k) d (omega arith)))

lines_units : (unit m : ℕ) (cs : List MadeCoflow) → 1 ≤ unit → AreMade m cs → All (λ (x : CoflowLine). units_of_line unit x ≤ 512) (map said_coflow cs)
lines_units unit m [] some h = All-nil (λ (x : CoflowLine). units_of_line unit x ≤ 512)
lines_units unit m (c ∷ cs) some h =
    let made = h.1.0 in
    let reducers = map said_reducer c.reducers in
    let few : units_of_line unit (said_coflow c) ≤ 512 =
    omega (
      arith,
      sum_by-le (λ (r : Reducer). units_of_reducer unit r) 64 reducers (reducers_units unit c.reducers some made.reducers_small),
      length-map c.reducers said_reducer,
      made.few_reducers,
    ) in
    All-cons (λ (x : CoflowLine). units_of_line unit x ≤ 512) (said_coflow c) (map said_coflow cs) few (lines_units unit (m + 1) cs some h.1.1)

count_within : (flows : List Flow) → All (λ (x : Flow). 1 ≤ x.units) flows → length flows ≤ sum_by (λ (x : Flow). x.units) flows
count_within [] h = omega arith
count_within (x ∷ xs) h = omega (arith, sum_by-cons (λ (y : Flow). y.units) x xs, h 0 x (omega arith), count_within xs (λ k d lt. h (suc k) d (omega arith)))

-- a trace of made coflows has at most 102400 units: 200 coflows of at most 8 reducers, each of at most 64 megabytes
pub units_few : (t : Trace) (unit : ℕ) (cs : List MadeCoflow) → t.coflows ≡ map said_coflow cs → AreMade 1 cs → length cs ≡ 200 → 1 ≤ unit → units_in_all t unit ≤ 102400
units_few t unit cs e h many some =
    let all = sum_by-le (λ (x : CoflowLine). units_of_line unit x) 512 (map said_coflow cs) (lines_units unit 1 cs some h) in
    let same : units_in_all t unit ≡ sum_by (λ (x : CoflowLine). units_of_line unit x) (map said_coflow cs) =
    ap (λ (xs : List CoflowLine). sum_by (λ (x : CoflowLine). units_of_line unit x) xs) e in
    omega (arith, length-map cs said_coflow)

-- neither the units nor the flows are too many
pub flows_fit : (t : Trace) (unit : ℕ) (cs : List MadeCoflow) (which : Quantity) (count : ℕ) → t.coflows ≡ map said_coflow cs → IsTrace t → AreMade 1 cs → length cs ≡ 200 →
    1 ≤ unit → HasCause t unit (Limit which count) → ⊥
flows_fit t unit cs which count e trace h many some cause = refuse cause (units_few t unit cs e h many some)
  where
    refuse : HasCause t unit (Limit which count) → units_in_all t unit ≤ 102400 → ⊥
    refuse (inl units) few = omega (arith, units.1.0)
    refuse (inr flows) few =
        let made = flows_are_there t unit trace in
        omega (arith, flows.1.2 made.0 made.1, count_within made.0 made.1.units, all_kept t unit made.0 trace made.1)
