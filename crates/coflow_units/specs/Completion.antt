-- When flows and coflows end, and what a schedule costs. Slots count from 1.
use Rattle.std.specs.Prelude.{ℕ, ◌+◌, ◌*◌, ◌==◌, Bool, if◌then◌else◌, List, [], ◌∷◌, sum_by}
use Rattle.std.specs.List.{list_any}
use Rattle.coflow_units.specs.declared.fabric.Flow.{Flow}
use Rattle.coflow_units.specs.Flows.{coflow_of}
use Rattle.coflow_units.specs.Schedule.{holds}

-- the number, counted from 1, of the last element that passes the test, or 0 where none does
abbrev pub last_where : {X : Type 0} → (X → Bool) → List X → ℕ
last_where p [] = 0
last_where p (x ∷ xs) = if last_where p xs == 0 then (if p x then 1 else 0) else last_where p xs + 1

-- the number of the last slot that holds the flow
abbrev pub end_of : List (List ℕ) → ℕ → ℕ
end_of slots f = last_where (λ slot. holds slot f) slots

-- some flow of the coflow stands in the slot
abbrev pub holds_coflow : List Flow → List ℕ → ℕ → Bool
holds_coflow flows slot coflow = list_any (λ f. coflow_of flows f == coflow) slot

-- the number of the last slot that holds a flow of the coflow
abbrev pub completion : List Flow → List (List ℕ) → ℕ → ℕ
completion flows slots coflow = last_where (λ slot. holds_coflow flows slot coflow) slots

-- the sum of weight times completion
abbrev pub cost : List Flow → (ℕ → ℕ) → List ℕ → List (List ℕ) → ℕ
cost flows weight coflows slots = sum_by (λ coflow. weight coflow * completion flows slots coflow) coflows
