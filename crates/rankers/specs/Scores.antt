-- What comes of an answer, and what it is worth: what the schedule that serves it costs, or the first place at which it is no order.
use Rattle.std.specs.Prelude.{◌≡◌, ℕ, ◌+◌, ◌-◌, ◌<◌, ◌≤◌, ◌⊎◌, List, Contains, length, map, slice_index, take}
use Rattle.coflow_units.specs.Completion.{completion, cost}
use Rattle.coflow_units.specs.Flows.{Instance}
use Rattle.coflow_units.specs.Served.{IsServed}
use Rattle.class_rates.specs.Classes.{IsPermutation}
use Rattle.rankers.specs.declared.row.Scored.{Scored}
use Rattle.rankers.specs.declared.row.Scored.TheVariants.{Cost, Unfit}
use Rattle.rankers.specs.declared.scoring.Came.{Came}
use Rattle.rankers.specs.declared.scoring.Came.TheVariants as came

-- the number at a place, counted from 0, is that of one of n coflows, and stands at no place before
pub record IsNew (n : ℕ) (order : List ℕ) (k : ℕ) : Type 0 where
  pub known : slice_index order k < n
  pub once : Contains (take k order) (slice_index order k) → ⊥

-- the number at a place, counted from 0, is that of no coflow, or stands at a place before
abbrev pub IsNotNew : ℕ → List ℕ → ℕ → Type 0
IsNotNew n order k = (n ≤ slice_index order k) ⊎ Contains (take k order) (slice_index order k)

-- the place, counted from 1, is the first whose number is that of no coflow or stood earlier
pub record IsFirstUnfit (n : ℕ) (order : List ℕ) (place : ℕ) : Type 0 where
  pub counted : 1 ≤ place
  pub inside : place ≤ length order
  pub unfit : IsNotNew n order (place - 1)
  pub before : (k : ℕ) → k + 1 < place → IsNew n order k

-- the order has each coflow once, and the slots are the schedule that serves it
pub record IsServedOrder (i : Instance) (order : List ℕ) (slots : List (List ℕ)) : Type 0 where
  pub count : length order ≡ length i.coflows
  pub permutation : IsPermutation order
  pub served : IsServed i.flows order slots

-- the slots in which a schedule completes the coflows, by number
abbrev pub ends_in : Instance → List (List ℕ) → List ℕ
ends_in i slots = map (λ c. completion i.flows slots c) i.coflows

-- The slots of the coflows in the schedule that serves the answer, where that is an order of the coflows, and else the
-- first place at which it is none.
abbrev pub IsCame : Instance → List ℕ → Came → Type 0
IsCame i order (came.Ends ends) = (slots : List (List ℕ)) × IsServedOrder i order slots × (ends ≡ ends_in i slots)
IsCame i order (came.Unfit place) = IsFirstUnfit (length i.coflows) order place

-- where slots are told, there are as many as this
abbrev pub HasEach : ℕ → Came → Type 0
HasEach count (came.Ends ends) = length ends ≡ count
HasEach count (came.Unfit place) = Unit {0}

-- the cost of the schedule that serves the answer, where that is an order of the coflows, and else the first place at
-- which it is none
abbrev pub IsScore : Instance → List ℕ → Scored → Type 0
IsScore i order (Cost total) = (slots : List (List ℕ)) × IsServedOrder i order slots ×
    (total ≡ cost i.flows i.weight i.coflows slots)
IsScore i order (Unfit place) = IsFirstUnfit (length i.coflows) order place
