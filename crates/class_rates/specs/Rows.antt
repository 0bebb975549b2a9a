-- Classes, caps and schedules of small instances, worked out by hand.
use Rattle.std.specs.Prelude.{◌≡◌, ℕ, List, [], ◌∷◌, length, map}
use Rattle.std.specs.List.{range_with_len, slice_index_or}
use Rattle.coflow_units.specs.Flows.{Instance}
use Rattle.coflow_units.specs.Rows.{all_ties, equal_weights, realistic, unequal_weights}
use Rattle.class_rates.specs.Cap.{cap}
use Rattle.class_rates.specs.Classes.{IsClassOrder, class_at, class_by, class_in}

-- the shorter one of the two coflows comes first
abbrev pub short_first : List ℕ
short_first = 1 ∷ 0 ∷ []

-- the classes of that order, folded into so many
abbrev pub folded : ℕ → ℕ → ℕ
folded classes = class_in short_first classes

-- the cap of two coflows of one flow each, of 3 units and of 1 unit, at the same two ports
abbrev pub cap_of_two : ℕ → ℕ
cap_of_two classes = cap equal_weights.flows equal_weights.weight equal_weights.coflows (folded classes)

-- the classes of the places of an order of so many coflows
abbrev pub classes_along : ℕ → ℕ → List ℕ
classes_along n classes = map (class_at n classes) (range_with_len 0 n)

-- the cap of the coflows of an instance in an order, folded into so many classes
abbrev pub cap_in : Instance → List ℕ → ℕ → ℕ
cap_in i order classes = cap i.flows i.weight i.coflows (class_in order classes)

-- three coflows in two classes, five in three, and two in more classes than there are coflows
pub record ClassesAlong : Type 0 where
  pub three : classes_along 3 2 ≡ 1 ∷ 1 ∷ 2 ∷ []
  pub five : classes_along 5 3 ≡ 1 ∷ 1 ∷ 2 ∷ 2 ∷ 3 ∷ []
  pub two : classes_along 2 8 ≡ 1 ∷ 5 ∷ []

-- the classes of coflows of these loads, which are folded by load along the order of their numbers
abbrev pub classes_by_load : List ℕ → ℕ → List ℕ
classes_by_load loads classes =
    map (class_by (λ c. slice_index_or loads c 0) (range_with_len 0 (length loads)) classes)
    (range_with_len 0 (length loads))

-- half of the load is the first coflow's; two coflows without load, at the end and alone; and one coflow
pub record ClassesByLoad : Type 0 where
  pub in_two : classes_by_load (5 ∷ 1 ∷ 1 ∷ 1 ∷ 2 ∷ []) 2 ≡ 1 ∷ 2 ∷ 2 ∷ 2 ∷ 2 ∷ []
  pub in_three : classes_by_load (5 ∷ 1 ∷ 1 ∷ 1 ∷ 2 ∷ []) 3 ≡ 1 ∷ 2 ∷ 2 ∷ 3 ∷ 3 ∷ []
  pub at_the_end : classes_by_load (2 ∷ 0 ∷ []) 2 ≡ 1 ∷ 2 ∷ []
  pub no_load : classes_by_load (0 ∷ 0 ∷ []) 8 ≡ 1 ∷ 1 ∷ []
  pub one : classes_by_load (7 ∷ []) 4 ≡ 1 ∷ []

-- the shorter coflow first: two classes keep that order, and one class has the coflows by number
pub record ClassOrders : Type 0 where
  pub two : IsClassOrder (0 ∷ 1 ∷ []) (folded 2) (1 ∷ 0 ∷ [])
  pub one : IsClassOrder (0 ∷ 1 ∷ []) (folded 1) (0 ∷ 1 ∷ [])

-- what schedules cost at most that keep the classes of an order
pub record Caps : Type 0 where
  pub three_coflows_in_one : cap_in realistic (0 ∷ 2 ∷ 1 ∷ []) 1 ≡ 31
  pub three_coflows_in_two : cap_in realistic (0 ∷ 2 ∷ 1 ∷ []) 2 ≡ 24
  pub three_coflows_in_three : cap_in realistic (0 ∷ 2 ∷ 1 ∷ []) 3 ≡ 19
  pub ties_in_one : cap_in all_ties (0 ∷ 1 ∷ []) 1 ≡ 6
  pub ties_in_two : cap_in all_ties (0 ∷ 1 ∷ []) 2 ≡ 5
  pub weights_in_one : cap_in unequal_weights short_first 1 ≡ 32
  pub weights_in_two : cap_in unequal_weights short_first 2 ≡ 26
  pub weights_in_their_order : cap_in unequal_weights (0 ∷ 1 ∷ []) 2 ≡ 22
