-- An order of coflows folded into classes, for switches that have few priorities. Classes count from 1, and they rise
-- along the order.
use Rattle.std.specs.Prelude.{◌≡◌, ℕ, ◌+◌, ◌*◌, ◌/◌, ◌<◌, ◌≤◌, ◌⊎◌, ◌==◌, if◌then◌else◌, min}
use Rattle.std.specs.Prelude.{List, All, AllPairs, Contains, length, sum_by, take}
use Rattle.std.specs.List.{range_with_len, slice_index_or}
use Rattle.coflow_units.specs.Flows.{IsDistinct}
use Rattle.coflow_units.specs.Grants.{place_in}
use Rattle.class_rates.specs.declared.classes.TheConstants.{MAX_CLASSES}
use Rattle.class_rates.specs.declared.fold.Fold.{Fold}
use Rattle.class_rates.specs.declared.fold.Fold.TheVariants.{Count, Load}

-- what a coflow counts for where an order is folded: 1, or its load
abbrev pub size_by : Fold → (ℕ → ℕ) → ℕ → ℕ
size_by Count load coflow = 1
size_by Load load coflow = load coflow

-- the sum of the sizes of the coflows before a coflow in an order
abbrev pub size_before : (ℕ → ℕ) → List ℕ → ℕ → ℕ
size_before size order coflow = sum_by size (take (place_in order coflow) order)

-- the class of a coflow behind others of these sizes together, of so many in all: the number of the part in which it
-- begins, where all is cut into as many equal parts as there are classes, and the last one where it begins at the end
abbrev pub class_behind : ℕ → ℕ → ℕ → ℕ
class_behind all classes before = if all == 0 then 1 else min classes (1 + before * classes / all)

-- the class of a coflow of an order that is folded by these sizes
abbrev pub class_by : (ℕ → ℕ) → List ℕ → ℕ → ℕ → ℕ
class_by size order classes coflow = class_behind (sum_by size order) classes (size_before size order coflow)

-- the class at a place of an order of n coflows that is folded by count; places count from 0
abbrev pub class_at : ℕ → ℕ → ℕ → ℕ
class_at n classes place = 1 + (place * classes) / n

-- the class of a coflow of an order that is folded by count
abbrev pub class_in : List ℕ → ℕ → ℕ → ℕ
class_in order classes coflow = class_at (length order) classes (place_in order coflow)

-- coflows come by class, then by number
abbrev pub ClassBefore : (ℕ → ℕ) → ℕ → ℕ → Type 0
ClassBefore class c d = (class c < class d) ⊎ ((class c ≡ class d) × (c < d))

-- classes do not fall along the order
abbrev pub RisesAlong : (ℕ → ℕ) → List ℕ → Type 0
RisesAlong class order = (c d : ℕ) → Contains order c → Contains order d → place_in order c ≤ place_in order d →
    class c ≤ class d

-- the coflows by class and then by number
pub record IsClassOrder (coflows : List ℕ) (class : ℕ → ℕ) (order : List ℕ) : Type 0 where
  pub sorted : AllPairs (ClassBefore class) order
  pub coflow : All (Contains coflows) order
  pub all : (c : ℕ) → Contains coflows c → Contains order c

-- the list has each number below its length once
pub record IsPermutation (order : List ℕ) : Type 0 where
  pub distinct : IsDistinct order
  pub known : All (λ c. c < length order) order
  pub all : (c : ℕ) → c < length order → Contains order c

-- what folded classes tell: how many classes there are, the class of each coflow by number, and the class order
pub record ClassFacts : Type 0 where
  pub count : ℕ
  pub numbers : List ℕ
  pub order : List ℕ

-- the class of a coflow; a number past the end has 0
abbrev pub class_of : ClassFacts → ℕ → ℕ
class_of t coflow = slice_index_or t.numbers coflow 0

-- there are from 1 to 64 classes, each coflow has one of them, and the order is their class order
pub record IsClasses (t : ClassFacts) : Type 0 where
  pub some : 1 ≤ t.count
  pub few : t.count ≤ MAX_CLASSES
  pub class : All (λ q. (1 ≤ q) × (q ≤ t.count)) t.numbers
  pub order_is : IsClassOrder (range_with_len 0 (length t.numbers)) (class_of t) t.order

-- these are the classes of an order that is folded by these sizes into so many
pub record IsFolded (size : ℕ → ℕ) (order : List ℕ) (classes : ℕ) (t : ClassFacts) : Type 0 where
  pub count_is : t.count ≡ classes
  pub length_is : length t.numbers ≡ length order
  pub class_is : (c : ℕ) → Contains order c → class_of t c ≡ class_by size order classes c
  pub order_is : IsClassOrder order (class_by size order classes) t.order
