-- The loads of ports and the caps of coflows, class by class.
use Rattle.std.specs.Prelude.{◌≡◌, ℕ, ◌<◌, if◌then◌else◌, nat_le, nat_lt, List, length}
use Rattle.std.specs.List.{filter, range_with_len, slice_index_or}
use Rattle.coflow_units.specs.declared.fabric.Flow.{Flow}
use Rattle.coflow_units.specs.declared.fabric.Side.{Side}
use Rattle.coflow_units.specs.Load.{load_of_all}
use Rattle.class_rates.specs.Cap.{cap_of_coflow, up_to_class}

-- the class of a coflow by number
abbrev pub number_at : List ℕ → ℕ → ℕ
number_at numbers coflow = slice_index_or numbers coflow 0

-- the coflows by number
abbrev pub coflows_of : List ℕ → List ℕ
coflows_of numbers = range_with_len 0 (length numbers)

-- the coflows of the classes before a class
abbrev pub before_class : List ℕ → ℕ → List ℕ
before_class numbers q = filter (λ c. nat_lt (number_at numbers c) q) (coflows_of numbers)

-- the loads of the ports of a side over the coflows of the classes before a class
abbrev pub HasLoadsBelow : List Flow → List ℕ → ℕ → Side → List ℕ → Type 0
HasLoadsBelow flows numbers q side loads = (p : ℕ) → p < length loads →
    slice_index_or loads p 0 ≡ load_of_all flows (before_class numbers q) (record { side = side; number = p })

-- the same over the coflows of a class and of those before it
abbrev pub HasLoadsUpTo : List Flow → List ℕ → ℕ → Side → List ℕ → Type 0
HasLoadsUpTo flows numbers q side loads = (p : ℕ) → p < length loads →
    slice_index_or loads p 0 ≡
    load_of_all flows (up_to_class (coflows_of numbers) (number_at numbers) q) (record { side = side; number = p })

-- the caps of the coflows of the classes before a class, and 0 for the others
abbrev pub HasCapsBelow : List Flow → List ℕ → ℕ → List ℕ → Type 0
HasCapsBelow flows numbers q caps = (c : ℕ) → c < length numbers →
    slice_index_or caps c 0 ≡
    (if nat_lt (number_at numbers c) q then cap_of_coflow flows (coflows_of numbers) (number_at numbers) c else 0)

-- the caps of the coflows of a class and of those before it, and 0 for the others
abbrev pub HasCapsUpTo : List Flow → List ℕ → ℕ → List ℕ → Type 0
HasCapsUpTo flows numbers q caps = (c : ℕ) → c < length numbers →
    slice_index_or caps c 0 ≡
    (if nat_le (number_at numbers c) q then cap_of_coflow flows (coflows_of numbers) (number_at numbers) c else 0)
