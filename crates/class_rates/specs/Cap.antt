-- The cap of classes: what a schedule that keeps them costs at most, whichever flow of a class is served first.
use Rattle.std.specs.Prelude.{ℕ, ◌+◌, ◌-◌, ◌*◌, ◌==◌, if◌then◌else◌, nat_le, List, [], ◌∷◌, length, max, sum_by}
use Rattle.std.specs.List.{filter, range_with_len}
use Rattle.coflow_units.specs.declared.fabric.Flow.{Flow}
use Rattle.coflow_units.specs.Flows.{coflow_of, units_of}
use Rattle.coflow_units.specs.Load.{load_of_all}
use Rattle.coflow_units.specs.Patient.{egress_port, ingress_port}

-- the coflows of a class and of those before it
abbrev pub up_to_class : List ℕ → (ℕ → ℕ) → ℕ → List ℕ
up_to_class coflows class q = filter (λ c. nat_le (class c) q) coflows

-- the last slot in which a flow may end: the loads of its two ports over the coflows up to its class, less its own
-- units, which both loads count
abbrev pub cap_of_flow : List Flow → List ℕ → (ℕ → ℕ) → ℕ → ℕ
cap_of_flow flows coflows class f =
    load_of_all flows (up_to_class coflows class (class (coflow_of flows f))) (ingress_port flows f) +
    load_of_all flows (up_to_class coflows class (class (coflow_of flows f))) (egress_port flows f) - units_of flows f

-- the greatest of the values of the numbers, or 0 where there is none
abbrev pub greatest : (ℕ → ℕ) → List ℕ → ℕ
greatest value [] = 0
greatest value (x ∷ xs) = max (value x) (greatest value xs)

-- the greatest cap of the coflow's flows, or 0 where it has none
abbrev pub cap_of_coflow : List Flow → List ℕ → (ℕ → ℕ) → ℕ → ℕ
cap_of_coflow flows coflows class coflow =
    greatest (λ f. if coflow_of flows f == coflow then cap_of_flow flows coflows class f else 0)
    (range_with_len 0 (length flows))

-- the sum of weight times cap
abbrev pub cap : List Flow → (ℕ → ℕ) → List ℕ → (ℕ → ℕ) → ℕ
cap flows weight coflows class = sum_by (λ c. weight c * cap_of_coflow flows coflows class c) coflows
