-- Bounds that know arrivals. A coflow arrives at a time, counted in slots, and a released schedule serves nobody before
-- its arrival. A released certificate proves a lower bound on the cost of each of them.
-- As in all certificates, the places stand from the last to the first: the front of the head's place is all coflows of
-- the list.
use Rattle.std.specs.Prelude.{◌≡◌, ℕ, ◌+◌, ◌*◌, ◌≤◌, ◌==◌, if◌then◌else◌, false, not, max, min, List, [], ◌∷◌, ◌++◌}
use Rattle.std.specs.Prelude.{All, filter, map, take}
use Rattle.std.specs.List.{range_with_len}
use Rattle.coflow_units.specs.declared.fabric.Flow.{Flow}
use Rattle.coflow_units.specs.declared.fabric.Port.{Port}
use Rattle.coflow_units.specs.declared.fabric.Side.TheVariants.{Egress, Ingress}
use Rattle.coflow_units.specs.Flows.{Instance}
use Rattle.coflow_units.specs.Load.{load, load_of_all, squares_of_loads}
use Rattle.coflow_units.specs.Schedule.{IsValid}
use Rattle.coflow_units.specs.Completion.{holds_coflow}
use Rattle.release_bound.specs.declared.place.ReleasePlace.{ReleasePlace}
use Rattle.coflow_units.specs.Certificate.{Entry, IsCertificate, budget, div_up, front, scale, used}

-- the schedule serves all units, and none of the slots up to a coflow's arrival holds a flow of it: the slots are
-- numbered from 1, so these are the first ones, as many as the arrival says
pub record IsReleased (flows : List Flow) (arrival : ℕ → ℕ) (slots : List (List ℕ)) : Type 0 where
  pub valid : IsValid flows slots
  pub none_early : (coflow : ℕ) → All (λ slot. holds_coflow flows slot coflow ≡ false) (take (arrival coflow) slots)

-- the place without its z
abbrev pub entry_of : ReleasePlace → Entry
entry_of r = record { coflow = r.coflow; port = r.port; y = r.y }

abbrev pub entries_of : List ReleasePlace → List Entry
entries_of places = map entry_of places

-- the places name each coflow of the instance once, and their ports are in range
abbrev pub IsReleasedCertificate : Instance → List ReleasePlace → Type 0
IsReleasedCertificate i places = IsCertificate i (entries_of places)

-- no coflow spends more than its budget, with its z
abbrev pub IsReleasedFeasible : List Flow → (ℕ → ℕ) → List ReleasePlace → Type 0
IsReleasedFeasible flows weight places =
    All (λ (r : ReleasePlace). used flows (entries_of places) r.coflow + r.z ≤ budget weight r.coflow) places

-- the least number, or 0 where there is none
abbrev pub least_of : List ℕ → ℕ
least_of [] = 0
least_of (x ∷ []) = x
least_of (x ∷ y ∷ ys) = min x (least_of (y ∷ ys))

-- the greatest number, or 0 where there is none
abbrev pub greatest_of : List ℕ → ℕ
greatest_of [] = 0
greatest_of (x ∷ xs) = max x (greatest_of xs)

-- those of the coflows that have load on the port
abbrev pub loaded : List Flow → Port → List ℕ → List ℕ
loaded flows port coflows = filter (λ c. not (load flows c port == 0)) coflows

-- the least arrival of those coflows that have load on the port, or 0 where none has
abbrev pub first_arrival : List Flow → (ℕ → ℕ) → List ℕ → Port → ℕ
first_arrival flows arrival coflows port = least_of (map arrival (loaded flows port coflows))

-- all ports of a fabric with so many ports on each side
abbrev pub all_ports : ℕ → List Port
all_ports ports =
    map (λ n. record { side = Ingress; number = n }) (range_with_len 0 ports)
    ++ map (λ n. record { side = Egress; number = n }) (range_with_len 0 ports)

-- the greatest load of the coflow on a port
abbrev pub bottleneck : List Flow → ℕ → ℕ → ℕ
bottleneck flows ports coflow = greatest_of (map (load flows coflow) (all_ports ports))

-- the slot before which the coflow cannot end: its arrival and its greatest load, or 0 where it has no load
abbrev pub earliest_end : List Flow → (ℕ → ℕ) → ℕ → ℕ → ℕ
earliest_end flows arrival ports coflow =
    if bottleneck flows ports coflow == 0 then 0 else arrival coflow + bottleneck flows ports coflow

-- what each unit of y adds at a port over its front: the square of the front's load, the squares of its coflows' loads,
-- and twice the first arrival times the front's load
abbrev pub front_value : List Flow → (ℕ → ℕ) → List ℕ → Port → ℕ
front_value flows arrival coflows port =
    load_of_all flows coflows port * load_of_all flows coflows port + squares_of_loads flows coflows port
    + 2 * (first_arrival flows arrival coflows port * load_of_all flows coflows port)

-- what the head's place adds: y times the value of its front, and twice z times the earliest end of its coflow
abbrev pub place_value : List Flow → (ℕ → ℕ) → ℕ → ReleasePlace → List ReleasePlace → ℕ
place_value flows arrival ports r before =
    r.y * front_value flows arrival (front (entries_of (r ∷ before))) r.port
    + 2 * (r.z * earliest_end flows arrival ports r.coflow)

-- 2 * scale times the value that the certificate proves
abbrev pub released_value : List Flow → (ℕ → ℕ) → ℕ → List ReleasePlace → ℕ
released_value flows arrival ports [] = 0
released_value flows arrival ports (r ∷ before) =
    place_value flows arrival ports r before + released_value flows arrival ports before

-- the lower bound that a feasible released certificate proves
abbrev pub released_total : List Flow → (ℕ → ℕ) → ℕ → List ReleasePlace → ℕ
released_total flows arrival ports places = div_up (released_value flows arrival ports places) (2 * scale)
