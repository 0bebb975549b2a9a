-- How large the value of a feasible released certificate can be.
use Rattle.std.proofs.Common.{ℕ, ◌+◌, ◌*◌, ◌≤◌, ◌<◌, inl, inr, cond, List, [], ◌∷◌, Contains, ap, subst, arith, le_trans}
use Rattle.std.specs.Prelude.{All, map, not, sum_by, ◌==◌}
use Rattle.std.specs.List.{range_with_len}
use Rattle.std.proofs.Math.Nat.{mul-le-mul_left}
use Rattle.std.proofs.lemmas.Bool.{cases_Bool}
use Rattle.std.proofs.lemmas.List.Elements.{All-head, All-tail, Contains-append_cases}
use Rattle.std.proofs.lemmas.List.Sums.{sum_by-cons}
use Rattle.coflow_units.specs.declared.fabric.Flow.{Flow}
use Rattle.coflow_units.specs.declared.fabric.Port.{Port}
use Rattle.coflow_units.specs.declared.fabric.Side.{Side}
use Rattle.coflow_units.specs.declared.fabric.Side.TheVariants.{Egress, Ingress}
use Rattle.coflow_units.specs.Flows.{Instance}
use Rattle.coflow_units.specs.Load.{load, load_of_all, squares_of_loads}
use Rattle.coflow_units.specs.Certificate.{Entry, budget, front, front_load, used}
use Rattle.coflow_units.proofs.Lists.{filter_in, number_below}
use Rattle.coflow_units.proofs.Sums.{apart_from_pairs, in_first, in_tail, member_within_sum, sum_same}
use Rattle.dual_cert.proofs.SizeLaws.{paid, paid_is_used, square_of_sum}
use Rattle.release_bound.specs.declared.place.ReleasePlace.{ReleasePlace}
use Rattle.release_bound.specs.Release.{IsReleasedCertificate, IsReleasedFeasible, all_ports, bottleneck, earliest_end, entries_of, first_arrival, least_of, loaded}
use Rattle.release_bound.specs.Release.{released_value}
use Rattle.release_bound.proofs.LateLaw.{from_map, greatest_below}
use Rattle.release_bound.proofs.ReleasedLaw.{within_budgets}

abbrev pub IsCapped : List Flow → ℕ → ℕ → List ℕ → Type 0
IsCapped flows ports k cs = (port : Port) → port.number < ports → load_of_all flows cs port ≤ k

least_within : (xs : List ℕ) (m : ℕ) → ((x : ℕ) → Contains xs x → x ≤ m) → least_of xs ≤ m
least_within [] m each = omega arith
least_within (x ∷ []) m each = each x (in_first x [])
least_within (x ∷ y ∷ ys) m each = omega (arith, each x (in_first x (y ∷ ys)))

arrival_within : (flows : List Flow) (arrival : ℕ → ℕ) (cs : List ℕ) (port : Port) (m : ℕ) → ((c : ℕ) → Contains cs c → arrival c ≤ m) → first_arrival flows arrival cs port ≤ m
arrival_within flows arrival cs port m late =
    least_within (map arrival (loaded flows port cs)) m
    (λ n has. let (c, inside, is) = from_map arrival (loaded flows port cs) n has in
    subst (λ k. k ≤ m) is (late c (filter_in (λ k. not (load flows k port == 0)) cs c inside).0))

at_side : (side : Side) (ports : ℕ) (port : Port) → Contains (map (λ n. record { side = side; number = n }) (range_with_len 0 ports)) port → port.number < ports
at_side side ports port has =
    let (n, inside, is) = from_map (λ (n : ℕ). record { side = side; number = n }) (range_with_len 0 ports) port has in
    subst (λ (p : Port). p.number < ports) is (omega (arith, number_below 0 ports n inside))

pub in_range : (ports : ℕ) (port : Port) → Contains (all_ports ports) port → port.number < ports
in_range ports port has =
    elim (Contains-append_cases (map (λ n. record { side = Ingress; number = n }) (range_with_len 0 ports))
    (map (λ n. record { side = Egress; number = n }) (range_with_len 0 ports)) port has) [
      | inl left ↦ at_side Ingress ports port left
      | inr right ↦ at_side Egress ports port right
    ]

bottleneck_within : (flows : List Flow) (ports k : ℕ) (cs : List ℕ) (c : ℕ) → IsCapped flows ports k cs → Contains cs c → bottleneck flows ports c ≤ k
bottleneck_within flows ports k cs c cap has =
    greatest_below (map (load flows c) (all_ports ports)) k
    (λ n is_load. let (port, inside, is) = from_map (load flows c) (all_ports ports) n is_load in
    subst (λ x. x ≤ k) is (le_trans (member_within_sum (λ d. load flows d port) cs c has) (cap port (in_range ports port inside))))

end_most : (a n : ℕ) → cond {A = ℕ} (n == 0) 0 (a + n) ≤ a + n
end_most a n = elim (cases_Bool (n == 0)) [
  | inl t ↦ rw t (omega arith)
  | inr f ↦ rw f (omega arith)
]

term_fits : (y b q a h z k m : ℕ) → q ≤ b * b → b ≤ k → a ≤ m → h ≤ k + m → y * (b * b + q + 2 * (a * b)) + 2 * (z * h) ≤ 2 * ((k + m) * (y * b + z))
term_fits y b q a h z k m squares load late end =
    let one : y * (b * b + q + 2 * (a * b)) ≤ y * (2 * (b * b) + 2 * (a * b)) = mul-le-mul_left y (omega (arith, squares)) in
    let two : y * b * (b + a) ≤ y * b * (k + m) = mul-le-mul_left (y * b) (omega (arith, load, late)) in
    let three : z * h ≤ z * (k + m) = mul-le-mul_left z end in
    omega (arith, one, two, three)

value_within : (flows : List Flow) (arrival : ℕ → ℕ) (ports k m : ℕ) (places : List ReleasePlace) → All (λ (e : Entry). e.port.number < ports) (entries_of places) →
    IsCapped flows ports k (front (entries_of places)) →
    ((c : ℕ) → Contains (front (entries_of places)) c → arrival c ≤ m) →
    released_value flows arrival ports places ≤ 2 * ((k + m) * (paid flows (entries_of places) + sum_by (λ (r : ReleasePlace). r.z) places))
value_within flows arrival ports k m [] inside cap late = omega arith
value_within flows arrival ports k m (r ∷ before) inside cap late =
    let entries = entries_of (r ∷ before) in
    let cs = front entries in
    let cap_before : IsCapped flows ports k (front (entries_of before)) =
    λ port lt. le_trans (omega (arith, sum_by-cons (λ c. load flows c port) r.coflow (front (entries_of before)))) (cap port lt) in
    let later = value_within flows arrival ports k m before
    (All-tail (λ (x : Entry). x.port.number < ports) (record { coflow = r.coflow; port = r.port; y = r.y }) (entries_of before) inside)
    cap_before (λ c has. late c (in_tail r.coflow (front (entries_of before)) c has)) in
    let here = cap r.port (All-head (λ (x : Entry). x.port.number < ports) (record { coflow = r.coflow; port = r.port; y = r.y }) (entries_of before) inside) in
    let own = in_first r.coflow (front (entries_of before)) in
    let neck = bottleneck_within flows ports k cs r.coflow cap own in
    let end : earliest_end flows arrival ports r.coflow ≤ k + m = omega (arith, end_most (arrival r.coflow) (bottleneck flows ports r.coflow), neck, late r.coflow own) in
    let term = term_fits r.y (front_load flows entries) (squares_of_loads flows cs r.port) (first_arrival flows arrival cs r.port) (earliest_end flows arrival ports r.coflow) r.z k
    m
    (square_of_sum (λ c. load flows c r.port) cs) here (arrival_within flows arrival cs r.port m late) end in
    omega (arith, term, later, ap (λ n. (k + m) * n) (sum_by-cons (λ (x : ReleasePlace). x.z) r before))

pub size_law : (i : Instance) (arrival : ℕ → ℕ) (places : List ReleasePlace) (k m : ℕ) → IsReleasedCertificate i places → IsReleasedFeasible i.flows i.weight places →
    IsCapped i.flows i.ports k (front (entries_of places)) → ((c : ℕ) → Contains (front (entries_of places)) c → arrival c ≤ m) →
    released_value i.flows arrival i.ports places ≤ 2 * ((k + m) * sum_by (budget i.weight) (front (entries_of places)))
size_law i arrival places k m certificate feasible cap late =
    let entries = entries_of places in
    let cs = front entries in
    let low = value_within i.flows arrival i.ports k m places certificate.port cap late in
    let spent = within_budgets i.flows i.weight (λ c. 1) places places feasible in
    let once_used = sum_same (λ c. used i.flows entries c * 1) (used i.flows entries) cs (λ c has. omega arith) in
    let once_z = sum_same (λ (r : ReleasePlace). r.z * 1) (λ (r : ReleasePlace). r.z) places (λ r has. omega arith) in
    let once_budget = sum_same (λ c. budget i.weight c * 1) (budget i.weight) cs (λ c has. omega arith) in
    let paid_all = paid_is_used i.flows entries (apart_from_pairs cs certificate.once) in
    let within : paid i.flows entries + sum_by (λ (r : ReleasePlace). r.z) places ≤ sum_by (budget i.weight) cs = omega (arith, spent, once_used, once_z, once_budget, paid_all) in
    omega (arith, low, mul-le-mul_left (k + m) within)
