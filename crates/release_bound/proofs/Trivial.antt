-- Where every arrival is late, the total is the sum of weight times earliest end, and that is at least what arrivals cost.
use Rattle.std.proofs.Common.{◌≡◌, ℕ, ◌+◌, ◌-◌, ◌*◌, ◌<◌, ◌≤◌, Bool, true, false, List, [], ◌∷◌, ap, arith}
use Rattle.std.specs.Prelude.{◌==◌, if◌then◌else◌, All, Contains, sum_by}
use Rattle.std.proofs.lemmas.List.Elements.{All-contains, All-head, All-tail}
use Rattle.std.proofs.lemmas.List.Sums.{sum_by-cons}
use Rattle.std.proofs.lemmas.Nat.{le-div}
use Rattle.std.proofs.Math.Nat.{mul-le-mul_left}
use Rattle.coflow_units.specs.declared.fabric.Flow.{Flow}
use Rattle.coflow_units.specs.Flows.{Instance, IsDistinct}
use Rattle.coflow_units.specs.Certificate.{budget, div_up, front, scale}
use Rattle.coflow_units.proofs.Sums.{apart_from_pairs, members_at_most, sum_mono}
use Rattle.release_bound.specs.declared.place.ReleasePlace.{ReleasePlace}
use Rattle.release_bound.specs.declared.threshold.Threshold.TheVariants.{Zero}
use Rattle.release_bound.specs.Release.{bottleneck, earliest_end, entries_of, front_value, released_total, released_value}
use Rattle.release_bound.specs.ReleaseOrder.{IsReleasedBy}
use Rattle.release_bound.specs.Best.{arrivals_cost}

-- the sum of weight times earliest end
abbrev ends_cost : List Flow → (ℕ → ℕ) → (ℕ → ℕ) → ℕ → List ℕ → ℕ
ends_cost flows weight arrival ports coflows = sum_by (λ c. weight c * earliest_end flows arrival ports c) coflows

product : (w s e : ℕ) → w * s * e ≡ s * (w * e)
product w s e = omega arith

-- a certificate that pays for no load and keeps all has this value
value_is : (flows : List Flow) (weight arrival : ℕ → ℕ) (ports s : ℕ) (places : List ReleasePlace) → All (λ (r : ReleasePlace). r.y ≡ 0) places →
    All (λ (r : ReleasePlace). r.z ≡ weight r.coflow * s) places →
    released_value flows arrival ports places ≡ 2 * (s * ends_cost flows weight arrival ports (front (entries_of places)))
value_is flows weight arrival ports s [] no_y all_z = omega arith
value_is flows weight arrival ports s (r ∷ before) no_y all_z =
    let e = earliest_end flows arrival ports r.coflow in
    let y : r.y ≡ 0 = All-head (λ (x : ReleasePlace). x.y ≡ 0) r before no_y in
    let z : r.z ≡ weight r.coflow * s = All-head (λ (x : ReleasePlace). x.z ≡ weight x.coflow * s) r before all_z in
    let later = value_is flows weight arrival ports s before (All-tail (λ (x : ReleasePlace). x.y ≡ 0) r before no_y)
    (All-tail (λ (x : ReleasePlace). x.z ≡ weight x.coflow * s) r before all_z) in
    let split = ap (λ n. s * n) (sum_by-cons (λ c. weight c * earliest_end flows arrival ports c) r.coflow (front (entries_of before))) in
    omega (
      arith,
      ap (λ n. n * front_value flows arrival (front (entries_of (r ∷ before))) r.port) y,
      ap (λ n. n * e) z,
      product (weight r.coflow) s e,
      later,
      split,
    )

rounded : (n d m : ℕ) → 0 < d → d * m ≤ n → m ≤ div_up n d
rounded n d m some le = le-div m (n + (d - 1)) d some (omega (arith, le))

total_above : (flows : List Flow) (weight arrival : ℕ → ℕ) (ports : ℕ) (places : List ReleasePlace) → All (λ (r : ReleasePlace). r.y ≡ 0) places →
    All (λ (r : ReleasePlace). r.z ≡ budget weight r.coflow) places →
    ends_cost flows weight arrival ports (front (entries_of places)) ≤ released_total flows arrival ports places
total_above flows weight arrival ports places no_y all_z =
    let sum = ends_cost flows weight arrival ports (front (entries_of places)) in
    rounded (released_value flows arrival ports places) (2 * scale) sum (omega arith)
    (omega (arith, value_is flows weight arrival ports scale places no_y all_z))

arrival_below : (flows : List Flow) (arrival : ℕ → ℕ) (ports w c : ℕ) → (if bottleneck flows ports c == 0 then 0 else w * arrival c) ≤ w * earliest_end flows arrival ports c
arrival_below flows arrival ports w c = by_case (bottleneck flows ports c == 0) (arrival c) (bottleneck flows ports c)
  where
    by_case : (none : Bool) (a b : ℕ) → (if none then 0 else w * a) ≤ w * (if none then 0 else a + b)
    by_case true a b = omega arith
    by_case false a b = mul-le-mul_left w (omega arith)

pub arrivals_within : (i : Instance) (arrival : ℕ → ℕ) (places : List ReleasePlace) → IsDistinct i.coflows → IsReleasedBy Zero i arrival places →
    All (λ (r : ReleasePlace). r.y ≡ 0) places → All (λ (r : ReleasePlace). r.z ≡ budget i.weight r.coflow) places →
    arrivals_cost i arrival ≤ released_total i.flows arrival i.ports places
arrivals_within i arrival places once by no_y all_z =
    let named = front (entries_of places) in
    let below = sum_mono (λ c. if bottleneck i.flows i.ports c == 0 then 0 else i.weight c * arrival c) (λ c. i.weight c * earliest_end i.flows arrival i.ports c) i.coflows
    (λ c has. arrival_below i.flows arrival i.ports (i.weight c) c) in
    let all = members_at_most (λ c. i.weight c * earliest_end i.flows arrival i.ports c) i.coflows named (apart_from_pairs i.coflows once)
    (λ c has some. All-contains (Contains named) i.coflows c by.certificate.all has) in
    omega (arith, below, all, total_above i.flows i.weight arrival i.ports places no_y all_z)
