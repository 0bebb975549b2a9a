-- A feasible released certificate proves a lower bound.
use Rattle.std.proofs.Common.{ℕ, ◌+◌, ◌*◌, ◌≤◌, List, [], ◌∷◌, Contains, ap, ◌∙◌, arith}
use Rattle.std.specs.Prelude.{All, sum_by}
use Rattle.std.proofs.lemmas.List.Sums.{sum_by-cons}
use Rattle.std.proofs.lemmas.List.Elements.{All-contains, All-head, All-tail}
use Rattle.std.proofs.Math.Nat.{mul-le-mul_left, mul-le-mul_right}
use Rattle.coflow_units.specs.declared.fabric.Flow.{Flow}
use Rattle.coflow_units.specs.Flows.{Instance}
use Rattle.coflow_units.specs.Load.{load}
use Rattle.coflow_units.specs.Completion.{completion, cost}
use Rattle.coflow_units.specs.Certificate.{budget, front, scale, used}
use Rattle.coflow_units.proofs.CertificateSteps.{used_in}
use Rattle.coflow_units.proofs.Numbers.{div_up_least}
use Rattle.coflow_units.proofs.Sums.{Apart, apart_from_pairs, members_at_most, sum_add, sum_same, sum_scale}
use Rattle.release_bound.specs.declared.place.ReleasePlace.{ReleasePlace}
use Rattle.release_bound.specs.Release.{IsReleased, IsReleasedCertificate, IsReleasedFeasible, entries_of, entry_of, released_total, released_value}
use Rattle.release_bound.proofs.LateLaw.{ends_late, parallel_with_arrivals}

-- the sum over the places of z times the number given for the coflow
abbrev pub by_z : (ℕ → ℕ) → List ReleasePlace → ℕ
by_z ends places = sum_by (λ (r : ReleasePlace). r.z * ends r.coflow) places

weighed : (flows : List Flow) (arrival : ℕ → ℕ) (ports : ℕ) (slots : List (List ℕ)) (places : List ReleasePlace) → IsReleased flows arrival slots →
    Apart (front (entries_of places)) →
    released_value flows arrival ports places
    ≤ 2 * sum_by (λ c. used flows (entries_of places) c * completion flows slots c) (front (entries_of places)) + 2 * by_z (completion flows slots) places
weighed flows arrival ports slots [] released apart = omega arith
weighed flows arrival ports slots (r ∷ before) released apart =
    let ends = λ (c : ℕ). completion flows slots c in
    let e = entry_of r in
    let earlier = entries_of before in
    let cs = front (e ∷ earlier) in
    let split = sum_same (λ c. used flows (e ∷ earlier) c * ends c) (λ c. r.y * (load flows c r.port * ends c) + used flows earlier c * ends c) cs
    (λ c has. ap (λ n. n * ends c) (used_in flows e earlier c has) ∙ omega arith) in
    let apart_sum = sum_add (λ c. r.y * (load flows c r.port * ends c)) (λ c. used flows earlier c * ends c) cs in
    let first = sum_scale r.y (λ c. load flows c r.port * ends c) cs in
    let paid = mul-le-mul_left r.y (parallel_with_arrivals flows arrival slots cs r.port released apart) in
    let rest = sum_by-cons (λ c. used flows earlier c * ends c) r.coflow (front earlier) in
    let kept = sum_by-cons (λ (x : ReleasePlace). x.z * ends x.coflow) r before in
    let late = mul-le-mul_left r.z (ends_late flows arrival slots ports r.coflow released) in
    omega (arith, split, apart_sum, first, paid, rest, kept, late, weighed flows arrival ports slots before released apart.1)

-- what is spent and kept, weighed by numbers, is within the weighed budgets
pub within_budgets : (flows : List Flow) (weight ends : ℕ → ℕ) (all places : List ReleasePlace) →
    All (λ (r : ReleasePlace). used flows (entries_of all) r.coflow + r.z ≤ budget weight r.coflow) places →
    sum_by (λ c. used flows (entries_of all) c * ends c) (front (entries_of places)) + by_z ends places ≤ sum_by (λ c. budget weight c * ends c) (front (entries_of places))
within_budgets flows weight ends all [] feasible = omega arith
within_budgets flows weight ends all (r ∷ before) feasible =
    let here = mul-le-mul_right (ends r.coflow) (All-head (λ (r : ReleasePlace). used flows (entries_of all) r.coflow + r.z ≤ budget weight r.coflow) r before feasible) in
    let later = within_budgets flows weight ends all before
    (All-tail (λ (r : ReleasePlace). used flows (entries_of all) r.coflow + r.z ≤ budget weight r.coflow) r before feasible) in
    omega (
      arith,
      here,
      later,
      sum_by-cons (λ c. used flows (entries_of all) c * ends c) r.coflow (front (entries_of before)),
      sum_by-cons (λ (x : ReleasePlace). x.z * ends x.coflow) r before,
      sum_by-cons (λ c. budget weight c * ends c) r.coflow (front (entries_of before)),
    )

pub value_law : (i : Instance) (arrival : ℕ → ℕ) (places : List ReleasePlace) (slots : List (List ℕ)) → IsReleasedCertificate i places →
    IsReleasedFeasible i.flows i.weight places →
    IsReleased i.flows arrival slots →
    released_value i.flows arrival i.ports places ≤ 2 * scale * cost i.flows i.weight i.coflows slots
value_law i arrival places slots certificate feasible released =
    let ends = λ (c : ℕ). completion i.flows slots c in
    let cs = front (entries_of places) in
    let apart = apart_from_pairs cs certificate.once in
    let low = weighed i.flows arrival i.ports slots places released apart in
    let paid = within_budgets i.flows i.weight ends places places feasible in
    let all = members_at_most (λ c. budget i.weight c * ends c) cs i.coflows apart (λ c has lt. All-contains (Contains i.coflows) cs c certificate.coflow has) in
    let scaled = sum_same (λ c. budget i.weight c * ends c) (λ c. scale * (i.weight c * ends c)) i.coflows (λ c has. omega arith) ∙
    sum_scale scale (λ c. i.weight c * ends c) i.coflows in
    omega (arith, low, paid, all, scaled)

pub total_law : (i : Instance) (arrival : ℕ → ℕ) (places : List ReleasePlace) (slots : List (List ℕ)) → IsReleasedCertificate i places →
    IsReleasedFeasible i.flows i.weight places →
    IsReleased i.flows arrival slots →
    released_total i.flows arrival i.ports places ≤ cost i.flows i.weight i.coflows slots
total_law i arrival places slots certificate feasible released =
    div_up_least (released_value i.flows arrival i.ports places) (2 * scale) (cost i.flows i.weight i.coflows slots) (omega arith)
    (omega (arith, value_law i arrival places slots certificate feasible released))
