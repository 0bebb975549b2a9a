-- A feasible certificate proves a lower bound.
use Rattle.std.proofs.Common.{ℕ, ◌+◌, ◌*◌, ◌≤◌, List, [], ◌∷◌, Contains, ap, ◌∙◌, arith}
use Rattle.std.specs.Prelude.{sum_by}
use Rattle.std.proofs.lemmas.List.Sums.{sum_by-cons}
use Rattle.std.proofs.lemmas.List.Elements.{All-contains}
use Rattle.std.proofs.Math.Nat.{mul-le-mul_left, mul-le-mul_right}
use Rattle.coflow_units.specs.declared.fabric.Flow.{Flow}
use Rattle.coflow_units.specs.declared.fabric.Port.{Port}
use Rattle.coflow_units.specs.Flows.{Instance}
use Rattle.coflow_units.specs.Load.{load, load_of_all, squares_of_loads}
use Rattle.coflow_units.specs.Schedule.{IsValid}
use Rattle.coflow_units.specs.Completion.{completion, cost}
use Rattle.coflow_units.specs.Certificate.{scale, budget, Entry, front, used, dual_value, bound, IsFeasible, IsCertificate}
use Rattle.coflow_units.proofs.Sums.{sum_same, sum_mono, sum_add, sum_scale, Apart, members_at_most, apart_from_pairs}
use Rattle.schedule_model.proofs.SlotLoads.{parallel_law}
use Rattle.coflow_units.proofs.CertificateSteps.{used_in}
use Rattle.coflow_units.proofs.Numbers.{div_up_least}

-- numbers that are for each port at least what the parallel law says of completions
pub weighed : (flows : List Flow) (ends : ℕ → ℕ) (entries : List Entry) → Apart (front entries) →
    ((cs : List ℕ) (port : Port) → Apart cs →
    load_of_all flows cs port * load_of_all flows cs port + squares_of_loads flows cs port ≤ 2 * sum_by (λ c. load flows c port * ends c) cs) →
    dual_value flows entries ≤ 2 * sum_by (λ c. used flows entries c * ends c) (front entries)
weighed flows ends [] apart law = omega arith
weighed flows ends (e ∷ before) apart law =
    let cs = front (e ∷ before) in
    let split = sum_same (λ c. used flows (e ∷ before) c * ends c) (λ c. e.y * (load flows c e.port * ends c) + used flows before c * ends c) cs
    (λ c has. ap (λ n. n * ends c) (used_in flows e before c has) ∙ omega arith) in
    let apart_sum = sum_add (λ c. e.y * (load flows c e.port * ends c)) (λ c. used flows before c * ends c) cs in
    let first = sum_scale e.y (λ c. load flows c e.port * ends c) cs in
    let paid = mul-le-mul_left e.y (law cs e.port apart) in
    let rest = sum_by-cons (λ c. used flows before c * ends c) e.coflow (front before) in
    omega (arith, split, apart_sum, first, paid, rest, weighed flows ends before apart.1 law)

pub dual_law : (i : Instance) (entries : List Entry) (slots : List (List ℕ)) → IsCertificate i entries → IsFeasible i.flows i.weight entries → IsValid i.flows slots →
    dual_value i.flows entries ≤ 2 * scale * cost i.flows i.weight i.coflows slots
dual_law i entries slots certificate feasible valid =
    let ends = λ (c : ℕ). completion i.flows slots c in
    let apart = apart_from_pairs (front entries) certificate.once in
    let low = weighed i.flows ends entries apart (λ cs port a. parallel_law i.flows slots cs port valid a) in
    let paid = sum_mono (λ c. used i.flows entries c * ends c) (λ c. budget i.weight c * ends c) (front entries) (λ c has. mul-le-mul_right (ends c) (feasible c)) in
    let all = members_at_most (λ c. budget i.weight c * ends c) (front entries) i.coflows apart
    (λ c has lt. All-contains (Contains i.coflows) (front entries) c certificate.coflow has) in
    let scaled = sum_same (λ c. budget i.weight c * ends c) (λ c. scale * (i.weight c * ends c)) i.coflows (λ c has. omega arith) ∙
    sum_scale scale (λ c. i.weight c * ends c) i.coflows in
    omega (arith, low, paid, all, scaled)

pub bound_law : (i : Instance) (entries : List Entry) (slots : List (List ℕ)) → IsCertificate i entries → IsFeasible i.flows i.weight entries → IsValid i.flows slots →
    bound i.flows entries ≤ cost i.flows i.weight i.coflows slots
bound_law i entries slots certificate feasible valid =
    div_up_least (dual_value i.flows entries) (2 * scale) (cost i.flows i.weight i.coflows slots) (omega arith) (omega (arith, dual_law i entries slots certificate feasible valid))
