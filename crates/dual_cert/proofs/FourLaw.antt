-- A patient schedule for the order of a certificate costs at most four times its bound and its slack.
use Rattle.std.proofs.Common.{ℕ, ◌+◌, ◌*◌, ◌≤◌, ◌<◌, List, [], ◌∷◌, Contains, sym, ap, ◌∙◌, arith, le_trans, append-nil}
use Rattle.std.specs.Prelude.{sum_by, All}
use Rattle.std.proofs.Math.Nat.{mul-le-mul_left}
use Rattle.std.proofs.lemmas.List.Sums.{sum_by-cons}
use Rattle.std.proofs.lemmas.List.Elements.{All-contains, All-tail}
use Rattle.coflow_units.specs.declared.fabric.Flow.{Flow}
use Rattle.coflow_units.specs.Flows.{Instance, IsInstance}
use Rattle.coflow_units.specs.Load.{load}
use Rattle.coflow_units.specs.Schedule.{IsValid}
use Rattle.coflow_units.specs.Completion.{completion, cost}
use Rattle.coflow_units.specs.Patient.{IsPatient}
use Rattle.coflow_units.specs.Certificate.{scale, budget, Entry, front, front_load, used, rest, dual_value, over_places, unspent, bound, slack, IsFeasible, IsCertificate}
use Rattle.coflow_units.specs.Certificate.{TakesGreatestPorts, order_of}
use Rattle.dual_cert.proofs.Ends.{EndsWithin, ends_within}
use Rattle.coflow_units.proofs.Sums.{Apart, apart_from_pairs, in_first, in_tail, members_at_most, rising_apart, sum_same, sum_scale}
use Rattle.coflow_units.proofs.CertificateSteps.{places_add, places_cap, places_same, used_in, used_outside}
use Rattle.coflow_units.proofs.Numbers.{div_up_covers}

-- what the coflows pay, over the places, is at most the dual_value
pub paid_within_worth : (flows : List Flow) (ports : ℕ) (entries : List Entry) → Apart (front entries) → All (λ (e : Entry). e.port.number < ports) entries →
    TakesGreatestPorts flows ports entries →
    over_places flows (used flows entries) entries ≤ dual_value flows entries
paid_within_worth flows ports [] apart inside best = omega arith
paid_within_worth flows ports (e ∷ before) apart inside best =
    let c = e.coflow in
    let b = front_load flows (e ∷ before) in
    let inside' = All-tail (λ (x : Entry). x.port.number < ports) e before inside in
    let own = used_in flows e before c (in_first c (front before)) in
    let none = used_outside flows before c apart.0 in
    let split = places_same flows (used flows (e ∷ before)) (λ k. e.y * load flows k e.port + used flows before k) before
    (λ k has. used_in flows e before k (in_tail c (front before) k has)) in
    let parts = places_add flows (λ k. e.y * load flows k e.port) (used flows before) before in
    let cap = places_cap flows ports b (λ k. e.y * load flows k e.port) before inside'
    (λ port lt. le_trans (omega (arith, sum_by-cons (λ k. load flows k port) c (front before))) (best.0 port lt)) in
    let scaled = sum_scale e.y (λ k. load flows k e.port) (front before) in
    let whole = sum_by-cons (λ k. load flows k e.port) c (front before) in
    let later = paid_within_worth flows ports before apart.1 inside' best.1 in
    omega (arith, ap (λ n. n * b) own, ap (λ n. n * b) none, split, parts, cap, ap (λ n. b * n) scaled, ap (λ n. e.y * b * n) whole, later)

-- weighed completions over the places
pub ends_over_places : (flows : List Flow) (ends a : ℕ → ℕ) (entries : List Entry) → EndsWithin flows ends entries →
    sum_by (λ c. a c * ends c) (front entries) ≤ 2 * over_places flows a entries
ends_over_places flows ends a [] within = omega arith
ends_over_places flows ends a (e ∷ before) within =
    omega (arith, sum_by-cons (λ c. a c * ends c) e.coflow (front before), mul-le-mul_left (a e.coflow) within.0, ends_over_places flows ends a before within.1)

pub four_law : (i : Instance) (entries : List Entry) (slots : List (List ℕ)) → IsInstance i → IsCertificate i entries → IsFeasible i.flows i.weight entries →
    TakesGreatestPorts i.flows i.ports entries →
    IsValid i.flows slots → IsPatient i.flows (order_of entries) slots →
    scale * cost i.flows i.weight i.coflows slots ≤ 2 * dual_value i.flows entries + 2 * unspent i.flows i.weight entries
four_law i entries slots inst certificate feasible best valid patient =
    let ends = λ (c : ℕ). completion i.flows slots c in
    let apart = apart_from_pairs (front entries) certificate.once in
    let within = ends_within i (order_of entries) slots entries [] inst valid patient (sym (append-nil (order_of entries))) apart best in
    let all = members_at_most (λ c. budget i.weight c * ends c) i.coflows (front entries) (rising_apart i.coflows inst.ascending)
    (λ c has lt. All-contains (Contains (front entries)) i.coflows c certificate.all has) in
    let scaled = sum_same (λ c. budget i.weight c * ends c) (λ c. scale * (i.weight c * ends c)) i.coflows (λ c has. omega arith) ∙
    sum_scale scale (λ c. i.weight c * ends c) i.coflows in
    let budgets = places_same i.flows (budget i.weight) (λ c. used i.flows entries c + rest i.flows i.weight entries c) entries (λ c has. omega (arith, feasible c)) in
    omega (
      arith,
      scaled,
      all,
      ends_over_places i.flows ends (budget i.weight) entries within,
      budgets,
      places_add i.flows (used i.flows entries) (rest i.flows i.weight entries) entries,
      paid_within_worth i.flows i.ports entries apart certificate.port best,
    )

pub four_bound_law : (i : Instance) (entries : List Entry) (slots : List (List ℕ)) → IsInstance i → IsCertificate i entries → IsFeasible i.flows i.weight entries →
    TakesGreatestPorts i.flows i.ports entries →
    IsValid i.flows slots → IsPatient i.flows (order_of entries) slots → cost i.flows i.weight i.coflows slots ≤ 4 * bound i.flows entries + slack i.flows i.weight entries
four_bound_law i entries slots inst certificate feasible best valid patient =
    let long = four_law i entries slots inst certificate feasible best valid patient in
    let low = div_up_covers (dual_value i.flows entries) (2 * scale) (omega arith) in
    let more = div_up_covers (2 * unspent i.flows i.weight entries) scale (omega arith) in
    omega (arith, long, low, more)
