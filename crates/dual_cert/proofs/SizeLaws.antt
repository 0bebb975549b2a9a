-- How large the numbers of a feasible certificate can be.
use Rattle.std.proofs.Common.{◌≡◌, ℕ, ◌+◌, ◌*◌, ◌≤◌, ◌<◌, List, [], ◌∷◌, refl, ap, arith, le_trans}
use Rattle.std.specs.Prelude.{sum_by, All}
use Rattle.std.proofs.Math.Nat.{mul-le-mul_left}
use Rattle.std.proofs.lemmas.List.Sums.{sum_by-cons}
use Rattle.std.proofs.lemmas.List.Elements.{All-head, All-tail}
use Rattle.coflow_units.specs.declared.fabric.Flow.{Flow}
use Rattle.coflow_units.specs.declared.fabric.Port.{Port}
use Rattle.coflow_units.specs.Load.{load, load_of_all, squares_of_loads}
use Rattle.coflow_units.specs.Certificate.{budget, Entry, front, front_load, used, rest, dual_value, unspent, IsFeasible}
use Rattle.coflow_units.proofs.CertificateSteps.{used_in, used_outside, places_cap}
use Rattle.coflow_units.proofs.Sums.{sum_same, sum_mono, sum_add, sum_scale, Apart}

pub square_of_sum : (w : ℕ → ℕ) (xs : List ℕ) → sum_by (λ x. w x * w x) xs ≤ sum_by w xs * sum_by w xs
square_of_sum w [] = omega arith
square_of_sum w (x ∷ xs) =
    rw (sum_by-cons w x xs) (omega (arith, sum_by-cons (λ y. w y * w y) x xs, square_of_sum w xs))

-- the sum over the places of y times the load of the front is what the coflows pay
abbrev pub paid : List Flow → List Entry → ℕ
paid flows [] = 0
paid flows (e ∷ before) = e.y * front_load flows (e ∷ before) + paid flows before

pub paid_is_used : (flows : List Flow) (entries : List Entry) → Apart (front entries) → sum_by (used flows entries) (front entries) ≡ paid flows entries
paid_is_used flows [] apart = refl
paid_is_used flows (e ∷ before) apart =
    let cs = front (e ∷ before) in
    let split = sum_same (used flows (e ∷ before)) (λ c. e.y * load flows c e.port + used flows before c) cs (λ c has. used_in flows e before c has) in
    omega (
      arith,
      split,
      sum_add (λ c. e.y * load flows c e.port) (used flows before) cs,
      sum_scale e.y (λ c. load flows c e.port) cs,
      sum_by-cons (used flows before) e.coflow (front before),
      used_outside flows before e.coflow apart.0,
      paid_is_used flows before apart.1,
    )

term_fits : (y b q k : ℕ) → q ≤ b * b → b ≤ k → y * (b * b + q) ≤ 2 * (k * (y * b))
term_fits y b q k sq cap =
    let one : y * (b * b + q) ≤ y * (2 * (b * b)) = mul-le-mul_left y (omega (arith, sq)) in
    let two : y * b * b ≤ y * b * k = mul-le-mul_left (y * b) cap in
    omega (arith, one, two)

value_within_paid : (flows : List Flow) (ports k : ℕ) (entries : List Entry) → All (λ (e : Entry). e.port.number < ports) entries →
    ((port : Port) → port.number < ports → load_of_all flows (front entries) port ≤ k) → dual_value flows entries ≤ 2 * (k * paid flows entries)
value_within_paid flows ports k [] inside cap = omega arith
value_within_paid flows ports k (e ∷ before) inside cap =
    let here = cap e.port (All-head (λ (x : Entry). x.port.number < ports) e before inside) in
    let later = value_within_paid flows ports k before (All-tail (λ (x : Entry). x.port.number < ports) e before inside)
    (λ port lt. le_trans (omega (arith, sum_by-cons (λ c. load flows c port) e.coflow (front before))) (cap port lt)) in
    let term = term_fits e.y (front_load flows (e ∷ before)) (squares_of_loads flows (front (e ∷ before)) e.port) k (square_of_sum (λ c. load flows c e.port) (front (e ∷ before)))
    here in
    omega (arith, term, later)

pub value_fits : (flows : List Flow) (weight : ℕ → ℕ) (ports k : ℕ) (entries : List Entry) → Apart (front entries) → All (λ (e : Entry). e.port.number < ports) entries →
    IsFeasible flows weight entries →
    ((port : Port) → port.number < ports → load_of_all flows (front entries) port ≤ k) → dual_value flows entries ≤ 2 * (k * sum_by (budget weight) (front entries))
value_fits flows weight ports k entries apart inside feasible cap =
    let within = sum_mono (used flows entries) (budget weight) (front entries) (λ c has. feasible c) in
    omega (arith, value_within_paid flows ports k entries inside cap, mul-le-mul_left k within, ap (λ n. k * n) (paid_is_used flows entries apart))

pub unspent_fits : (flows : List Flow) (weight : ℕ → ℕ) (ports k : ℕ) (entries : List Entry) → All (λ (e : Entry). e.port.number < ports) entries →
    ((port : Port) → port.number < ports → load_of_all flows (front entries) port ≤ k) → unspent flows weight entries ≤ k * sum_by (budget weight) (front entries)
unspent_fits flows weight ports k entries inside cap =
    let within = sum_mono (rest flows weight entries) (budget weight) (front entries) (λ c has. omega arith) in
    le_trans (places_cap flows ports k (rest flows weight entries) entries inside cap) (mul-le-mul_left k within)
