-- The greatest loads of the first coflows, and their limit.
use Rattle.std.proofs.Common.{◌≡◌, ℕ, ◌+◌, ◌≤◌, ◌<◌, inl, inr, List, [], ◌∷◌, ◌++◌, length, get_or, sym, subst, arith}
use Rattle.std.specs.Prelude.{All}
use Rattle.std.specs.List.{range_with_len}
use Rattle.std.proofs.lemmas.Bool.{cases_lt}
use Rattle.std.proofs.lemmas.List.{get_or_append_left, get_or_default, get_or_push}
use Rattle.coflow_units.specs.declared.fabric.Port.{Port}
use Rattle.coflow_units.proofs.Lists.{number_in}
use Rattle.coflow_units.proofs.Sums.{member_within_sum}
use Rattle.port_load.specs.Bottleneck.{IsBottleneck}
use Rattle.port_load.specs.LoadTable.{LoadTable, load_at, total_at}

-- the greatest loads of the first coflows, and of one coflow more
pub one_more : (t : LoadTable) (old new : List ℕ) (number coflow : ℕ) → new ≡ old ++ number ∷ [] → length old ≡ coflow →
    ((c : ℕ) → c < coflow → IsBottleneck t c (get_or old c 0)) → IsBottleneck t coflow number → (c : ℕ) → c < coflow + 1 → IsBottleneck t c (get_or new c 0)
one_more t old new number coflow is count before here c lt = subst (λ xs. IsBottleneck t c (get_or xs c 0)) (sym is) (elim (cases_lt c coflow) [
  | inl early ↦ subst (IsBottleneck t c) (sym (get_or_append_left old (number ∷ []) 0 c (omega (arith, count, early)))) (before c early)
  | inr late ↦
      let e : coflow ≡ c = omega (arith, lt, late) in
      subst (λ k. IsBottleneck t k (get_or (old ++ number ∷ []) k 0)) e (subst (IsBottleneck t coflow) (sym (get_or_push old number 0 coflow count)) here)
])

-- the greatest load of a coflow is within the load of all coflows on its port
within_total : (t : LoadTable) (coflow number most : ℕ) → coflow < t.coflows → ((port : Port) → port.number < t.ports → total_at t port ≤ most) → IsBottleneck t coflow number →
    number ≤ most
within_total t coflow number most lt totals is =
    let (port, low, at) = is.some in
    omega (
      arith,
      at,
      totals port low,
      member_within_sum (λ c. load_at t c port) (range_with_len 0 t.coflows) coflow (number_in 0 t.coflows coflow (omega arith) (omega (arith, lt))),
    )

pub bottlenecks_within : (t : LoadTable) (numbers : List ℕ) (most : ℕ) → length numbers ≡ t.coflows → ((port : Port) → port.number < t.ports → total_at t port ≤ most) →
    ((c : ℕ) → c < t.coflows → IsBottleneck t c (get_or numbers c 0)) → All (λ b. b ≤ most) numbers
bottlenecks_within t numbers most count totals greatest k d lt =
    let in' : k < t.coflows = omega (arith, count, lt) in
    subst (λ b. b ≤ most) (get_or_default numbers k 0 d lt) (within_total t k (get_or numbers k 0) most in' totals (greatest k in'))
