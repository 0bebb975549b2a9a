-- The greatest load of a coflow.
use Rattle.std.proofs.Common.{◌≡◌, ℕ, ◌+◌, ◌≤◌, ◌<◌, inl, inr, max, sym, ap, subst, arith}
use Rattle.std.proofs.lemmas.Bool.{cases_lt}
use Rattle.coflow_units.specs.declared.fabric.Side.{Side}
use Rattle.coflow_units.specs.declared.fabric.Side.TheVariants.{Egress, Ingress}
use Rattle.port_load.specs.LoadTable.{LoadTable, load_at}
use Rattle.port_load.specs.Bottleneck.{IsBottleneck, IsGreatestOn}

abbrev load_on : LoadTable → ℕ → Side → ℕ → ℕ
load_on t coflow side p = load_at t coflow (record { side = side; number = p })

pub first_port : (t : LoadTable) (coflow : ℕ) (side : Side) (number : ℕ) → number ≡ load_on t coflow side 0 → IsGreatestOn t coflow side 1 number
first_port t coflow side number is = record {
  most = λ p lt. let e : p ≡ 0 = omega (arith, lt) in subst (λ q. load_on t coflow side q ≤ number) (sym e) (omega (arith, is));
  some = (0, omega arith, sym is);
}

pub next_port : (t : LoadTable) (coflow : ℕ) (side : Side) (ports number load : ℕ) → load ≡ load_on t coflow side ports → IsGreatestOn t coflow side ports number →
    IsGreatestOn t coflow side (ports + 1) (max number load)
next_port t coflow side ports number load is before = record {
  most = λ p lt. elim (cases_lt p ports) [
    | inl old ↦ omega (arith, before.most p old)
    | inr new ↦
        let e : ports ≡ p = omega (arith, lt, new) in
        omega (arith, is, ap (load_on t coflow side) e)
  ];
  some = elim (cases_lt number load) [
    | inl less ↦ (ports, omega arith, omega (arith, is, less))
    | inr more ↦ let (p, lt, at) = before.some in (p, omega (arith, lt), omega (arith, at, more))
  ];
}

at_side : (t : LoadTable) (coflow ports ingress egress : ℕ) → IsGreatestOn t coflow Ingress ports ingress → IsGreatestOn t coflow Egress ports egress → (side : Side) (p : ℕ) →
    p < ports → load_on t coflow side p ≤ max ingress egress
at_side t coflow ports ingress egress i e Ingress p lt = omega (arith, i.most p lt)
at_side t coflow ports ingress egress i e Egress p lt = omega (arith, e.most p lt)

pub both_sides : (t : LoadTable) (coflow ingress egress : ℕ) → IsGreatestOn t coflow Ingress t.ports ingress → IsGreatestOn t coflow Egress t.ports egress →
    IsBottleneck t coflow (max ingress egress)
both_sides t coflow ingress egress i e = record {
  most = λ port lt. at_side t coflow t.ports ingress egress i e port.side port.number lt;
  some = elim (cases_lt ingress egress) [
    | inl less ↦ let (p, lt, at) = e.some in (record { side = Egress; number = p }, lt, omega (arith, at, less))
    | inr more ↦ let (p, lt, at) = i.some in (record { side = Ingress; number = p }, lt, omega (arith, at, more))
  ];
}
