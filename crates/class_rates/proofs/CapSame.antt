-- Caps depend on the classes of the coflows alone.
use Rattle.std.proofs.Common.{◌≡◌, ℕ, ◌+◌, ◌-◌, ◌*◌, inl, inr, List, [], ◌∷◌, length, Contains, refl, sym, ap, subst, ◌∙◌, max, arith}
use Rattle.std.specs.Prelude.{◌==◌, if◌then◌else◌, nat_le}
use Rattle.std.specs.List.{range_with_len}
use Rattle.std.proofs.lemmas.Bool.{cases_Bool, eqb-true}
use Rattle.coflow_units.specs.declared.fabric.Flow.{Flow}
use Rattle.coflow_units.specs.Flows.{coflow_of, units_of}
use Rattle.coflow_units.specs.Load.{load_of_all}
use Rattle.coflow_units.specs.Patient.{egress_port, ingress_port}
use Rattle.coflow_units.proofs.Lists.{filter_same, number_below}
use Rattle.coflow_units.proofs.Sums.{in_first, in_tail, sum_same}
use Rattle.class_rates.specs.Cap.{cap, cap_of_coflow, cap_of_flow, greatest, up_to_class}
use Rattle.class_rates.specs.Classes.{ClassFacts, IsFolded, IsPermutation, class_by, class_of}

greatest_same : (value other : ℕ → ℕ) (xs : List ℕ) → ((x : ℕ) → Contains xs x → value x ≡ other x) → greatest value xs ≡ greatest other xs
greatest_same value other [] same = refl
greatest_same value other (x ∷ xs) same = ap (λ n. max n (greatest value xs)) (same x (in_first x xs)) ∙
    ap (max (other x)) (greatest_same value other xs (λ y has. same y (in_tail x xs y has)))

up_to_same : (coflows : List ℕ) (class other : ℕ → ℕ) (q r : ℕ) → q ≡ r → ((c : ℕ) → Contains coflows c → class c ≡ other c) →
    up_to_class coflows class q ≡ up_to_class coflows other r
up_to_same coflows class other q r e same = ap (up_to_class coflows class) e ∙
    filter_same (λ c. nat_le (class c) r) (λ c. nat_le (other c) r) coflows (λ c has. ap (λ k. nat_le k r) (same c has))

flow_same : (flows : List Flow) (coflows : List ℕ) (class other : ℕ → ℕ) (f : ℕ) → Contains coflows (coflow_of flows f) →
    ((c : ℕ) → Contains coflows c → class c ≡ other c) → cap_of_flow flows coflows class f ≡ cap_of_flow flows coflows other f
flow_same flows coflows class other f has same =
    ap (λ cs. load_of_all flows cs (ingress_port flows f) + load_of_all flows cs (egress_port flows f) - units_of flows f)
    (up_to_same coflows class other (class (coflow_of flows f)) (other (coflow_of flows f)) (same (coflow_of flows f) has) same)

one_same : (flows : List Flow) (coflows : List ℕ) (class other : ℕ → ℕ) (coflow f : ℕ) → Contains coflows coflow →
    ((c : ℕ) → Contains coflows c → class c ≡ other c) →
    (if coflow_of flows f == coflow then cap_of_flow flows coflows class f else 0) ≡
    (if coflow_of flows f == coflow then cap_of_flow flows coflows other f else 0)
one_same flows coflows class other coflow f has same = elim (cases_Bool (coflow_of flows f == coflow)) [
  | inl e ↦
      let is : coflow_of flows f ≡ coflow = eqb-true (coflow_of flows f) coflow e in
      ap (λ n. if coflow_of flows f == coflow then n else 0) (flow_same flows coflows class other f (subst (Contains coflows) (sym is) has) same)
  | inr e ↦ ap (λ b. if b then cap_of_flow flows coflows class f else 0) e ∙ sym (ap (λ b. if b then cap_of_flow flows coflows other f else 0) e)
]

coflow_same : (flows : List Flow) (coflows : List ℕ) (class other : ℕ → ℕ) (coflow : ℕ) → Contains coflows coflow →
    ((c : ℕ) → Contains coflows c → class c ≡ other c) →
    cap_of_coflow flows coflows class coflow ≡ cap_of_coflow flows coflows other coflow
coflow_same flows coflows class other coflow has same =
    greatest_same (λ f. if coflow_of flows f == coflow then cap_of_flow flows coflows class f else 0)
    (λ f. if coflow_of flows f == coflow then cap_of_flow flows coflows other f else 0)
    (range_with_len 0 (length flows)) (λ f in'. one_same flows coflows class other coflow f has same)

pub cap_same : (flows : List Flow) (weight : ℕ → ℕ) (coflows : List ℕ) (class other : ℕ → ℕ) → ((c : ℕ) → Contains coflows c → class c ≡ other c) →
    cap flows weight coflows class ≡ cap flows weight coflows other
cap_same flows weight coflows class other same =
    sum_same (λ c. weight c * cap_of_coflow flows coflows class c) (λ c. weight c * cap_of_coflow flows coflows other c) coflows
    (λ c has. ap (λ n. weight c * n) (coflow_same flows coflows class other c has same))

pub cap_folded : (size : ℕ → ℕ) (flows : List Flow) (weight : ℕ → ℕ) (order : List ℕ) (classes : ℕ) (t : ClassFacts) → IsPermutation order →
    IsFolded size order classes t →
    cap flows weight (range_with_len 0 (length order)) (class_of t) ≡ cap flows weight (range_with_len 0 (length order)) (class_by size order classes)
cap_folded size flows weight order classes t permutation folded =
    cap_same flows weight (range_with_len 0 (length order)) (class_of t) (class_by size order classes)
    (λ c has. folded.class_is c (permutation.all c (omega (arith, number_below 0 (length order) c has))))
