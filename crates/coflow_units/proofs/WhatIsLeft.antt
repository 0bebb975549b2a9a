-- What is left of an instance is an instance over the same flow numbers.
use Rattle.std.proofs.Common.{◌≡◌, ℕ, ◌+◌, ◌<◌, List, [], ◌∷◌, length, get_or, Contains, refl, sym, subst, ap, ◌∙◌, arith, zero, suc}
use Rattle.std.specs.List.Sorted.{IsStrictlyIncreasing}
use Rattle.std.proofs.lemmas.List.{get_or_default}
use Rattle.coflow_units.specs.declared.fabric.Flow.{Flow}
use Rattle.coflow_units.specs.Flows.{Instance, IsInstance, coflow_of, units_of, with_units, with_units_from}

-- the flow with other units
abbrev owing : ℕ → Flow → Flow
owing n x = record { coflow = x.coflow; ingress = x.ingress; egress = x.egress; units = n }

pub length_from : (k : ℕ) (units : ℕ → ℕ) (flows : List Flow) → length (with_units_from k units flows) ≡ length flows
length_from k units [] = refl
length_from k units (x ∷ xs) = ap suc (length_from (k + 1) units xs)

read_from : (k : ℕ) (units : ℕ → ℕ) (flows : List Flow) (f : ℕ) (d : Flow) → f < length flows →
    get_or (with_units_from k units flows) f d ≡ owing (units (k + f)) (get_or flows f d)
read_from k units [] f d lt = absurd (omega arith)
read_from k units (x ∷ xs) zero d lt = let e : k ≡ k + 0 = omega arith in ap (λ n. owing (units n) x) e
read_from k units (x ∷ xs) (suc f) d lt = let e : k + 1 + f ≡ k + suc f = omega arith in read_from (k + 1) units xs f d (omega arith) ∙ ap (λ n. owing (units n) (get_or xs f d)) e

pub same_length : (units : ℕ → ℕ) (flows : List Flow) → length (with_units units flows) ≡ length flows
same_length units flows = length_from 0 units flows

pub left_flow : (units : ℕ → ℕ) (flows : List Flow) (f : ℕ) (d : Flow) → f < length flows → get_or (with_units units flows) f d ≡ owing (units f) (get_or flows f d)
left_flow units flows f d lt = let e : 0 + f ≡ f = omega arith in read_from 0 units flows f d lt ∙ ap (λ n. owing (units n) (get_or flows f d)) e

pub left_units : (units : ℕ → ℕ) (flows : List Flow) (f : ℕ) → f < length flows → units_of (with_units units flows) f ≡ units f
left_units units flows f lt = ap (λ (x : Flow). x.units) (left_flow units flows f record { coflow = 0; ingress = 0; egress = 0; units = 0 } lt)

pub left_coflow : (units : ℕ → ℕ) (flows : List Flow) (f : ℕ) → f < length flows → coflow_of (with_units units flows) f ≡ coflow_of flows f
left_coflow units flows f lt = ap (λ (x : Flow). x.coflow) (left_flow units flows f record { coflow = 0; ingress = 0; egress = 0; units = 0 } lt)

pub left_instance : (i : Instance) (present : List ℕ) (units : ℕ → ℕ) → IsInstance i → IsStrictlyIncreasing present →
    ((f : ℕ) → f < length i.flows → 0 < units f → Contains present (coflow_of i.flows f)) →
    IsInstance (record { coflows = present; weight = i.weight; ports = i.ports; flows = with_units units i.flows })
left_instance i present units inst up has = record {
  ascending = up;
  has_ports = inst.has_ports;
  coflow = λ f d lt.
      let in' : f < length i.flows = omega (arith, lt, same_length units i.flows) in
      subst (λ (x : Flow). 0 < x.units → Contains present x.coflow) (sym (left_flow units i.flows f d in'))
      (λ some. subst (λ (x : Flow). Contains present x.coflow) (get_or_default i.flows f record { coflow = 0; ingress = 0; egress = 0; units = 0 } d in') (has f in' some));
  ingress = λ f d lt.
      let in' : f < length i.flows = omega (arith, lt, same_length units i.flows) in
      subst (λ (x : Flow). x.ingress < i.ports) (sym (left_flow units i.flows f d in')) (inst.ingress f d in');
  egress = λ f d lt.
      let in' : f < length i.flows = omega (arith, lt, same_length units i.flows) in
      subst (λ (x : Flow). x.egress < i.ports) (sym (left_flow units i.flows f d in')) (inst.egress f d in');
}
