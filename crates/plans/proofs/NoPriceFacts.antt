-- A certificate without prices is feasible and takes greatest ports, so the laws hold of it.
use Rattle.std.proofs.Common.{◌≡◌, ℕ, ◌+◌, ◌*◌, ◌≤◌, ◌<◌, inl, inr, Bool, true, false, cond, [], ◌∷◌, Contains, refl, arith, zero, suc}
use Rattle.std.specs.Prelude.{◌==◌}
use Rattle.std.specs.List.{list_any}
use Rattle.std.proofs.lemmas.Bool.{ltb-true}
use Rattle.std.proofs.lemmas.List.Elements.{All-from_recursion}
use Rattle.coflow_units.specs.declared.fabric.Side.{Side}
use Rattle.coflow_units.specs.declared.fabric.Side.TheVariants.{Ingress, Egress}
use Rattle.coflow_units.specs.Certificate.{Entry, IsCertificate, IsFeasible, TakesGreatestPorts, bound, slack}
use Rattle.coflow_units.specs.Completion.{cost, end_of}
use Rattle.coflow_units.specs.Load.{load, load_of_all}
use Rattle.coflow_units.specs.Flows.{units_of}
use Rattle.coflow_units.specs.Patient.{egress_port, ingress_port, up_to}
use Rattle.coflow_units.specs.Rows.{equal_weights, two_flows}
use Rattle.coflow_units.specs.SmallCases.{first_ingress, longer_first_slots, one_each}
use Rattle.coflow_units.proofs.RowChecks.{equal_instance}
use Rattle.coflow_units.proofs.SmallCaseChecks.{two_flows_hold}
use Rattle.coflow_units.proofs.Sums.{all_of_members, first_or_tail, in_first, in_tail, nothing_in, pairs_from_apart}
use Rattle.dual_cert.proofs.FourLaw.{four_bound_law}
use Rattle.schedule_model.proofs.WaitingLaw.{short_law}
use Rattle.plans.specs.NoPrices.{no_prices}

nothing_paid : (b : Bool) (n : ℕ) → cond b (0 * n) 0 ≡ 0
nothing_paid true n = omega arith
nothing_paid false n = refl

no_prices_feasible : IsFeasible two_flows one_each no_prices
no_prices_feasible c =
    omega (
      arith,
      nothing_paid (list_any (λ d. d == c) (1 ∷ 0 ∷ [])) (load two_flows c first_ingress),
      nothing_paid (list_any (λ d. d == c) (0 ∷ [])) (load two_flows c first_ingress),
    )

swapped : (c : ℕ) → Contains (1 ∷ 0 ∷ []) c → Contains (0 ∷ 1 ∷ []) c
swapped c has = elim (first_or_tail 1 (0 ∷ []) c has) [
  | inl e ↦ (1, omega arith, e)
  | inr later ↦ elim (first_or_tail 0 [] c later) [
    | inl e ↦ (0, omega arith, e)
    | inr none ↦ absurd (nothing_in c none)
  ]
]

back : (c : ℕ) → Contains (0 ∷ 1 ∷ []) c → Contains (1 ∷ 0 ∷ []) c
back c has = elim (first_or_tail 0 (1 ∷ []) c has) [
  | inl e ↦ (1, omega arith, e)
  | inr later ↦ elim (first_or_tail 1 [] c later) [
    | inl e ↦ (0, omega arith, e)
    | inr none ↦ absurd (nothing_in c none)
  ]
]

no_prices_certificate : IsCertificate equal_weights no_prices
no_prices_certificate = record {
  once = pairs_from_apart (1 ∷ 0 ∷ []) ((λ has. elim (first_or_tail 0 [] 1 has) [ inl e ↦ omega (arith, e) | inr none ↦ nothing_in 1 none ]), ((λ has. nothing_in 0 has), tt));
  coflow = all_of_members (Contains (0 ∷ 1 ∷ [])) (1 ∷ 0 ∷ []) swapped;
  all = all_of_members (Contains (1 ∷ 0 ∷ [])) (0 ∷ 1 ∷ []) back;
  port = All-from_recursion (λ (e : Entry). e.port.number < 3) no_prices (omega arith, (omega arith, tt));
}

-- no port has more than 4 units of both flows, nor more than 3 of the first
both_small : (s : Side) (n : ℕ) → n < 3 → load_of_all two_flows (1 ∷ 0 ∷ []) (record { side = s; number = n }) < 5
both_small Ingress zero lt = ltb-true (load_of_all two_flows (1 ∷ 0 ∷ []) (record { side = Ingress; number = 0 })) 5 refl
both_small Ingress (suc zero) lt = ltb-true (load_of_all two_flows (1 ∷ 0 ∷ []) (record { side = Ingress; number = 1 })) 5 refl
both_small Ingress (suc (suc zero)) lt = ltb-true (load_of_all two_flows (1 ∷ 0 ∷ []) (record { side = Ingress; number = 2 })) 5 refl
both_small Ingress (suc (suc (suc n))) lt = absurd (omega (arith, lt))
both_small Egress zero lt = ltb-true (load_of_all two_flows (1 ∷ 0 ∷ []) (record { side = Egress; number = 0 })) 5 refl
both_small Egress (suc zero) lt = ltb-true (load_of_all two_flows (1 ∷ 0 ∷ []) (record { side = Egress; number = 1 })) 5 refl
both_small Egress (suc (suc zero)) lt = ltb-true (load_of_all two_flows (1 ∷ 0 ∷ []) (record { side = Egress; number = 2 })) 5 refl
both_small Egress (suc (suc (suc n))) lt = absurd (omega (arith, lt))

first_small : (s : Side) (n : ℕ) → n < 3 → load_of_all two_flows (0 ∷ []) (record { side = s; number = n }) < 4
first_small Ingress zero lt = ltb-true (load_of_all two_flows (0 ∷ []) (record { side = Ingress; number = 0 })) 4 refl
first_small Ingress (suc zero) lt = ltb-true (load_of_all two_flows (0 ∷ []) (record { side = Ingress; number = 1 })) 4 refl
first_small Ingress (suc (suc zero)) lt = ltb-true (load_of_all two_flows (0 ∷ []) (record { side = Ingress; number = 2 })) 4 refl
first_small Ingress (suc (suc (suc n))) lt = absurd (omega (arith, lt))
first_small Egress zero lt = ltb-true (load_of_all two_flows (0 ∷ []) (record { side = Egress; number = 0 })) 4 refl
first_small Egress (suc zero) lt = ltb-true (load_of_all two_flows (0 ∷ []) (record { side = Egress; number = 1 })) 4 refl
first_small Egress (suc (suc zero)) lt = ltb-true (load_of_all two_flows (0 ∷ []) (record { side = Egress; number = 2 })) 4 refl
first_small Egress (suc (suc (suc n))) lt = absurd (omega (arith, lt))

no_prices_greatest : TakesGreatestPorts two_flows 3 no_prices
no_prices_greatest = ((λ port lt. omega (arith, both_small port.side port.number lt)), ((λ port lt. omega (arith, first_small port.side port.number lt)), tt))

pub without_prices_four : cost two_flows one_each (0 ∷ 1 ∷ []) longer_first_slots ≤ 4 * bound two_flows no_prices + slack two_flows one_each no_prices
without_prices_four = four_bound_law equal_weights no_prices longer_first_slots equal_instance no_prices_certificate no_prices_feasible no_prices_greatest two_flows_hold.valid
    two_flows_hold.patient

pub second_is_short : end_of longer_first_slots 1 + units_of two_flows 1 ≤
    load_of_all two_flows (up_to (0 ∷ 1 ∷ []) 1) (ingress_port two_flows 1) + load_of_all two_flows (up_to (0 ∷ 1 ∷ []) 1) (egress_port two_flows 1)
second_is_short = short_law two_flows (0 ∷ 1 ∷ []) longer_first_slots 1 two_flows_hold.valid two_flows_hold.patient (omega arith) (in_tail 0 (1 ∷ []) 1 (in_first 1 []))
