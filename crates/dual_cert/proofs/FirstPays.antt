-- A feasible certificate that is not the ordering one, and its bound.
use Rattle.std.proofs.Common.{◌≡◌, ℕ, ◌<◌, ◌≤◌, ◌⊎◌, inl, inr, List, [], ◌∷◌, Contains, refl, sym, subst, arith}
use Rattle.std.specs.Prelude.{All}
use Rattle.std.proofs.lemmas.Bool.{cases_eq}
use Rattle.std.proofs.lemmas.List.Elements.{All-cons, All-nil}
use Rattle.coflow_units.specs.declared.fabric.Side.TheVariants.{Ingress}
use Rattle.coflow_units.specs.Schedule.{IsValid}
use Rattle.coflow_units.specs.Completion.{cost}
use Rattle.coflow_units.specs.Certificate.{Entry, IsCertificate, IsFeasible, bound, budget, used}
use Rattle.coflow_units.specs.Rows.{equal_weights}
use Rattle.coflow_units.proofs.CertificateSteps.{used_outside}
use Rattle.coflow_units.proofs.Sums.{all_of_members, first_or_tail, in_first, in_tail, nothing_in, pairs_from_apart, not_the_other}
use Rattle.dual_cert.specs.OtherCertificate.{first_pays}
use Rattle.dual_cert.proofs.DualLaw.{bound_law}

one_of_two : (c : ℕ) → Contains (1 ∷ 0 ∷ []) c → (c ≡ 1) ⊎ (c ≡ 0)
one_of_two c has = elim (first_or_tail 1 (0 ∷ []) c has) [
  | inl e ↦ inl (sym e)
  | inr later ↦ elim (first_or_tail 0 [] c later) [
    | inl e ↦ inr (sym e)
    | inr none ↦ absurd (nothing_in c none)
  ]
]

turned : (c : ℕ) → Contains (0 ∷ 1 ∷ []) c → Contains (1 ∷ 0 ∷ []) c
turned c has = elim (first_or_tail 0 (1 ∷ []) c has) [
  | inl e ↦ subst (λ n. Contains (1 ∷ 0 ∷ []) n) e (in_tail 1 (0 ∷ []) 0 (in_first 0 []))
  | inr later ↦ elim (first_or_tail 1 [] c later) [
    | inl e ↦ subst (λ n. Contains (1 ∷ 0 ∷ []) n) e (in_first 1 (0 ∷ []))
    | inr none ↦ absurd (nothing_in c none)
  ]
]

back : (c : ℕ) → Contains (1 ∷ 0 ∷ []) c → Contains (0 ∷ 1 ∷ []) c
back c has = elim (one_of_two c has) [
  | inl e ↦ subst (λ n. Contains (0 ∷ 1 ∷ []) n) (sym e) (in_tail 0 (1 ∷ []) 1 (in_first 1 []))
  | inr e ↦ subst (λ n. Contains (0 ∷ 1 ∷ []) n) (sym e) (in_first 0 (1 ∷ []))
]

first_pays_ports : All (λ (e : Entry). e.port.number < 3) first_pays
first_pays_ports =
    let free : Entry = record { coflow = 1; port = record { side = Ingress; number = 0 }; y = 0 } in
    let pays : Entry = record { coflow = 0; port = record { side = Ingress; number = 0 }; y = 366503875925 } in
    let P = λ (e : Entry). e.port.number < 3 in
    All-cons P free (pays ∷ []) (omega arith) (All-cons P pays [] (omega arith) (All-nil P))

pub first_pays_certificate : IsCertificate equal_weights first_pays
first_pays_certificate = record {
  once = pairs_from_apart (1 ∷ 0 ∷ []) (not_the_other, ((λ none. nothing_in 0 none), tt));
  coflow = all_of_members (Contains (0 ∷ 1 ∷ [])) (1 ∷ 0 ∷ []) back;
  all = all_of_members (Contains (1 ∷ 0 ∷ [])) (0 ∷ 1 ∷ []) turned;
  port = first_pays_ports;
}

pub first_pays_feasible : IsFeasible equal_weights.flows equal_weights.weight first_pays
first_pays_feasible c = elim (cases_eq c 0) [
  | inl e ↦ subst (λ n. used equal_weights.flows first_pays n ≤ budget equal_weights.weight n) (sym e) (omega arith)
  | inr ne ↦ elim (cases_eq c 1) [
    | inl e ↦ subst (λ n. used equal_weights.flows first_pays n ≤ budget equal_weights.weight n) (sym e) (omega arith)
    | inr ne' ↦ omega (
      arith,
      used_outside equal_weights.flows first_pays c (λ has. elim (one_of_two c has) [
        | inl e ↦ ne' e
        | inr e ↦ ne e
      ]),
    )
  ]
]

pub first_pays_bound : bound equal_weights.flows first_pays ≡ 3
first_pays_bound = refl

pub first_pays_cost : (slots : List (List ℕ)) → IsValid equal_weights.flows slots → 3 ≤ cost equal_weights.flows equal_weights.weight equal_weights.coflows slots
first_pays_cost slots valid = bound_law equal_weights first_pays slots first_pays_certificate first_pays_feasible valid
