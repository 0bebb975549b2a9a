-- A coflow ends with one of its flows.
use Rattle.std.proofs.Common.{◌≡◌, ℕ, ◌+◌, ◌*◌, ◌≤◌, ◌<◌, ◌⊎◌, inl, inr, Bool, true, List, [], ◌∷◌, length, Contains, refl, sym, ap, subst, ◌∙◌, arith}
use Rattle.std.specs.Prelude.{◌==◌}
use Rattle.std.proofs.lemmas.List.Elements.{All-contains}
use Rattle.std.proofs.lemmas.Bool.{cases_Bool, eqb-true, eq-eqb}
use Rattle.coflow_units.specs.declared.fabric.Flow.{Flow}
use Rattle.coflow_units.specs.declared.fabric.Port.{Port}
use Rattle.coflow_units.specs.Flows.{coflow_of}
use Rattle.coflow_units.specs.Load.{load_of_all}
use Rattle.coflow_units.specs.Schedule.{holds, IsClear, IsValid}
use Rattle.coflow_units.specs.Completion.{last_where, end_of, completion, holds_coflow}
use Rattle.coflow_units.specs.Patient.{IsPatient, up_to, ingress_port, egress_port}
use Rattle.schedule_model.proofs.WaitingLaw.{short_law}
use Rattle.schedule_model.proofs.Slots.{last_later, last_here_yes, last_here_not}
use Rattle.coflow_units.proofs.Sums.{any_in, in_first, in_tail, any_has}
use Rattle.coflow_units.proofs.Numbers.{zero_or_more}
use Rattle.coflow_units.proofs.Lists.{any_where, any_from}

-- a test that holds less often holds last no later
last_mono : {X : Type 0} (p q : X → Bool) (xs : List X) → ((x : X) → p x ≡ true → q x ≡ true) → last_where p xs ≤ last_where q xs
last_mono p q [] to = omega arith
last_mono p q (x ∷ xs) to = elim (zero_or_more (last_where p xs)) [
  | inl none ↦ elim (cases_Bool (p x)) [
    | inl t ↦ elim (zero_or_more (last_where q xs)) [
      | inl e ↦ omega (arith, last_here_yes p x xs none t, last_here_yes q x xs e (to x t))
      | inr lt ↦ omega (arith, last_here_yes p x xs none t, last_later q x xs lt)
    ]
    | inr t ↦ omega (arith, last_here_not p x xs none t)
  ]
  | inr some ↦
      let before = last_mono p q xs to in
      omega (arith, last_later p x xs some, last_later q x xs (omega (arith, before)), before)
]

-- a coflow that ends has a flow that ends with it
pub record EndsWith (flows : List Flow) (slots : List (List ℕ)) (c : ℕ) : Type 0 where
  pub flow : ℕ
  pub slot : List ℕ
  pub inside : Contains slots slot
  pub has : Contains slot flow
  pub of : coflow_of flows flow ≡ c
  pub end : completion flows slots c ≡ end_of slots flow

holds_of : (flows : List Flow) (c f : ℕ) (slot : List ℕ) → coflow_of flows f ≡ c → holds slot f ≡ true → holds_coflow flows slot c ≡ true
holds_of flows c f slot e h = any_from (λ g. coflow_of flows g == c) slot f (any_has slot f h) (eq-eqb (coflow_of flows f) c e)

pub some_flow : (flows : List Flow) (slots : List (List ℕ)) (c : ℕ) → (completion flows slots c ≡ 0) ⊎ EndsWith flows slots c
some_flow flows [] c = inl refl
some_flow flows (h ∷ slots) c = elim (zero_or_more (completion flows slots c)) [
  | inl none ↦ elim (cases_Bool (holds_coflow flows h c)) [
    | inl t ↦
        let (f, has, at) = any_where (λ g. coflow_of flows g == c) h t in
        let of = eqb-true (coflow_of flows f) c at in
        let low = last_mono (λ slot. holds slot f) (λ slot. holds_coflow flows slot c) slots (λ slot in'. holds_of flows c f slot of in') in
        let zero_end : end_of slots f ≡ 0 = omega (arith, low, none) in
        inr (record {
          flow = f;
          slot = h;
          inside = in_first h slots;
          has = has;
          of = of;
          end = last_here_yes (λ slot. holds_coflow flows slot c) h slots none t ∙ sym (last_here_yes (λ slot. holds slot f) h slots zero_end (any_in h f has));
        })
    | inr t ↦ inl (last_here_not (λ slot. holds_coflow flows slot c) h slots none t)
  ]
  | inr some ↦ elim (some_flow flows slots c) [
    | inl none ↦ absurd (omega arith)
    | inr w ↦ inr (record {
      flow = w.flow;
      slot = w.slot;
      inside = in_tail h slots w.slot w.inside;
      has = w.has;
      of = w.of;
      end = last_later (λ slot. holds_coflow flows slot c) h slots some ∙ ap (λ n. n + 1) w.end ∙ sym (last_later (λ slot. holds slot w.flow) h slots (omega (arith, w.end)));
    })
  ]
]

-- under a patient schedule a coflow ends within twice the greatest load of the coflows up to it
pub coflow_short : (flows : List Flow) (order : List ℕ) (slots : List (List ℕ)) (c k : ℕ) → IsValid flows slots → IsPatient flows order slots → Contains order c →
    ((port : Port) → load_of_all flows (up_to order c) port ≤ k) → completion flows slots c ≤ 2 * k
coflow_short flows order slots c k valid patient has cap = elim (some_flow flows slots c) [
  | inl none ↦ omega (arith, none)
  | inr w ↦
      let lt = All-contains (λ x. x < length flows) w.slot w.flow (All-contains (IsClear flows) slots w.slot valid.clear w.inside).flow w.has in
      let in' : Contains order (coflow_of flows w.flow) = subst (λ n. Contains order n) (sym w.of) has in
      let short = short_law flows order slots w.flow valid patient lt in' in
      let same = λ (port : Port). ap (λ n. load_of_all flows (up_to order n) port) w.of in
      omega (arith, w.end, short, same (ingress_port flows w.flow), same (egress_port flows w.flow), cap (ingress_port flows w.flow), cap (egress_port flows w.flow))
]
