-- Ports that two flows of a slot use.
use Rattle.std.proofs.Common.{◌≡◌, ◌≢◌, ℕ, ◌+◌, ◌≤◌, ◌<◌, inl, inr, List, ◌∷◌, ◌++◌, length, Contains, refl, sym, subst}
use Rattle.std.specs.Prelude.{All}
use Rattle.std.specs.List.Sorted.{IsStrictlyIncreasing}
use Rattle.std.proofs.lemmas.Bool.{cases_eq, eqb-true, eq-eqb}
use Rattle.coflow_units.specs.declared.fabric.Flow.{Flow}
use Rattle.coflow_units.specs.declared.fabric.Port.{Port}
use Rattle.coflow_units.specs.declared.fabric.Side.{Side}
use Rattle.coflow_units.specs.declared.fabric.Side.TheVariants.{Ingress, Egress}
use Rattle.coflow_units.specs.Flows.{ingress_of, egress_of, SharesPort}
use Rattle.coflow_units.specs.Schedule.{IsClear}
use Rattle.schedule_model.specs.RunList.{NamesFlows}
use Rattle.schedule_model.specs.Repeat.{Repeats, end_number}
use Rattle.schedule_model.specs.Fault.{ClashesAt, IsFirstClash, number_no_later}
use Rattle.schedule_model.proofs.SlotLoads.{both_use}
use Rattle.schedule_model.proofs.Standing.{slot_before, stands_at, stands_before, stands_here, which_slot}

-- a slot without repeats is clear
shares_repeats : (flows : List Flow) (slot : List ℕ) (f g : ℕ) → ((p : ℕ) → Repeats flows Ingress slot p → ⊥) → ((p : ℕ) → Repeats flows Egress slot p → ⊥) → Contains slot f →
    Contains slot g → f ≢ g → SharesPort flows f g → ⊥
shares_repeats flows slot f g no_in no_out hf hg ne (inl e) =
    no_in (ingress_of flows g) (record { one = f; other = g; apart = ne; has_one = hf; has_other = hg; one_uses = e; other_uses = refl })
shares_repeats flows slot f g no_in no_out hf hg ne (inr e) =
    no_out (egress_of flows g) (record { one = f; other = g; apart = ne; has_one = hf; has_other = hg; one_uses = e; other_uses = refl })

pub clear_slot : (flows : List Flow) (slot : List ℕ) → IsStrictlyIncreasing slot → All (λ f. f < length flows) slot → ((p : ℕ) → Repeats flows Ingress slot p → ⊥) →
    ((p : ℕ) → Repeats flows Egress slot p → ⊥) → IsClear flows slot
clear_slot flows slot up names no_in no_out = record {
  ascending = up;
  flow = names;
  apart = λ f g hf hg shares. elim (cases_eq f g) [
    | inl e ↦ e
    | inr ne ↦ absurd (shares_repeats flows slot f g no_in no_out hf hg ne shares)
  ];
}

-- a clash in a slot is a repeat on the port's side
clash_repeats : (flows : List Flow) (before rest : List (List ℕ)) (h : List ℕ) (t : ℕ) (port : Port) → ClashesAt flows (before ++ (h ∷ rest)) t port → t ≡ length before + 1 →
    Repeats flows port.side h port.number
clash_repeats flows before rest h t port clash e = record {
  one = clash.one;
  other = clash.other;
  apart = clash.apart;
  has_one = stands_at before rest h t clash.one clash.one_stands e;
  has_other = stands_at before rest h t clash.other clash.other_stands e;
  one_uses = eqb-true (end_number flows port.side clash.one) port.number clash.one_uses;
  other_uses = eqb-true (end_number flows port.side clash.other) port.number clash.other_uses;
}

no_clash_before : (flows : List Flow) (before rest : List (List ℕ)) (t : ℕ) (port : Port) → All (IsClear flows) before → ClashesAt flows (before ++ rest) t port →
    t ≤ length before → ⊥
no_clash_before flows before rest t port clear clash le =
    let here = slot_before (IsClear flows) before t clear clash.one_stands.counted le in
    clash.apart (here.apart clash.one clash.other (stands_before before rest t clash.one clash.one_stands le) (stands_before before rest t clash.other clash.other_stands le)
    (both_use flows port clash.one clash.other clash.one_uses clash.other_uses))

repeat_clashes : (flows : List Flow) (before rest : List (List ℕ)) (h : List ℕ) (side : Side) (number : ℕ) → Repeats flows side h number →
    ClashesAt flows (before ++ (h ∷ rest)) (length before + 1) (record { side = side; number = number })
repeat_clashes flows before rest h side number twice = record {
  one = twice.one;
  other = twice.other;
  apart = twice.apart;
  one_stands = stands_here before rest h twice.one twice.has_one;
  other_stands = stands_here before rest h twice.other twice.has_other;
  one_uses = eq-eqb (end_number flows side twice.one) number twice.one_uses;
  other_uses = eq-eqb (end_number flows side twice.other) number twice.other_uses;
}

-- the first port that clashes in a slot
after_ingress : (side : Side) (a b : ℕ) → (side ≡ Ingress → a ≤ b) → number_no_later Ingress a side b
after_ingress Ingress a b le = le refl
after_ingress Egress a b le = tt

after_egress : (side : Side) (a b : ℕ) → (side ≡ Ingress → ⊥) → (side ≡ Egress → a ≤ b) → number_no_later Egress a side b
after_egress Ingress a b none le = none refl
after_egress Egress a b none le = le refl

pub first_clash : (flows : List Flow) (before rest : List (List ℕ)) (h : List ℕ) (side : Side) (number : ℕ) → NamesFlows (length flows) (before ++ (h ∷ rest)) →
    All (IsClear flows) before → Repeats flows side h number →
    ((other : Port) → Repeats flows other.side h other.number → number_no_later side number other.side other.number) →
    IsFirstClash flows (before ++ (h ∷ rest)) (length before + 1) (record { side = side; number = number })
first_clash flows before rest h side number names clear twice least = record {
  names = names;
  clashes = repeat_clashes flows before rest h side number twice;
  first = λ t other clash. elim (which_slot t (length before)) [
    | inl le ↦ absurd (no_clash_before flows before (h ∷ rest) t other clear clash le)
    | inr later ↦ elim later [
      | inl e ↦ inr (sym e, least other (clash_repeats flows before rest h t other clash e))
      | inr lt ↦ inl lt
    ]
  ];
}

on_side : (flows : List Flow) (h : List ℕ) (side other : Side) (number : ℕ) → other ≡ side → Repeats flows other h number → Repeats flows side h number
on_side flows h side other number e twice = subst (λ s. Repeats flows s h number) e twice

pub first_ingress_clash : (flows : List Flow) (before rest : List (List ℕ)) (h : List ℕ) (number : ℕ) → NamesFlows (length flows) (before ++ (h ∷ rest)) →
    All (IsClear flows) before → Repeats flows Ingress h number →
    ((p : ℕ) → Repeats flows Ingress h p → number ≤ p) → IsFirstClash flows (before ++ (h ∷ rest)) (length before + 1) (record { side = Ingress; number = number })
first_ingress_clash flows before rest h number names clear twice least =
    first_clash flows before rest h Ingress number names clear twice
    (λ other again. after_ingress other.side number other.number (λ e. least other.number (on_side flows h Ingress other.side other.number e again)))

pub first_egress_clash : (flows : List Flow) (before rest : List (List ℕ)) (h : List ℕ) (number : ℕ) → NamesFlows (length flows) (before ++ (h ∷ rest)) →
    All (IsClear flows) before → ((p : ℕ) → Repeats flows Ingress h p → ⊥) →
    Repeats flows Egress h number → ((p : ℕ) → Repeats flows Egress h p → number ≤ p) →
    IsFirstClash flows (before ++ (h ∷ rest)) (length before + 1) (record { side = Egress; number = number })
first_egress_clash flows before rest h number names clear none twice least =
    first_clash flows before rest h Egress number names clear twice
    (λ other again. after_egress other.side number other.number (λ e. none other.number (on_side flows h Ingress other.side other.number e again))
    (λ e. least other.number (on_side flows h Egress other.side other.number e again)))
