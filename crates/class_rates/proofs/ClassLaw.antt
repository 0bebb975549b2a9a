-- A flow that waits only while its ports serve no flow of a later class ends early.
use Rattle.std.proofs.Common.{◌≡◌, ℕ, ◌+◌, ◌*◌, ◌≤◌, ◌<◌, inl, inr, Bool, true, false, cond}
use Rattle.std.proofs.Common.{List, [], ◌∷◌, length, get_or, take, Contains, refl, ap, subst, ◌∙◌, arith, le_trans}
use Rattle.std.specs.Prelude.{sum_by, count_by, ◌==◌}
use Rattle.std.proofs.Math.Nat.{le-max_left, le-max_right, mul-le-mul_left}
use Rattle.std.proofs.lemmas.List.{get_or_default}
use Rattle.std.proofs.lemmas.List.Elements.{All-contains}
use Rattle.std.proofs.lemmas.List.Sums.{sum_by-cons}
use Rattle.std.proofs.lemmas.Bool.{both_ways, eq-eqb, le-leb}
use Rattle.coflow_units.specs.Completion.{completion, cost, end_of}
use Rattle.coflow_units.specs.declared.fabric.Flow.{Flow}
use Rattle.coflow_units.specs.Flows.{Instance, IsInstance, SharesPort, coflow_of, egress_of, ingress_of, units_of}
use Rattle.coflow_units.specs.Patient.{egress_port, ingress_port}
use Rattle.coflow_units.specs.Schedule.{IsClear, IsValid, holds, times}
use Rattle.coflow_units.proofs.Lists.{keeps, number_in}
use Rattle.coflow_units.proofs.Numbers.{zero_or_more}
use Rattle.coflow_units.proofs.Sums.{any_has, any_in, first_or_tail, nothing_in, sum_add, sum_mono}
use Rattle.schedule_model.proofs.CoflowEnds.{some_flow}
use Rattle.schedule_model.proofs.SlotLoads.{carries}
use Rattle.schedule_model.proofs.WaitingLaw.{carried_of_all, entry_carries, last_none, waiting, two}
use Rattle.class_rates.specs.Cap.{cap, cap_of_coflow, cap_of_flow, greatest, up_to_class}
use Rattle.class_rates.specs.ClassPatient.{IsClassPatient, IsServedOrWaitsByClass}

-- a value is at most the greatest
pub greatest_has : (value : ℕ → ℕ) (xs : List ℕ) (x : ℕ) → Contains xs x → value x ≤ greatest value xs
greatest_has value [] x has = absurd (nothing_in x has)
greatest_has value (y ∷ ys) x has = elim (first_or_tail y ys x has) [
  | inl e ↦ omega (arith, ap value e, le-max_left (value y) (greatest value ys))
  | inr later ↦ le_trans (greatest_has value ys x later) (le-max_right (value y) (greatest value ys))
]

-- what stands in a slot is counted
counted : {X : Type 0} (p : X → Bool) (xs : List X) (x : X) → Contains xs x → p x ≡ true → 1 ≤ count_by p xs
counted p [] x has e = absurd (nothing_in x has)
counted p (y ∷ ys) x has e = elim (first_or_tail y ys x has) [
  | inl same ↦ omega (arith, sum_by-cons (λ z. cond (p z) 1 0) y ys, ap {B = ℕ} (λ b. cond b 1 0) (ap p same ∙ e))
  | inr later ↦ omega (arith, sum_by-cons (λ z. cond (p z) 1 0) y ys, counted p ys x later e)
]

-- a flow in a slot of a valid schedule is a flow, and its coflow is one of the instance
stands : (i : Instance) (slots : List (List ℕ)) (h : List ℕ) (g : ℕ) → IsInstance i → IsValid i.flows slots → Contains slots h → Contains h g →
    Contains i.coflows (coflow_of i.flows g)
stands i slots h g known valid inside has =
    let clear = All-contains (IsClear i.flows) slots h valid.clear inside in
    let lt : g < length i.flows = All-contains (λ x. x < length i.flows) h g clear.flow has in
    let some = counted (λ slot. holds slot g) slots h inside (any_in h g has) in
    known.coflow g (record { coflow = 0; ingress = 0; egress = 0; units = 0 }) lt (omega (arith, some, valid.served g lt))

-- the units of these coflows that a slot carries through the flow's two ports
abbrev at_both : List Flow → List ℕ → ℕ → List ℕ → ℕ
at_both flows cs f h = sum_by (λ c. carries flows (ingress_port flows f) c h) cs + sum_by (λ c. carries flows (egress_port flows f) c h) cs

shared : (flows : List Flow) (cs slot : List ℕ) (f g : ℕ) → Contains slot g → Contains cs (coflow_of flows g) → SharesPort flows g f → 1 ≤ at_both flows cs f slot
shared flows cs slot f g has in' (inl e) = omega (arith, entry_carries flows (ingress_port flows f) cs slot g has in' (eq-eqb (ingress_of flows g) (ingress_of flows f) e))
shared flows cs slot f g has in' (inr e) = omega (arith, entry_carries flows (egress_port flows f) cs slot g has in' (eq-eqb (egress_of flows g) (egress_of flows f) e))

itself : (flows : List Flow) (cs slot : List ℕ) (f : ℕ) → Contains slot f → Contains cs (coflow_of flows f) → 2 ≤ at_both flows cs f slot
itself flows cs slot f has in' =
    two _ _ (entry_carries flows (ingress_port flows f) cs slot f has in' (eq-eqb (ingress_of flows f) (ingress_of flows f) refl))
    (entry_carries flows (egress_port flows f) cs slot f has in' (eq-eqb (egress_of flows f) (egress_of flows f) refl))

in_class : (coflows : List ℕ) (class : ℕ → ℕ) (q c : ℕ) → Contains coflows c → class c ≤ q → Contains (up_to_class coflows class q) c
in_class coflows class q c has le = keeps _ coflows c has (le-leb (class c) q le)

company_of : (i : Instance) (class : ℕ → ℕ) (slots : List (List ℕ)) (h : List ℕ) (f : ℕ) → IsInstance i → IsValid i.flows slots → Contains slots h →
    IsServedOrWaitsByClass i.flows class h f → holds h f ≡ false →
    1 ≤ at_both i.flows (up_to_class i.coflows class (class (coflow_of i.flows f))) f h
company_of i class slots h f known valid inside (inl has) out = absurd (both_ways (holds h f) out (any_in h f has))
company_of i class slots h f known valid inside (inr (g, has, shares, le)) out =
    shared i.flows (up_to_class i.coflows class (class (coflow_of i.flows f))) h f g has
    (in_class i.coflows class (class (coflow_of i.flows f)) (coflow_of i.flows g) (stands i slots h g known valid inside has) le) shares

slot_in : (slots : List (List ℕ)) (t : ℕ) (d : List ℕ) → t < length slots → Contains slots (get_or slots t d)
slot_in slots t d lt = (t, lt, get_or_default slots t (get_or slots t d) d lt)

pub flow_law : (i : Instance) (class : ℕ → ℕ) (slots : List (List ℕ)) (f : ℕ) → IsInstance i → IsValid i.flows slots → IsClassPatient i.flows class slots →
    f < length i.flows → end_of slots f ≤ cap_of_flow i.flows i.coflows class f
flow_law i class slots f known valid patient lt = elim (zero_or_more (units_of i.flows f)) [
  | inl none ↦ omega (arith, last_none (λ h. holds h f) slots (valid.served f lt ∙ none))
  | inr some ↦
      let cs = up_to_class i.coflows class (class (coflow_of i.flows f)) in
      let own = known.coflow f (record { coflow = 0; ingress = 0; egress = 0; units = 0 }) lt some in
      let self = in_class i.coflows class (class (coflow_of i.flows f)) (coflow_of i.flows f) own (omega arith) in
      let served = λ (h : List ℕ) (in' : Contains slots h) (t : holds h f ≡ true). itself i.flows cs h f (any_has h f t) self in
      let company = λ (t : ℕ) (d : List ℕ) (in' : t < length slots) (left : times (take t slots) f < units_of i.flows f) (out : holds (get_or slots t d) f ≡ false).
      company_of i class slots (get_or slots t d) f known valid (slot_in slots t d in')
      (subst (λ h. IsServedOrWaitsByClass i.flows class h f) (get_or_default slots t [] d in') (patient t f in' lt left)) out in
      let long = waiting (λ h. holds h f) (at_both i.flows cs f) (units_of i.flows f) slots served company (valid.served f lt) in
      omega (
        arith,
        long,
        sum_add (λ h. sum_by (λ c. carries i.flows (ingress_port i.flows f) c h) cs) (λ h. sum_by (λ c. carries i.flows (egress_port i.flows f) c h) cs) slots,
        carried_of_all i.flows (ingress_port i.flows f) cs slots valid,
        carried_of_all i.flows (egress_port i.flows f) cs slots valid,
      )
]

pub coflow_law : (i : Instance) (class : ℕ → ℕ) (slots : List (List ℕ)) (c : ℕ) → IsInstance i → IsValid i.flows slots → IsClassPatient i.flows class slots →
    completion i.flows slots c ≤ cap_of_coflow i.flows i.coflows class c
coflow_law i class slots c known valid patient = elim (some_flow i.flows slots c) [
  | inl none ↦ omega (arith, none)
  | inr w ↦
      let lt : w.flow < length i.flows =
      All-contains (λ x. x < length i.flows) w.slot w.flow (All-contains (IsClear i.flows) slots w.slot valid.clear w.inside).flow w.has in
      let short = flow_law i class slots w.flow known valid patient lt in
      let value = λ (f : ℕ). cond {A = ℕ} (coflow_of i.flows f == c) (cap_of_flow i.flows i.coflows class f) 0 in
      let here = ap (λ b. cond {A = ℕ} b (cap_of_flow i.flows i.coflows class w.flow) 0) (eq-eqb (coflow_of i.flows w.flow) c w.of) in
      omega (arith, w.end, short, here, greatest_has value _ w.flow (number_in 0 (length i.flows) w.flow (omega arith) (omega (arith, lt))))
]

pub cost_law : (i : Instance) (class : ℕ → ℕ) (slots : List (List ℕ)) → IsInstance i → IsValid i.flows slots → IsClassPatient i.flows class slots →
    cost i.flows i.weight i.coflows slots ≤ cap i.flows i.weight i.coflows class
cost_law i class slots known valid patient =
    sum_mono (λ c. i.weight c * completion i.flows slots c) (λ c. i.weight c * cap_of_coflow i.flows i.coflows class c) i.coflows
    (λ c has. mul-le-mul_left (i.weight c) (coflow_law i class slots c known valid patient))
