-- A flow that waits only while its ports serve no later coflow ends early.
use Rattle.std.proofs.Common.{◌≡◌, ℕ, ◌+◌, ◌≤◌, ◌<◌, inl, inr, Bool, true, false, cond, List, [], ◌∷◌, length, get_or, take, Contains, refl, sym, ap, subst, ◌∙◌, arith, suc}
use Rattle.std.proofs.Common.{le_refl}
use Rattle.std.specs.Prelude.{sum_by, count_by, ◌==◌}
use Rattle.std.proofs.lemmas.List.{get_or_default}
use Rattle.std.proofs.lemmas.List.Sums.{sum_by-cons}
use Rattle.std.proofs.lemmas.Bool.{cases_Bool, eq-eqb, and_from, both_ways}
use Rattle.coflow_units.specs.declared.fabric.Flow.{Flow}
use Rattle.coflow_units.specs.declared.fabric.Port.{Port}
use Rattle.coflow_units.specs.Flows.{flow_at, coflow_of, ingress_of, egress_of, units_of, uses, SharesPort}
use Rattle.coflow_units.specs.Load.{load, load_of_all, loads}
use Rattle.coflow_units.specs.Grants.{place_in}
use Rattle.coflow_units.specs.Schedule.{holds, times, IsValid}
use Rattle.coflow_units.specs.Completion.{last_where, end_of}
use Rattle.coflow_units.specs.Patient.{IsPatient, IsServedOrWaits, up_to, ingress_port, egress_port}
use Rattle.coflow_units.proofs.LinePlaces.{not_after}
use Rattle.schedule_model.proofs.Slots.{last_at_most, last_here_not}
use Rattle.coflow_units.proofs.Sums.{any_has, any_in, in_first, in_tail, member_within_sum, sum_add, sum_same, sum_swap}
use Rattle.schedule_model.proofs.SlotLoads.{carries, carried_is_load}
use Rattle.coflow_units.proofs.Numbers.{zero_or_more}

count_yes : {X : Type 0} (p : X → Bool) (x : X) (xs : List X) → p x ≡ true → count_by p (x ∷ xs) ≡ 1 + count_by p xs
count_yes p x xs e = sum_by-cons (λ y. cond (p y) 1 0) x xs ∙ ap {B = ℕ} (λ b. cond b 1 0 + count_by p xs) e

count_not : {X : Type 0} (p : X → Bool) (x : X) (xs : List X) → p x ≡ false → count_by p (x ∷ xs) ≡ count_by p xs
count_not p x xs e = sum_by-cons (λ y. cond (p y) 1 0) x xs ∙ ap {B = ℕ} (λ b. cond b 1 0 + count_by p xs) e ∙ omega arith

pub last_none : {X : Type 0} (p : X → Bool) (xs : List X) → count_by p xs ≡ 0 → last_where p xs ≡ 0
last_none p [] e = refl
last_none p (x ∷ xs) e = elim (cases_Bool (p x)) [
  | inl t ↦ absurd (omega (arith, count_yes p x xs t))
  | inr t ↦ last_here_not p x xs (last_none p xs (omega (arith, count_not p x xs t))) t
]

pub waiting : {X : Type 0} (p : X → Bool) (n : X → ℕ) (u : ℕ) (xs : List X) →
    ((x : X) → Contains xs x → p x ≡ true → 2 ≤ n x) →
    ((t : ℕ) (d : X) → t < length xs → count_by p (take t xs) < u → p (get_or xs t d) ≡ false → 1 ≤ n (get_or xs t d)) →
    count_by p xs ≡ u → last_where p xs + u ≤ sum_by n xs
waiting p n u [] served company e = omega (arith, e)
waiting p n u (x ∷ xs) served company e = elim (zero_or_more u) [
  | inl none ↦ omega (arith, last_none p (x ∷ xs) (e ∙ none))
  | inr some ↦ elim (cases_Bool (p x)) [
    | inl t ↦
        let later = waiting p n (count_by p xs) xs (λ y has. served y (in_tail x xs y has))
        (λ k d lt left out. company (suc k) d (omega arith) (omega (arith, count_yes p x (take k xs) t, count_yes p x xs t)) out) refl in
        omega (arith, later, last_at_most p x xs, count_yes p x xs t, sum_by-cons n x xs, served x (in_first x xs) t)
    | inr t ↦
        let later = waiting p n u xs (λ y has. served y (in_tail x xs y has)) (λ k d lt left out. company (suc k) d (omega arith) (omega (arith, count_not p x (take k xs) t)) out)
        (sym (count_not p x xs t) ∙ e) in
        omega (arith, later, last_at_most p x xs, sum_by-cons n x xs, company 0 x (omega arith) some t)
  ]
]

-- a flow in the slot that uses the port and is of one of the coflows counts
pub entry_carries : (flows : List Flow) (port : Port) (cs slot : List ℕ) (g : ℕ) → Contains slot g → Contains cs (coflow_of flows g) → uses port (flow_at flows g) ≡ true →
    1 ≤ sum_by (λ c. carries flows port c slot) cs
entry_carries flows port cs slot g has in' u =
    let c = coflow_of flows g in
    let here = ap {B = ℕ} (λ b. cond b 1 0) (and_from (c == c) (uses port (flow_at flows g)) (eq-eqb c c refl) u) in
    let one = member_within_sum (λ f. cond (loads c port (flow_at flows f)) 1 0) slot g has in
    omega (arith, here, one, member_within_sum (λ k. carries flows port k slot) cs c in')

pub carried_of_all : (flows : List Flow) (port : Port) (cs : List ℕ) (slots : List (List ℕ)) → IsValid flows slots →
    sum_by (λ h. sum_by (λ c. carries flows port c h) cs) slots ≡ load_of_all flows cs port
carried_of_all flows port cs slots valid = sum_swap (λ h c. carries flows port c h) slots cs ∙
    sum_same (λ c. sum_by (carries flows port c) slots) (λ c. load flows c port) cs (λ c has. carried_is_load flows port c slots valid)

pub two : (a b : ℕ) → 1 ≤ a → 1 ≤ b → 2 ≤ a + b
two a b la lb = omega arith

-- the units of these coflows that a slot carries through the flow's two ports
abbrev at_ports : List Flow → List ℕ → ℕ → List ℕ → ℕ
at_ports flows cs f h = sum_by (λ c. carries flows (ingress_port flows f) c h) cs + sum_by (λ c. carries flows (egress_port flows f) c h) cs

shared_counts : (flows : List Flow) (cs slot : List ℕ) (f g : ℕ) → Contains slot g → Contains cs (coflow_of flows g) → SharesPort flows g f → 1 ≤ at_ports flows cs f slot
shared_counts flows cs slot f g has in' (inl e) = omega (arith, entry_carries flows (ingress_port flows f) cs slot g has in' (eq-eqb (ingress_of flows g) (ingress_of flows f) e))
shared_counts flows cs slot f g has in' (inr e) = omega (arith, entry_carries flows (egress_port flows f) cs slot g has in' (eq-eqb (egress_of flows g) (egress_of flows f) e))

self_counts : (flows : List Flow) (cs slot : List ℕ) (f : ℕ) → Contains slot f → Contains cs (coflow_of flows f) → 2 ≤ at_ports flows cs f slot
self_counts flows cs slot f has in' =
    two _ _ (entry_carries flows (ingress_port flows f) cs slot f has in' (eq-eqb (ingress_of flows f) (ingress_of flows f) refl))
    (entry_carries flows (egress_port flows f) cs slot f has in' (eq-eqb (egress_of flows f) (egress_of flows f) refl))

keeps_company : (flows : List Flow) (order : List ℕ) (slot : List ℕ) (f : ℕ) → Contains order (coflow_of flows f) → IsServedOrWaits flows order slot f → holds slot f ≡ false →
    1 ≤ at_ports flows (up_to order (coflow_of flows f)) f slot
keeps_company flows order slot f has (inl in') out = absurd (both_ways (holds slot f) out (any_in slot f in'))
keeps_company flows order slot f has (inr (g, in', shares, le)) out =
    shared_counts flows (up_to order (coflow_of flows f)) slot f g in' (not_after order (coflow_of flows f) (coflow_of flows g) has le) shares

pub short_law : (flows : List Flow) (order : List ℕ) (slots : List (List ℕ)) (f : ℕ) → IsValid flows slots → IsPatient flows order slots → f < length flows →
    Contains order (coflow_of flows f) →
    end_of slots f + units_of flows f ≤ load_of_all flows (up_to order (coflow_of flows f)) (ingress_port flows f) +
    load_of_all flows (up_to order (coflow_of flows f)) (egress_port flows f)
short_law flows order slots f valid patient lt has =
    let cs = up_to order (coflow_of flows f) in
    let self = not_after order (coflow_of flows f) (coflow_of flows f) has (le_refl (place_in order (coflow_of flows f))) in
    let served = λ (h : List ℕ) (in' : Contains slots h) (t : holds h f ≡ true). self_counts flows cs h f (any_has h f t) self in
    let company = λ (t : ℕ) (d : List ℕ) (in' : t < length slots) (left : times (take t slots) f < units_of flows f) (out : holds (get_or slots t d) f ≡ false).
    keeps_company flows order (get_or slots t d) f has (subst (λ h. IsServedOrWaits flows order h f) (get_or_default slots t [] d in') (patient t f in' lt left)) out in
    let long = waiting (λ h. holds h f) (at_ports flows cs f) (units_of flows f) slots served company (valid.served f lt) in
    omega (
      arith,
      long,
      sum_add (λ h. sum_by (λ c. carries flows (ingress_port flows f) c h) cs) (λ h. sum_by (λ c. carries flows (egress_port flows f) c h) cs) slots,
      carried_of_all flows (ingress_port flows f) cs slots valid,
      carried_of_all flows (egress_port flows f) cs slots valid,
    )
