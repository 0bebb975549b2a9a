-- How many units of a flow the wires have.
use Rattle.std.proofs.Common.{◌≡◌, ℕ, ◌+◌, Bool, true, false, true≢false, List, [], ◌∷◌, ◌++◌, Contains, inl, inr, refl, sym, ap, subst, ◌∙◌, arith, zero, suc, cond, Option, Some}
use Rattle.std.proofs.Common.{None, unwrap_or}
use Rattle.std.specs.Prelude.{All, ◌==◌, if◌then◌else◌, sum_by}
use Rattle.std.specs.List.{flat_map}
use Rattle.std.proofs.lemmas.Bool.{cases_Bool, cases_eq, eq-eqb, eqb-true, ne_eqb}
use Rattle.std.proofs.lemmas.List.Sums.{sum_by-append, sum_by-cons}
use Rattle.coflow_units.specs.declared.fabric.Flow.{Flow}
use Rattle.coflow_units.specs.Flows.{ingress_of}
use Rattle.coflow_units.specs.Schedule.{IsClear}
use Rattle.coflow_units.proofs.Sums.{any_has}
use Rattle.journal.specs.declared.command.Entry.{Entry}
use Rattle.journal.specs.declared.opening.Opening.{Opening}
use Rattle.journal.specs.State.{has, Run}
use Rattle.journal.specs.Runs.{credit, grant_in, note_in}
use Rattle.journal.specs.Fold.{state_of}
use Rattle.journal.specs.Journal.{IsLegal}
use Rattle.journal.specs.Sound.{InRange}
use Rattle.journal.specs.Closed.{closed_runs, IsClosedRun, sent_at, sent_by, sent_run, units_on, wire_of}
use Rattle.journal.proofs.Ingresses.{grant_is, grant_none}
use Rattle.journal.proofs.RunsInOrder.{closed_sound}

none_if : (b : Bool) → ◌≡◌ {A = ℕ} (cond {A = ℕ} b 0 0) 0
none_if true = refl
none_if false = refl

units_run : (a g n f : ℕ) → units_on (sent_run a g n) f ≡ (if g == f then n else 0)
units_run a g zero f = sym (none_if (g == f))
units_run a g (suc n) f = ap (λ (b : Bool). units_on (cond b [] ((a, g, suc n) ∷ [])) f) (ne_eqb (suc n) 0 (λ e. omega (arith, e))) ∙ omega arith

-- a flow that is not granted gets no credit
no_credit : (flows : List Flow) (r : Run) (f : ℕ) → (has r.granted f ≡ true → ⊥) → credit flows r f ≡ 0
no_credit flows r f out = elim (cases_Bool (has r.granted f)) [
  | inl t ↦ absurd (out t)
  | inr t ↦ ap {B = ℕ} (λ b. if b then unwrap_or (note_in r.notes (ingress_of flows f)) r.slots else 0) t
]

no_units : (b : Bool) (n : ℕ) → (b ≡ true → n ≡ 0) → 0 ≡ (if b then n else 0)
no_units true n out = sym (out refl)
no_units false n out = refl

at_grant : (flows : List Flow) (r : Run) (port f : ℕ) (g : Option ℕ) → IsClear flows r.granted → grant_in flows r.granted port ≡ g →
    units_on (sent_by flows r g) f ≡ (if ingress_of flows f == port then credit flows r f else 0)
at_grant flows r port f None clear e =
    no_units (ingress_of flows f == port) (credit flows r f)
    (λ at. no_credit flows r f (λ in'. grant_none flows r.granted port f e (any_has r.granted f in') (eqb-true (ingress_of flows f) port at)))
at_grant flows r port f (Some g) clear e =
    let (in', here) = grant_is flows r.granted port g e in
    units_run r.first g (credit flows r g) f ∙ elim (cases_eq g f) [
      | inl same ↦
          ap {B = ℕ} (λ b. if b then credit flows r g else 0) (eq-eqb g f same) ∙ ap (credit flows r) same
          ∙ sym (ap {B = ℕ} (λ b. if b then credit flows r f else 0) (eq-eqb (ingress_of flows f) port (ap (ingress_of flows) (sym same) ∙ here)))
      | inr other ↦
          ap {B = ℕ} (λ b. if b then credit flows r g else 0) (ne_eqb g f other)
          ∙ no_units (ingress_of flows f == port) (credit flows r f)
          (λ at. no_credit flows r f (λ has'. other (clear.apart g f in' (any_has r.granted f has') (inl (here ∙ sym (eqb-true (ingress_of flows f) port at))))))
    ]

both_if : (b : Bool) (m n : ℕ) → (if b then m else 0) + (if b then n else 0) ≡ (if b then m + n else 0)
both_if true m n = refl
both_if false m n = refl

units_runs : (flows : List Flow) (next : ℕ) (runs : List Run) (port f : ℕ) → All (IsClosedRun flows next) runs →
    units_on (flat_map (sent_at flows port) runs) f ≡ (if ingress_of flows f == port then sum_by (λ r. credit flows r f) runs else 0)
units_runs flows next [] port f all = sym (none_if (ingress_of flows f == port))
units_runs flows next (r ∷ rs) port f all =
    let at = ingress_of flows f == port in
    let later = units_runs flows next rs port f (λ k d lt. all (suc k) d (omega arith)) in
    let here = at_grant flows r port f (grant_in flows r.granted port) (all 0 r (omega arith)).clear refl in
    sum_by-append (λ (x : ℕ × ℕ × ℕ). if x.1 == f then x.2 else 0) (sent_at flows port r) (flat_map (sent_at flows port) rs)
    ∙ ap (λ n. n + units_on (flat_map (sent_at flows port) rs) f) here ∙ ap (λ n. (if at then credit flows r f else 0) + n) later
    ∙ both_if at (credit flows r f) (sum_by (λ r. credit flows r f) rs) ∙ ap {B = ℕ} (λ n. if at then n else 0) (sym (sum_by-cons (λ r. credit flows r f) r rs))

-- the wire of a flow's ingress has as many units of it as were sent, and no other wire has any
pub wire_units : (o : Opening) (journal : List Entry) (port f : ℕ) → IsLegal o journal → InRange o journal →
    units_on (wire_of o journal port) f ≡ (if ingress_of o.table.flows f == port then (state_of o journal).sent f else 0)
wire_units o journal port f legal ok =
    let h = closed_sound o journal legal ok in
    units_runs o.table.flows (state_of o journal).next (closed_runs o journal) port f h.each
    ∙ ap {B = ℕ} (λ n. if ingress_of o.table.flows f == port then n else 0) (sym (h.sent_is f))
