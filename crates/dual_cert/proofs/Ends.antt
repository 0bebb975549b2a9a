-- When coflows end under a patient schedule.
use Rattle.std.proofs.Common.{◌≡◌, ℕ, ◌+◌, ◌*◌, ◌≤◌, ◌<◌, inl, inr, List, [], ◌∷◌, ◌++◌, reverse, length, take, Contains, refl, sym, ap, subst, ◌∙◌, arith, append_assoc}
use Rattle.std.proofs.Math.Seq.{take-append-add}
use Rattle.std.proofs.lemmas.List.Sums.{sum_by-cons, sum_by_push}
use Rattle.std.proofs.lemmas.List.Elements.{All-contains}
use Rattle.std.proofs.lemmas.Bool.{eq-eqb, ne_eqb}
use Rattle.coflow_units.specs.declared.fabric.Flow.{Flow}
use Rattle.coflow_units.specs.declared.fabric.Port.{Port}
use Rattle.coflow_units.specs.Flows.{Instance, IsInstance, coflow_of}
use Rattle.coflow_units.specs.Load.{load, load_of_all}
use Rattle.coflow_units.specs.Schedule.{IsClear, IsValid}
use Rattle.coflow_units.specs.Completion.{end_of, completion}
use Rattle.coflow_units.specs.Patient.{IsPatient, up_to, ingress_port, egress_port}
use Rattle.coflow_units.specs.Certificate.{Entry, front, front_load, TakesGreatestPorts}
use Rattle.schedule_model.proofs.CoflowEnds.{some_flow}
use Rattle.coflow_units.proofs.LinePlaces.{first_place, place_is}
use Rattle.coflow_units.proofs.Sums.{Apart, in_first, in_tail}
use Rattle.schedule_model.proofs.WaitingLaw.{short_law}
use Rattle.coflow_units.proofs.Lists.{reverse-cons, in_reverse, sum_reverse}

first_place_at : (xs ys : List ℕ) (c : ℕ) → (Contains xs c → ⊥) → first_place (xs ++ c ∷ ys) c ≡ length xs
first_place_at [] ys c out = rw (eq-eqb c c refl) refl
first_place_at (x ∷ xs) ys c out =
    rw (ne_eqb x c (λ e. out (subst (λ n. Contains (x ∷ xs) n) e (in_first x xs)))) (omega (arith, first_place_at xs ys c (λ has. out (in_tail x xs c has))))

up_to_at : (xs ys : List ℕ) (c : ℕ) → (Contains xs c → ⊥) → up_to (xs ++ c ∷ ys) c ≡ xs ++ c ∷ []
up_to_at xs ys c out = ap (λ n. take (n + 1) (xs ++ c ∷ ys)) (place_is (xs ++ c ∷ ys) c ∙ first_place_at xs ys c out) ∙ take-append-add xs (c ∷ ys) 1

load_up_to : (flows : List Flow) (port : Port) (before tail : List ℕ) (c : ℕ) → (Contains before c → ⊥) →
    load_of_all flows (up_to (reverse before ++ c ∷ tail) c) port ≡ load_of_all flows (c ∷ before) port
load_up_to flows port before tail c out =
    ap (λ l. load_of_all flows l port) (up_to_at (reverse before) tail c (λ has. out (in_reverse before c has)))
    ∙ sum_by_push (λ k. load flows k port) (reverse before) c
    ∙ omega (arith, sum_reverse (λ k. load flows k port) before, sum_by-cons (λ k. load flows k port) c before)

-- each placed coflow ends within twice the load of its front
abbrev pub EndsWithin : List Flow → (ℕ → ℕ) → List Entry → Type 0
EndsWithin flows ends [] = Unit {0}
EndsWithin flows ends (e ∷ before) = (ends e.coflow ≤ 2 * front_load flows (e ∷ before)) × EndsWithin flows ends before

in_middle : (xs ys : List ℕ) (c : ℕ) → Contains (xs ++ c ∷ ys) c
in_middle [] ys c = in_first c ys
in_middle (x ∷ xs) ys c = in_tail x (xs ++ c ∷ ys) c (in_middle xs ys c)

flow_within : (i : Instance) (order : List ℕ) (slots : List (List ℕ)) (e : Entry) (before : List Entry) (tail : List ℕ) (f : ℕ) → IsInstance i → IsValid i.flows slots →
    IsPatient i.flows order slots →
    order ≡ reverse (front before) ++ e.coflow ∷ tail → (Contains (front before) e.coflow → ⊥) →
    ((port : Port) → port.number < i.ports → load_of_all i.flows (front (e ∷ before)) port ≤ front_load i.flows (e ∷ before)) →
    f < length i.flows → coflow_of i.flows f ≡ e.coflow → completion i.flows slots e.coflow ≡ end_of slots f →
    completion i.flows slots e.coflow ≤ 2 * front_load i.flows (e ∷ before)
flow_within i order slots e before tail f inst valid patient split out best lt of end =
    let has : Contains order (coflow_of i.flows f) =
    subst (λ l. Contains l (coflow_of i.flows f)) (sym split)
    (subst (λ n. Contains (reverse (front before) ++ e.coflow ∷ tail) n) (sym of) (in_middle (reverse (front before)) tail e.coflow)) in
    let short = short_law i.flows order slots f valid patient lt has in
    let same = λ (port : Port). ap (λ n. load_of_all i.flows (up_to order n) port) of ∙ ap (λ l. load_of_all i.flows (up_to l e.coflow) port) split ∙
    load_up_to i.flows port (front before) tail e.coflow out in
    omega (
      arith,
      end,
      short,
      same (ingress_port i.flows f),
      same (egress_port i.flows f),
      best (ingress_port i.flows f) (inst.ingress f record { coflow = 0; ingress = 0; egress = 0; units = 0 } lt),
      best (egress_port i.flows f) (inst.egress f record { coflow = 0; ingress = 0; egress = 0; units = 0 } lt),
    )

pub ends_within : (i : Instance) (order : List ℕ) (slots : List (List ℕ)) (entries : List Entry) (tail : List ℕ) → IsInstance i → IsValid i.flows slots →
    IsPatient i.flows order slots →
    order ≡ reverse (front entries) ++ tail → Apart (front entries) → TakesGreatestPorts i.flows i.ports entries → EndsWithin i.flows (λ c. completion i.flows slots c) entries
ends_within i order slots [] tail inst valid patient e apart best = tt
ends_within i order slots (e ∷ before) tail inst valid patient is apart best =
    let c = e.coflow in
    let split : order ≡ reverse (front before) ++ c ∷ tail = is ∙ ap (λ l. l ++ tail) (reverse-cons c (front before)) ∙ append_assoc (reverse (front before)) (c ∷ []) tail in
    let later = ends_within i order slots before (c ∷ tail) inst valid patient split apart.1 best.1 in
    let here : completion i.flows slots c ≤ 2 * front_load i.flows (e ∷ before) = elim (some_flow i.flows slots c) [
      | inl none ↦ omega (arith, none)
      | inr w ↦ flow_within i order slots e before tail w.flow inst valid patient split apart.0 best.0
          (All-contains (λ x. x < length i.flows) w.slot w.flow (All-contains (IsClear i.flows) slots w.slot valid.clear w.inside).flow w.has) w.of w.end
    ] in
    (here, later)
