-- What the slots of a schedule carry through a port.
use Rattle.std.proofs.Common.{◌≡◌, ℕ, ◌+◌, ◌*◌, ◌≤◌, ◌<◌, inl, inr, Bool, true, false, cond, List, [], ◌∷◌, length, Contains, refl, sym, ap, subst, ◌∙◌, arith}
use Rattle.std.specs.Prelude.{sum_by, ◌==◌, ◌||◌, ◌&&◌}
use Rattle.std.specs.List.{range_with_len}
use Rattle.std.specs.List.Sorted.{IsStrictlyIncreasing}
use Rattle.std.proofs.lemmas.List.Sums.{sum_by-cons}
use Rattle.std.proofs.lemmas.List.Elements.{All-contains}
use Rattle.std.proofs.lemmas.Bool.{cases_Bool, or_parts, eqb-true, ne_eqb}
use Rattle.coflow_units.specs.declared.fabric.Flow.{Flow}
use Rattle.coflow_units.specs.declared.fabric.Port.{Port}
use Rattle.coflow_units.specs.declared.fabric.Side.{Side}
use Rattle.coflow_units.specs.declared.fabric.Side.TheVariants.{Ingress, Egress}
use Rattle.coflow_units.specs.Flows.{flow_at, coflow_of, units_of, uses, end_at, SharesPort}
use Rattle.coflow_units.specs.Load.{load, load_of_all, squares_of_loads, loads}
use Rattle.coflow_units.specs.Schedule.{holds, times, IsClear, IsValid}
use Rattle.coflow_units.specs.Completion.{completion, holds_coflow}
use Rattle.coflow_units.proofs.GrantLaws.{above_first, tail_rises}
use Rattle.schedule_model.proofs.ParallelLaw.{parallel_core}
use Rattle.coflow_units.proofs.Sums.{in_first, in_tail, sum_same, sum_mono, sum_add, sum_scale, sum_zero, sum_swap, Apart, picked_one}
use Rattle.coflow_units.proofs.Lists.{number_below, numbers_apart, number_in, by_number}

-- how many flows of the slot are of the coflow and use the port
abbrev pub carries : List Flow → Port → ℕ → List ℕ → ℕ
carries flows port coflow slot = sum_by (λ f. cond (loads coflow port (flow_at flows f)) 1 0) slot

-- of a list of coflows without repetition, a flow is of at most one
coflow_none : (u : Bool) (a : ℕ) (cs : List ℕ) → (Contains cs a → ⊥) → sum_by (λ c. cond ((a == c) && u) 1 0) cs ≡ 0
coflow_none u a [] out = refl
coflow_none u a (x ∷ xs) out =
    let e = ne_eqb a x (λ e. out (subst (λ n. Contains (x ∷ xs) n) (sym e) (in_first x xs))) in
    omega (arith, sum_by-cons (λ c. cond ((a == c) && u) 1 0) x xs, ap {B = ℕ} (λ b. cond (b && u) 1 0) e, coflow_none u a xs (λ has. out (in_tail x xs a has)))

coflow_most : (u : Bool) (a : ℕ) (cs : List ℕ) → Apart cs → sum_by (λ c. cond ((a == c) && u) 1 0) cs ≤ cond u 1 0
coflow_most u a [] apart = omega arith
coflow_most u a (x ∷ xs) apart = elim (cases_Bool (a == x)) [
  | inl e ↦
      let same = eqb-true a x e in
      omega (arith, sum_by-cons (λ c. cond ((a == c) && u) 1 0) x xs, ap {B = ℕ} (λ b. cond (b && u) 1 0) e, coflow_none u a xs (λ h. apart.0 (subst (λ n. Contains xs n) same h)))
  | inr e ↦ omega (arith, sum_by-cons (λ c. cond ((a == c) && u) 1 0) x xs, ap {B = ℕ} (λ b. cond (b && u) 1 0) e, coflow_most u a xs apart.1)
]

-- two flows that use one port share it
same_end : (flows : List Flow) (side : Side) (f g : ℕ) → end_at side (flow_at flows f) ≡ end_at side (flow_at flows g) → SharesPort flows f g
same_end flows Ingress f g e = inl e
same_end flows Egress f g e = inr e

pub both_use : (flows : List Flow) (port : Port) (f g : ℕ) → uses port (flow_at flows f) ≡ true → uses port (flow_at flows g) ≡ true → SharesPort flows f g
both_use flows port f g uf ug =
    same_end flows port.side f g (eqb-true (end_at port.side (flow_at flows f)) port.number uf ∙ sym (eqb-true (end_at port.side (flow_at flows g)) port.number ug))

not_true : (b : Bool) → (b ≡ true → ⊥) → b ≡ false
not_true true out = absurd (out refl)
not_true false out = refl

-- at most one flow of a clear slot uses the port
uses_none : (flows : List Flow) (port : Port) (slot : List ℕ) → ((f : ℕ) → Contains slot f → uses port (flow_at flows f) ≡ true → ⊥) →
    sum_by (λ f. cond (uses port (flow_at flows f)) 1 0) slot ≡ 0
uses_none flows port slot out =
    sum_same (λ f. cond (uses port (flow_at flows f)) 1 0) (λ f. 0) slot (λ f has. ap {B = ℕ} (λ b. cond b 1 0) (not_true (uses port (flow_at flows f)) (out f has))) ∙
    sum_zero slot

uses_most : (flows : List Flow) (port : Port) (slot : List ℕ) → IsStrictlyIncreasing slot → ((f g : ℕ) → Contains slot f → Contains slot g → SharesPort flows f g → f ≡ g) →
    sum_by (λ f. cond (uses port (flow_at flows f)) 1 0) slot ≤ 1
uses_most flows port [] up apart = omega arith
uses_most flows port (x ∷ xs) up apart = elim (cases_Bool (uses port (flow_at flows x))) [
  | inl e ↦
      let none = uses_none flows port xs (λ f has u. omega (arith, apart x f (in_first x xs) (in_tail x xs f has) (both_use flows port x f e u), above_first x xs f up has)) in
      omega (arith, sum_by-cons (λ f. cond (uses port (flow_at flows f)) 1 0) x xs, ap {B = ℕ} (λ b. cond b 1 0) e, none)
  | inr e ↦ omega (
    arith,
    sum_by-cons (λ f. cond (uses port (flow_at flows f)) 1 0) x xs,
    ap {B = ℕ} (λ b. cond b 1 0) e,
    uses_most flows port xs (tail_rises x xs up) (λ f g hf hg. apart f g (in_tail x xs f hf) (in_tail x xs g hg)),
  )
]

-- a clear slot carries at most one unit of all these coflows through the port
pub one_per_slot : (flows : List Flow) (port : Port) (cs slot : List ℕ) → Apart cs → IsClear flows slot → sum_by (λ c. carries flows port c slot) cs ≤ 1
one_per_slot flows port cs slot apart clear =
    let turned = sum_swap (λ c f. cond (loads c port (flow_at flows f)) 1 0) cs slot in
    let each = sum_mono (λ f. sum_by (λ c. cond (loads c port (flow_at flows f)) 1 0) cs) (λ f. cond (uses port (flow_at flows f)) 1 0) slot
    (λ f has. coflow_most (uses port (flow_at flows f)) (coflow_of flows f) cs apart) in
    omega (arith, turned, each, uses_most flows port slot clear.ascending clear.apart)

-- a slot that holds no flow of the coflow carries nothing of it
pub carries_none : (flows : List Flow) (port : Port) (c : ℕ) (slot : List ℕ) → holds_coflow flows slot c ≡ false → carries flows port c slot ≡ 0
carries_none flows port c [] out = refl
carries_none flows port c (x ∷ xs) out =
    let (here, later) = or_parts (coflow_of flows x == c) (holds_coflow flows xs c) out in
    omega (
      arith,
      sum_by-cons (λ f. cond (loads c port (flow_at flows f)) 1 0) x xs,
      ap {B = ℕ} (λ b. cond (b && uses port (flow_at flows x)) 1 0) here,
      carries_none flows port c xs later,
    )

-- a sum over the slot is a sum over all flow numbers that takes those in the slot
holds_not : (slot : List ℕ) (f : ℕ) → (Contains slot f → ⊥) → holds slot f ≡ false
holds_not [] f out = refl
holds_not (x ∷ xs) f out = rw (ne_eqb x f (λ e. out (subst (λ n. Contains (x ∷ xs) n) e (in_first x xs)))) (holds_not xs f (λ has. out (in_tail x xs f has)))

split_at : (a b : Bool) (n : ℕ) → (a ≡ true → b ≡ false) → cond (a || b) n 0 ≡ cond a n 0 + cond b n 0
split_at true b n out = rw (out refl) (omega arith)
split_at false b n out = omega arith

through_slot : (w : ℕ → ℕ) (numbers slot : List ℕ) → Apart numbers → IsStrictlyIncreasing slot → ((f : ℕ) → Contains slot f → Contains numbers f) →
    sum_by w slot ≡ sum_by (λ f. cond (holds slot f) (w f) 0) numbers
through_slot w numbers [] apart up all = sym (sum_zero numbers)
through_slot w numbers (x ∷ xs) apart up all =
    let split = sum_same (λ f. cond (holds (x ∷ xs) f) (w f) 0) (λ f. cond (x == f) (w f) 0 + cond (holds xs f) (w f) 0) numbers
    (λ f has. split_at (x == f) (holds xs f) (w f) (λ e. holds_not xs f (λ h. omega (arith, eqb-true x f e, above_first x xs f up h)))) in
    omega (
      arith,
      sum_by-cons w x xs,
      split,
      sum_add (λ f. cond (x == f) (w f) 0) (λ f. cond (holds xs f) (w f) 0) numbers,
      picked_one x w numbers apart (all x (in_first x xs)),
      through_slot w numbers xs apart (tail_rises x xs up) (λ f has. all f (in_tail x xs f has)),
    )

-- through a port a schedule carries of a coflow what each flow has on it as often as the flow stands there
cond_scales : (b : Bool) (n : ℕ) → cond b n 0 ≡ n * cond b 1 0
cond_scales true n = omega arith
cond_scales false n = omega arith

cond_units : (b : Bool) (n : ℕ) → cond b 1 0 * n ≡ cond b n 0
cond_units true n = omega arith
cond_units false n = omega arith

pub carried_by_times : (flows : List Flow) (w : ℕ → ℕ) (slots : List (List ℕ)) → ((h : List ℕ) → Contains slots h → IsClear flows h) →
    sum_by (λ h. sum_by w h) slots ≡ sum_by (λ f. w f * times slots f) (range_with_len 0 (length flows))
carried_by_times flows w slots clear =
    let numbers = range_with_len 0 (length flows) in
    let each = sum_same (λ h. sum_by w h) (λ h. sum_by (λ f. cond (holds h f) (w f) 0) numbers) slots
    (λ h has. through_slot w numbers h (numbers_apart 0 (length flows)) (clear h has).ascending
    (λ f in'. number_in 0 (length flows) f (omega arith) (omega (arith, All-contains (λ x. x < length flows) h f (clear h has).flow in')))) in
    let scaled = sum_same (λ f. sum_by (λ h. cond (holds h f) (w f) 0) slots) (λ f. w f * times slots f) numbers
    (λ f has. sum_same (λ h. cond (holds h f) (w f) 0) (λ h. w f * cond (holds h f) 1 0) slots (λ h in'. cond_scales (holds h f) (w f)) ∙
    sum_scale (w f) (λ h. cond (holds h f) 1 0) slots) in
    each ∙ sum_swap (λ h f. cond (holds h f) (w f) 0) slots numbers ∙ scaled

pub carried_is_load : (flows : List Flow) (port : Port) (c : ℕ) (slots : List (List ℕ)) → IsValid flows slots → sum_by (carries flows port c) slots ≡ load flows c port
carried_is_load flows port c slots valid =
    let numbers = range_with_len 0 (length flows) in
    let w = λ (f : ℕ). cond {A = ℕ} (loads c port (flow_at flows f)) 1 0 in
    let counted = carried_by_times flows w slots (λ h has. All-contains (IsClear flows) slots h valid.clear has) in
    let units = sum_same (λ f. w f * times slots f) (λ f. cond (loads c port (flow_at flows f)) (units_of flows f) 0) numbers
    (λ f has. ap (λ n. w f * n) (valid.served f (omega (arith, number_below 0 (length flows) f has))) ∙ cond_units (loads c port (flow_at flows f)) (units_of flows f)) in
    counted ∙ units ∙ sym (by_number (λ (x : Flow). cond (loads c port x) x.units 0) (record { coflow = 0; ingress = 0; egress = 0; units = 0 }) flows)

pub parallel_law : (flows : List Flow) (slots : List (List ℕ)) (cs : List ℕ) (port : Port) → IsValid flows slots → Apart cs →
    load_of_all flows cs port * load_of_all flows cs port + squares_of_loads flows cs port ≤ 2 * sum_by (λ c. load flows c port * completion flows slots c) cs
parallel_law flows slots cs port valid apart =
    let m = λ (c : ℕ). sum_by (carries flows port c) slots in
    let is = λ (c : ℕ). carried_is_load flows port c slots valid in
    let core = parallel_core (carries flows port) (λ c h. holds_coflow flows h c) cs slots
    (λ h has. one_per_slot flows port cs h apart (All-contains (IsClear flows) slots h valid.clear has))
    (λ c h has out. carries_none flows port c h out) in
    let totals = sum_same m (λ c. load flows c port) cs (λ c has. is c) in
    let squares = sum_same (λ c. m c * m c) (λ c. load flows c port * load flows c port) cs (λ c has. ap (λ n. n * n) (is c)) in
    let ends = sum_same (λ c. m c * completion flows slots c) (λ c. load flows c port * completion flows slots c) cs (λ c has. ap (λ n. n * completion flows slots c) (is c)) in
    rw (← totals, ← squares, ← ends) core
