-- The last slot that passes a test, one run more.
use Rattle.std.proofs.Common.{◌≡◌, ℕ, ◌+◌, ◌≤◌, ◌<◌, inl, inr, Bool, true, false, cond, List, [], ◌∷◌, ◌++◌, length, get_or, take, replicate, refl, sym}
use Rattle.std.proofs.Common.{ap, ◌∙◌, arith, zero, suc}
use Rattle.std.proofs.Common.{append_assoc, append-nil}
use Rattle.std.specs.Prelude.{◌==◌, if◌then◌else◌}
use Rattle.std.proofs.lemmas.List.{length-append}
use Rattle.std.proofs.lemmas.Bool.{cases_Bool, false≢true, ne_eqb}
use Rattle.coflow_units.specs.declared.fabric.Flow.{Flow}
use Rattle.coflow_units.specs.declared.plan.Run.{Run}
use Rattle.coflow_units.specs.Completion.{completion, holds_coflow, last_where}
use Rattle.coflow_units.specs.Flows.{coflow_of}
use Rattle.coflow_units.proofs.Lists.{any_from, any_where}
use Rattle.run_list.specs.Runs.{flows_before, without}
use Rattle.schedule_model.specs.RunList.{IsKept, slots_in}
use Rattle.schedule_model.proofs.Changes.{flows_before_next, in_both_or_one, is_at_place, run_at_place, without_from}
use Rattle.schedule_model.proofs.RunSlots.{run_more, run_some}
use Rattle.schedule_model.proofs.Slots.{last_at_most}

-- one slot more
last_push_step : (l m n here : ℕ) (b : Bool) → l ≡ cond b (n + 1) m → (if l == 0 then here else l + 1) ≡ cond b (suc n + 1) (if m == 0 then here else m + 1)
last_push_step l m n here true e = ap (λ b. cond b here (l + 1)) (ne_eqb l 0 (λ h. omega (arith, e, h))) ∙ omega (arith, e)
last_push_step l m n here false e = ap (λ k. if k == 0 then here else k + 1) e

pub last_push : {X : Type 0} (p : X → Bool) (xs : List X) (x : X) → last_where p (xs ++ x ∷ []) ≡ (if p x then length xs + 1 else last_where p xs)
last_push p [] x = refl
last_push p (y ∷ ys) x = last_push_step (last_where p (ys ++ x ∷ [])) (last_where p ys) (length ys) (if p y then 1 else 0) (p x) (last_push p ys x)

run_step : {X : Type 0} (xs : List X) (x : X) (n : ℕ) → xs ++ replicate (suc n) x ≡ (xs ++ x ∷ []) ++ replicate n x
run_step xs x n = sym (append_assoc xs (x ∷ []) (replicate n x))

last_run_not : {X : Type 0} (p : X → Bool) (xs : List X) (x : X) (n : ℕ) → p x ≡ false → last_where p (xs ++ replicate n x) ≡ last_where p xs
last_run_not p xs x zero e = ap (last_where p) (append-nil xs)
last_run_not {X} p xs x (suc n) e =
    ap (last_where p) (run_step xs x n) ∙ last_run_not p (xs ++ x ∷ []) x n e ∙ last_push p xs x ∙ ap {B = ℕ} (λ b. if b then length xs + 1 else last_where p xs) e

last_run_yes : {X : Type 0} (p : X → Bool) (xs : List X) (x : X) (n : ℕ) → p x ≡ true → last_where p (xs ++ replicate (suc n) x) ≡ length xs + suc n
last_run_yes p xs x zero e = last_push p xs x ∙ ap {B = ℕ} (λ b. if b then length xs + 1 else last_where p xs) e
last_run_yes p xs x (suc n) e =
    ap (last_where p) (run_step xs x (suc n)) ∙ last_run_yes p (xs ++ x ∷ []) x n e ∙ omega (arith, length-append xs (x ∷ []))

pub last_run_step : {X : Type 0} (p : X → Bool) (xs : List X) (x : X) (n : ℕ) (b : Bool) → p x ≡ b → 1 ≤ n →
    last_where p (xs ++ replicate n x) ≡ cond b (length xs + n) (last_where p xs)
last_run_step p xs x zero b e some = absurd (omega arith)
last_run_step p xs x (suc n) true e some = last_run_yes p xs x n e
last_run_step p xs x (suc n) false e some = last_run_not p xs x (suc n) e

-- the completion with one run more
pub completion_more : (flows : List Flow) (runs : List Run) (k : ℕ) (r : Run) (c : ℕ) → IsKept runs → k < length runs → r ≡ get_or runs k r →
    completion flows (slots_in (take (k + 1) runs)) c ≡ cond (holds_coflow flows r.flows c) (length (slots_in (take k runs)) + r.length)
    (completion flows (slots_in (take k runs)) c)
completion_more flows runs k r c kept lt is =
    ap (λ s. completion flows s c) (run_more runs k r lt is)
    ∙ last_run_step (λ (slot : List ℕ). holds_coflow flows slot c) (slots_in (take k runs)) r.flows r.length (holds_coflow flows r.flows c) refl (run_some runs k r kept lt is)

-- a coflow that has no flow in the next slot has a flow among those that left just where it has one in this slot
left_coflow : (flows : List Flow) (before slot : List ℕ) (c : ℕ) → holds_coflow flows slot c ≡ false →
    holds_coflow flows (without before slot) c ≡ holds_coflow flows before c
left_coflow flows before slot c none = elim (cases_Bool (holds_coflow flows before c)) [
  | inl t ↦
      let (f, has, of) = any_where (λ g. coflow_of flows g == c) before t in
      elim (in_both_or_one before slot f has) [
        | inl also ↦ absurd (false≢true (sym none ∙ any_from (λ g. coflow_of flows g == c) slot f also of))
        | inr left ↦ any_from (λ g. coflow_of flows g == c) (without before slot) f left of ∙ sym t
      ]
  | inr t ↦ elim (cases_Bool (holds_coflow flows (without before slot) c)) [
    | inl some ↦
        let (f, has, of) = any_where (λ g. coflow_of flows g == c) (without before slot) some in
        absurd (false≢true (sym t ∙ any_from (λ g. coflow_of flows g == c) before f (without_from before slot f has).0 of))
    | inr also ↦ also ∙ sym t
  ]
]

-- the ends that were written are the completions, but for those of the coflows of the last run, which end no earlier than so many slots
pub ends_more : (flows : List Flow) (runs : List Run) (k c slot slots end next : ℕ) → IsKept runs → k < length runs → slot ≡ length (slots_in (take k runs)) →
    slots ≡ (run_at_place runs k).length →
    cond (holds_coflow flows (flows_before runs k) c) slot end ≡ completion flows (slots_in (take k runs)) c →
    next ≡ cond (holds_coflow flows (without (flows_before runs k) (run_at_place runs k).flows) c) slot end →
    cond (holds_coflow flows (flows_before runs (k + 1)) c) (slot + slots) next ≡ completion flows (slots_in (take (k + 1) runs)) c
ends_more flows runs k c slot slots end next kept lt so_far count were written =
    let r = run_at_place runs k in
    let more = completion_more flows runs k r c kept lt (is_at_place runs k lt) in
    let now = ap (λ (s : List ℕ). cond (holds_coflow flows s c) (slot + slots) next) (flows_before_next runs k) in
    let place : slot + slots ≡ length (slots_in (take k runs)) + r.length = omega arith in
    elim (cases_Bool (holds_coflow flows r.flows c)) [
      | inl t ↦ now ∙ ap {B = ℕ} (λ b. cond b (slot + slots) next) t ∙ place ∙
          sym (more ∙ ap {B = ℕ} (λ b. cond b (length (slots_in (take k runs)) + r.length) (completion flows (slots_in (take k runs)) c)) t)
      | inr t ↦ now ∙ ap {B = ℕ} (λ b. cond b (slot + slots) next) t ∙ written ∙
          ap {B = ℕ} (λ b. cond b slot end) (left_coflow flows (flows_before runs k) r.flows c t) ∙ were ∙
          sym (more ∙ ap {B = ℕ} (λ b. cond b (length (slots_in (take k runs)) + r.length) (completion flows (slots_in (take k runs)) c)) t)
    ]

pub last_within : {X : Type 0} (p : X → Bool) (xs : List X) → last_where p xs ≤ length xs
last_within p [] = omega arith
last_within p (x ∷ xs) = omega (arith, last_at_most p x xs, last_within p xs)
