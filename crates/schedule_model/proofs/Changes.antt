-- What changes from the flows of one run to those of the next.
use Rattle.std.proofs.Common.{◌≡◌, ℕ, ◌+◌, ◌-◌, ◌≤◌, ◌<◌, ◌⊎◌, inl, inr, Bool, false, cond, Contains, zero, suc, refl, sym, ap, subst, ◌∙◌, arith}
use Rattle.std.proofs.Common.{List, [], length, get_or, take, replicate, ◌++◌}
use Rattle.std.specs.Prelude.{All, not, nat_eq}
use Rattle.std.specs.List.{list_any}
use Rattle.std.proofs.lemmas.Bool.{cases_Bool, eqb-true, eq-eqb, false≢true}
use Rattle.std.proofs.lemmas.List.{get_or_default}
use Rattle.std.proofs.lemmas.List.Elements.{All-contains, All-filter}
use Rattle.coflow_units.specs.declared.plan.Run.{Run}
use Rattle.coflow_units.specs.Schedule.{holds}
use Rattle.coflow_units.proofs.Lists.{any_from, any_where, filter_in, keeps}
use Rattle.coflow_units.proofs.Sums.{all_of_members, any_has, any_in, any_not}
use Rattle.run_list.specs.Runs.{Walked, flows_before, run_of, without}
use Rattle.schedule_model.specs.RunList.{IsKept, slots_in}
use Rattle.schedule_model.proofs.RunSlots.{all_here, replicate_first, run_holds, slots_more}

-- what stands in one list and not in another
pub without_from : (xs ys : List ℕ) (f : ℕ) → Contains (without xs ys) f → Contains xs f × (Contains ys f → ⊥)
without_from xs ys f has =
    let (inside, kept) = filter_in (λ g. not (list_any (nat_eq g) ys)) xs f has in
    (inside, λ also. false≢true (sym (ap not (any_from (nat_eq f) ys f also (eq-eqb f f refl))) ∙ kept))

pub in_both_or_one : (xs ys : List ℕ) (f : ℕ) → Contains xs f → Contains ys f ⊎ Contains (without xs ys) f
in_both_or_one xs ys f has = elim (cases_Bool (list_any (nat_eq f) ys)) [
  | inl t ↦ let (g, also, same) = any_where (nat_eq f) ys t in inl (subst (Contains ys) (sym (eqb-true f g same)) also)
  | inr t ↦ inr (keeps (λ g. not (list_any (nat_eq g) ys)) xs f has (ap not t))
]

pub All-without : (P : ℕ → Type 0) (xs ys : List ℕ) → All P xs → All P (without xs ys)
All-without P xs ys all = All-filter (λ g. not (list_any (nat_eq g) ys)) P xs all

pub holds_without : (xs ys : List ℕ) (f : ℕ) → holds (without xs ys) f ≡ cond (holds ys f) false (holds xs f)
holds_without xs ys f = elim (cases_Bool (holds ys f)) [
  | inl t ↦ any_not (without xs ys) f (λ has. (without_from xs ys f has).1 (any_has ys f t)) ∙ sym (ap {B = Bool} (λ b. cond b false (holds xs f)) t)
  | inr t ↦ elim (cases_Bool (holds xs f)) [
    | inl s ↦ elim (in_both_or_one xs ys f (any_has xs f s)) [
      | inl also ↦ absurd (false≢true (sym t ∙ any_in ys f also))
      | inr has ↦ any_in (without xs ys) f has ∙ sym s ∙ sym (ap {B = Bool} (λ b. cond b false (holds xs f)) t)
    ]
    | inr s ↦ any_not (without xs ys) f (λ has. false≢true (sym s ∙ any_in xs f (without_from xs ys f has).0)) ∙ sym s ∙
        sym (ap {B = Bool} (λ b. cond b false (holds xs f)) t)
  ]
]

-- what holds of the flows of a slot and of the new ones of the next holds of all flows of that
pub all_of_next : (P : ℕ → Type 0) (before slot : List ℕ) → All P before → All P (without slot before) → All P slot
all_of_next P before slot old new = all_of_members P slot (λ f has. elim (in_both_or_one slot before f has) [
  | inl also ↦ All-contains P before f old also
  | inr came ↦ All-contains P (without slot before) f new came
])

-- the least new number that is not below the limit is the least such number
pub first_of_next : (limit f : ℕ) (before slot : List ℕ) → All (λ g. g < limit) before →
    Contains (without slot before) f × (limit ≤ f) × ((g : ℕ) → Contains (without slot before) g → limit ≤ g → f ≤ g) →
    Contains slot f × (limit ≤ f) × ((g : ℕ) → Contains slot g → limit ≤ g → f ≤ g)
first_of_next limit f before slot below (has, out, least) = (
  (without_from slot before f has).0,
  out,
  (λ g in' le. elim (in_both_or_one slot before g in') [
    | inl also ↦ absurd (omega (arith, le, All-contains (λ x. x < limit) before g below also))
    | inr came ↦ least g came le
  ]),
)

-- the run at a place
abbrev pub run_at_place : List Run → ℕ → Run
run_at_place runs k = get_or runs k (run_of 0 [])

pub is_at_place : (runs : List Run) (k : ℕ) → k < length runs → run_at_place runs k ≡ get_or runs k (run_at_place runs k)
is_at_place runs k lt = get_or_default runs k (run_of 0 []) (run_at_place runs k) lt

pub flows_before_next : (runs : List Run) (k : ℕ) → flows_before runs (k + 1) ≡ (run_at_place runs k).flows
flows_before_next runs k = let e : k + 1 ≡ suc k = omega arith in ap (flows_before runs) e

-- what holds of each slot holds of the flows of the run before
pub before_holds : (P : List ℕ → Type 0) (runs : List Run) (k : ℕ) → IsKept runs → k ≤ length runs → P [] → All P (slots_in runs) → P (flows_before runs k)
before_holds P runs zero kept le none all = none
before_holds P runs (suc k) kept le none all =
    let lt : k < length runs = omega arith in
    run_holds P runs k (run_at_place runs k) kept lt (is_at_place runs k lt) all

-- the same of each slot so far
pub before_holds_so_far : (P : List ℕ → Type 0) (runs : List Run) (k : ℕ) → IsKept runs → k ≤ length runs → P [] → All P (slots_in (take k runs)) → P (flows_before runs k)
before_holds_so_far P runs zero kept le none all = none
before_holds_so_far P runs (suc k) kept le none all =
    let r = run_at_place runs k in
    let lt : k < length runs = omega arith in
    let e : suc k ≡ k + 1 = omega arith in
    let split = ap (λ n. slots_in (take n runs)) e ∙ slots_more runs k (run_of 0 []) lt ∙
    ap (λ x. slots_in (take k runs) ++ x) (replicate_first r.length r.flows (kept.some k (run_of 0 []) lt)) in
    all_here P (slots_in (take k runs)) (replicate (r.length - 1) r.flows) r.flows (subst (All P) split all)

-- what a walk gives at a place
pub gone_at : (runs : List Run) (k : ℕ) (gone : List ℕ) (walk after : Walked) → walk.runs ≡ runs → walk.entered ≡ k → after.runs ≡ walk.runs →
    after.entered ≡ walk.entered + 1 → ((i : ℕ) (d : Run) → i + 1 ≡ after.entered → gone ≡ without (flows_before after.runs i) (get_or after.runs i d).flows) →
    gone ≡ without (flows_before runs k) (run_at_place runs k).flows
gone_at runs k gone walk after same place still next has =
    has k (run_of 0 []) (omega arith) ∙ ap (λ (rs : List Run). without (flows_before rs k) (run_at_place rs k).flows) (still ∙ same)

pub come_at : (runs : List Run) (k : ℕ) (come : List ℕ) (walk after : Walked) → walk.runs ≡ runs → walk.entered ≡ k → after.runs ≡ walk.runs →
    after.entered ≡ walk.entered + 1 → ((i : ℕ) (d : Run) → i + 1 ≡ after.entered → come ≡ without (get_or after.runs i d).flows (flows_before after.runs i)) →
    come ≡ without (run_at_place runs k).flows (flows_before runs k)
come_at runs k come walk after same place still next has =
    has k (run_of 0 []) (omega arith) ∙ ap (λ (rs : List Run). without (run_at_place rs k).flows (flows_before rs k)) (still ∙ same)

pub flows_at : (runs : List Run) (k : ℕ) (flows : List ℕ) (walk : Walked) → walk.runs ≡ runs → walk.entered ≡ k → (walk.entered ≡ 0 → flows ≡ []) →
    ((i : ℕ) (d : Run) → i + 1 ≡ walk.entered → flows ≡ (get_or walk.runs i d).flows) → flows ≡ flows_before runs k
flows_at runs zero flows walk same place none some = none place
flows_at runs (suc k) flows walk same place none some = some k (run_of 0 []) (omega arith) ∙ ap (λ (rs : List Run). (run_at_place rs k).flows) same
