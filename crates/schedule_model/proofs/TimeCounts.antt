-- In how many slots a flow stands, one run more.
use Rattle.std.proofs.Common.{◌≡◌, ℕ, ◌+◌, ◌-◌, ◌<◌, ◌≤◌, inl, inr, Bool, true, false, cond, List, ◌++◌, length, get_or, set, take, drop, replicate, refl, sym}
use Rattle.std.proofs.Common.{ap, ◌∙◌, arith, zero, suc}
use Rattle.std.specs.Prelude.{All, count_by, ◌==◌}
use Rattle.std.specs.List.Sorted.{IsStrictlyIncreasing}
use Rattle.std.proofs.lemmas.List.{get_or-set_other, take_at}
use Rattle.std.proofs.lemmas.Grind.{get_or-set_at}
use Rattle.std.proofs.lemmas.List.Folds.{list_any_more}
use Rattle.std.proofs.lemmas.List.Sums.{count_by-le-length, sum_by-cons}
use Rattle.std.proofs.lemmas.Bool.{ne_eqb, eq-eqb, cases_eq}
use Rattle.coflow_units.specs.declared.plan.Run.{Run}
use Rattle.coflow_units.specs.Schedule.{holds, times}
use Rattle.run_list.specs.Runs.{flows_before, without}
use Rattle.coflow_units.proofs.Sums.{any_not, or_right}
use Rattle.coflow_units.proofs.Bools.{or_not}
use Rattle.coflow_units.proofs.ServedExists.{times_append}
use Rattle.schedule_model.specs.RunList.{IsKept, slots_in}
use Rattle.schedule_model.proofs.Ascending.{above_earlier}
use Rattle.schedule_model.proofs.Changes.{flows_before_next, holds_without, is_at_place, run_at_place}
use Rattle.schedule_model.proofs.RunSlots.{all_runs, count_within, run_fits, run_more}

-- an ascending list holds a number once
not_before : (numbers : List ℕ) (k : ℕ) → IsStrictlyIncreasing numbers → k < length numbers → holds (take k numbers) (get_or numbers k 0) ≡ false
not_before numbers k up lt = any_not (take k numbers) (get_or numbers k 0) (λ has. omega (arith, above_earlier numbers k (get_or numbers k 0) up lt has))

-- each flow so far has its own number of slots more
pub add_more : (counts old numbers : List ℕ) (n : ℕ → ℕ) (k : ℕ) → IsStrictlyIncreasing numbers → All (λ f. f < length counts) numbers → k < length numbers →
    ((f : ℕ) → get_or counts f 0 ≡ get_or old f 0 + cond (holds (take k numbers) f) (n f) 0) →
    (f : ℕ) → get_or (set counts (get_or numbers k 0) (get_or counts (get_or numbers k 0) 0 + n (get_or numbers k 0))) f 0
    ≡ get_or old f 0 + cond (holds (take (k + 1) numbers) f) (n f) 0
add_more counts old numbers n k up within lt h f =
    let g = get_or numbers k 0 in
    let more = list_any_more (λ (x : ℕ). x == f) numbers k 0 lt in
    elim (cases_eq f g) [
      | inl e ↦ omega (
        arith,
        get_or-set_at counts g f (get_or counts g 0 + n g) 0 e (within k 0 lt),
        h g,
        ap n e,
        ap {B = ℕ} (λ b. cond b (n g) 0) (not_before numbers k up lt),
        ap (λ (m : ℕ). get_or old m 0) e,
        ap {B = ℕ} (λ b. cond b (n f) 0) (more ∙ or_right (holds (take k numbers) f) (g == f) (eq-eqb g f (sym e))),
      )
      | inr ne ↦ omega (
        arith,
        get_or-set_other counts g f (get_or counts g 0 + n g) 0 ne,
        h f,
        ap {B = ℕ} (λ b. cond b (n f) 0) (more ∙ or_not (holds (take k numbers) f) (g == f) (ne_eqb g f (λ e. ne (sym e)))),
      )
    ]

pub add_fits : (counts old numbers : List ℕ) (n : ℕ → ℕ) (k : ℕ) → IsStrictlyIncreasing numbers → k < length numbers →
    ((f : ℕ) → get_or counts f 0 ≡ get_or old f 0 + cond (holds (take k numbers) f) (n f) 0) → get_or counts (get_or numbers k 0) 0 ≡ get_or old (get_or numbers k 0) 0
add_fits counts old numbers n k up lt h = omega (arith, h (get_or numbers k 0), ap {B = ℕ} (λ b. cond b (n (get_or numbers k 0)) 0) (not_before numbers k up lt))

-- each flow so far has the number
pub note_more : (table old numbers : List ℕ) (n k : ℕ) → All (λ f. f < length table) numbers → k < length numbers →
    ((f : ℕ) → get_or table f 0 ≡ cond (holds (take k numbers) f) n (get_or old f 0)) →
    (f : ℕ) → get_or (set table (get_or numbers k 0) n) f 0 ≡ cond (holds (take (k + 1) numbers) f) n (get_or old f 0)
note_more table old numbers n k within lt h f =
    let g = get_or numbers k 0 in
    let more = list_any_more (λ (x : ℕ). x == f) numbers k 0 lt in
    elim (cases_eq f g) [
      | inl e ↦ get_or-set_at table g f n 0 e (within k 0 lt) ∙
          sym (ap {B = ℕ} (λ b. cond b n (get_or old f 0)) (more ∙ or_right (holds (take k numbers) f) (g == f) (eq-eqb g f (sym e))))
      | inr ne ↦ get_or-set_other table g f n 0 ne ∙ h f ∙
          sym (ap {B = ℕ} (λ b. cond b n (get_or old f 0)) (more ∙ or_not (holds (take k numbers) f) (g == f) (ne_eqb g f (λ e. ne (sym e)))))
    ]

count_all : {X : Type 0} (p : X → Bool) (n : ℕ) (x : X) → p x ≡ true → count_by p (replicate n x) ≡ n
count_all p zero x e = refl
count_all p (suc n) x e = omega (arith, sum_by-cons (λ y. cond (p y) 1 0) x (replicate n x), ap {B = ℕ} (λ b. cond b 1 0) e, count_all p n x e)

count_none : {X : Type 0} (p : X → Bool) (n : ℕ) (x : X) → p x ≡ false → count_by p (replicate n x) ≡ 0
count_none p zero x e = refl
count_none p (suc n) x e = omega (arith, sum_by-cons (λ y. cond (p y) 1 0) x (replicate n x), ap {B = ℕ} (λ b. cond b 1 0) e, count_none p n x e)

count_same_step : {X : Type 0} (p : X → Bool) (n : ℕ) (x : X) (b : Bool) → p x ≡ b → count_by p (replicate n x) ≡ cond b n 0
count_same_step p n x true e = count_all p n x e
count_same_step p n x false e = count_none p n x e

pub times_more : (runs : List Run) (k : ℕ) (r : Run) (f : ℕ) → k < length runs → r ≡ get_or runs k r →
    times (slots_in (take (k + 1) runs)) f ≡ times (slots_in (take k runs)) f + cond (holds r.flows f) r.length 0
times_more runs k r f lt is =
    ap (λ s. times s f) (run_more runs k r lt is) ∙ times_append (slots_in (take k runs)) (replicate r.length r.flows) f
    ∙ ap (λ n. times (slots_in (take k runs)) f + n) (count_same_step (λ (slot : List ℕ). holds slot f) r.length r.flows (holds r.flows f) refl)

-- a flow that stands in the slot before, in this one, in both or in none, with so many slots more
stood_step : (before here : Bool) (times slot slots count since more later : ℕ) → since ≤ slot → count + cond before (slot - since) 0 ≡ times →
    more ≡ count + cond (cond here false before) (slot - since) 0 → later ≡ cond (cond before false here) slot since →
    more + cond here (slot + slots - later) 0 ≡ times + cond here slots 0
stood_step true true times slot slots count since more later past so_far added noted = omega arith
stood_step true false times slot slots count since more later past so_far added noted = omega arith
stood_step false true times slot slots count since more later past so_far added noted = omega arith
stood_step false false times slot slots count since more later past so_far added noted = omega arith

pub noted_within : (here : Bool) (slot slots since later : ℕ) → since ≤ slot → later ≡ cond here slot since → later ≤ slot + slots
noted_within true slot slots since later past noted = omega arith
noted_within false slot slots since later past noted = omega arith

-- the counts are those of the slots so far, but for the flows of the last run, which have the slots since they came as well
pub stood_more : (runs : List Run) (k f slot slots count since more later : ℕ) → k < length runs → slots ≡ (run_at_place runs k).length → since ≤ slot →
    count + cond (holds (flows_before runs k) f) (slot - since) 0 ≡ times (slots_in (take k runs)) f →
    more ≡ count + cond (holds (without (flows_before runs k) (run_at_place runs k).flows) f) (slot - since) 0 →
    later ≡ cond (holds (without (run_at_place runs k).flows (flows_before runs k)) f) slot since →
    more + cond (holds (flows_before runs (k + 1)) f) (slot + slots - later) 0 ≡ times (slots_in (take (k + 1) runs)) f
stood_more runs k f slot slots count since more later lt length_is past so_far added noted =
    let r = run_at_place runs k in
    let before = flows_before runs k in
    let added' = added ∙ ap {B = ℕ} (λ b. count + cond b (slot - since) 0) (holds_without before r.flows f) in
    let noted' = noted ∙ ap {B = ℕ} (λ b. cond b slot since) (holds_without r.flows before f) in
    ap (λ (s : List ℕ). more + cond (holds s f) (slot + slots - later) 0) (flows_before_next runs k)
    ∙ stood_step (holds before f) (holds r.flows f) (times (slots_in (take k runs)) f) slot slots count since more later past so_far added' noted'
    ∙ ap (λ n. times (slots_in (take k runs)) f + cond (holds r.flows f) n 0) length_is
    ∙ sym (times_more runs k r f lt (is_at_place runs k lt))

-- after the last run, where its flows have been counted too
pub stood_all : (runs : List Run) (k f slot all : ℕ) (last counts counted since noted : List ℕ) → length runs ≤ k → last ≡ flows_before runs k → counted ≡ counts →
    noted ≡ since → all ≡ get_or counted f 0 + cond (holds last f) (slot - get_or noted f 0) 0 →
    get_or counts f 0 + cond (holds (flows_before runs k) f) (slot - get_or since f 0) 0 ≡ times (slots_in (take k runs)) f → all ≡ times (slots_in runs) f
stood_all runs k f slot all last counts counted since noted past last_is counts_are since_are added so_far =
    added ∙ ap (λ (xs : List ℕ). get_or xs f 0 + cond (holds last f) (slot - get_or noted f 0) 0) counts_are
    ∙ ap (λ (xs : List ℕ). get_or counts f 0 + cond (holds last f) (slot - get_or xs f 0) 0) since_are
    ∙ ap (λ (xs : List ℕ). get_or counts f 0 + cond (holds xs f) (slot - get_or since f 0) 0) last_is
    ∙ so_far ∙ ap (λ (s : List (List ℕ)). times s f) (all_runs runs k past)

-- the times of a flow are at most the slots
pub times_within : (runs : List Run) (k f : ℕ) → times (slots_in (take k runs)) f ≤ length (slots_in runs)
times_within runs k f = omega (arith, count_by-le-length (λ (slot : List ℕ). holds slot f) (slots_in (take k runs)), count_within runs k)

pub times_fit : (runs : List Run) (k : ℕ) (r : Run) (f n : ℕ) → IsKept runs → k < length runs → r ≡ get_or runs k r → n ≡ times (slots_in (take k runs)) f →
    n + r.length < 2199023255552
times_fit runs k r f n kept lt is e = omega (arith, e, count_by-le-length (λ (slot : List ℕ). holds slot f) (slots_in (take k runs)), run_fits runs k r kept lt is)

-- a buffer that was written whole
pub refill : {X : Type 0} (new old : List X) (n : ℕ) → length new ≡ n → take n (new ++ drop (length new) old) ≡ new
refill new old n e = take_at new (drop (length new) old) n e
