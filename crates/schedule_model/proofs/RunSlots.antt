-- The slots of the runs so far.
use Rattle.std.proofs.Common.{◌≡◌, ℕ, ◌+◌, ◌-◌, ◌≤◌, ◌<◌, List, [], ◌∷◌, ◌++◌, length, get_or, take, drop, replicate, refl, sym, ap, ◌∙◌, subst, arith, zero, suc, append_assoc}
use Rattle.std.specs.Prelude.{All}
use Rattle.std.proofs.lemmas.List.{take_more, take_all, map_push, flat_map_more, get_or_at, length-append, length-replicate}
use Rattle.std.proofs.lemmas.List.Elements.{All-append, All-replicate}
use Rattle.coflow_units.specs.declared.plan.Run.{Run}
use Rattle.coflow_units.specs.Schedule.{slots_of}
use Rattle.run_list.specs.Runs.{Walked, run_of}
use Rattle.run_list.proofs.Walking.{run_is}
use Rattle.schedule_model.specs.RunList.{IsKept, pairs_of, slots_in}

-- one run more
pub slots_push : (runs : List Run) (r : Run) → slots_in (runs ++ r ∷ []) ≡ slots_in runs ++ replicate r.length r.flows
slots_push runs r = ap slots_of (map_push (λ (x : Run). (x.length, x.flows)) runs r) ∙
    sym (flat_map_more (λ (p : ℕ × List ℕ). replicate p.0 p.1) [] (pairs_of runs) (r.length, r.flows))

pub slots_more : (runs : List Run) (k : ℕ) (d : Run) → k < length runs →
    slots_in (take (k + 1) runs) ≡ slots_in (take k runs) ++ replicate (get_or runs k d).length (get_or runs k d).flows
slots_more runs k d lt = ap slots_in (take_more runs k d lt) ∙ slots_push (take k runs) (get_or runs k d)

pub slots_parts : (k : ℕ) (runs : List Run) → slots_in runs ≡ slots_in (take k runs) ++ slots_in (drop k runs)
slots_parts zero runs = refl
slots_parts (suc k) [] = refl
slots_parts (suc k) (r ∷ rs) = ap (λ x. replicate r.length r.flows ++ x) (slots_parts k rs) ∙
    sym (append_assoc (replicate r.length r.flows) (slots_in (take k rs)) (slots_in (drop k rs)))

pub replicate_first : {X : Type 0} (n : ℕ) (h : X) → 1 ≤ n → replicate n h ≡ h ∷ replicate (n - 1) h
replicate_first zero h some = absurd (omega arith)
replicate_first {X} (suc n) h some = let e : n ≡ suc n - 1 = omega arith in ap {B = List X} (λ m. h ∷ replicate m h) e

-- the slots before a run, its first slot, and the slots after that
abbrev pub after_first : List Run → ℕ → Run → List (List ℕ)
after_first runs k d = replicate ((get_or runs k d).length - 1) (get_or runs k d).flows ++ slots_in (drop (k + 1) runs)

regroup : (before rest : List (List ℕ)) (n : ℕ) (h : List ℕ) → 1 ≤ n → (before ++ replicate n h) ++ rest ≡ before ++ (h ∷ (replicate (n - 1) h ++ rest))
regroup before rest n h some = append_assoc before (replicate n h) rest ∙ ap (λ x. before ++ (x ++ rest)) (replicate_first n h some)

pub slots_at : (runs : List Run) (k : ℕ) (d : Run) → k < length runs → 1 ≤ (get_or runs k d).length →
    slots_in runs ≡ slots_in (take k runs) ++ ((get_or runs k d).flows ∷ after_first runs k d)
slots_at runs k d lt some =
    slots_parts (k + 1) runs ∙ ap (λ x. x ++ slots_in (drop (k + 1) runs)) (slots_more runs k d lt)
    ∙ regroup (slots_in (take k runs)) (slots_in (drop (k + 1) runs)) (get_or runs k d).length (get_or runs k d).flows some

pub count_more : (runs : List Run) (k : ℕ) (d : Run) → k < length runs → length (slots_in (take (k + 1) runs)) ≡ length (slots_in (take k runs)) + (get_or runs k d).length
count_more runs k d lt =
    ap length (slots_more runs k d lt) ∙ length-append (slots_in (take k runs)) (replicate (get_or runs k d).length (get_or runs k d).flows)
    ∙ ap (λ n. length (slots_in (take k runs)) + n) (length-replicate (get_or runs k d).length (get_or runs k d).flows)

pub count_within : (runs : List Run) (k : ℕ) → length (slots_in (take k runs)) ≤ length (slots_in runs)
count_within runs k = omega (arith, ap length (slots_parts k runs), length-append (slots_in (take k runs)) (slots_in (drop k runs)))

-- a fact of each slot, one run more
pub each_more : (P : List ℕ → Type 0) (runs : List Run) (k : ℕ) (d : Run) → k < length runs → All P (slots_in (take k runs)) → P (get_or runs k d).flows →
    All P (slots_in (take (k + 1) runs))
each_more P runs k d lt before here =
    subst (All P) (sym (slots_more runs k d lt))
    (All-append P (slots_in (take k runs)) (replicate (get_or runs k d).length (get_or runs k d).flows) before
    (All-replicate P (get_or runs k d).length (get_or runs k d).flows here))

-- the same for a run that was read
pub run_more : (runs : List Run) (k : ℕ) (r : Run) → k < length runs → r ≡ get_or runs k r → slots_in (take (k + 1) runs) ≡ slots_in (take k runs) ++ replicate r.length r.flows
run_more runs k r lt is = slots_more runs k r lt ∙ ap (λ (x : Run). slots_in (take k runs) ++ replicate x.length x.flows) (sym is)

pub run_some : (runs : List Run) (k : ℕ) (r : Run) → IsKept runs → k < length runs → r ≡ get_or runs k r → 1 ≤ r.length
run_some runs k r kept lt is = subst (λ (x : Run). 1 ≤ x.length) (sym is) (kept.some k r lt)

pub run_at : (runs : List Run) (k : ℕ) (r : Run) → IsKept runs → k < length runs → r ≡ get_or runs k r → slots_in runs ≡ slots_in (take k runs) ++ (r.flows ∷ after_first runs k r)
run_at runs k r kept lt is = slots_at runs k r lt (kept.some k r lt) ∙ ap (λ (x : Run). slots_in (take k runs) ++ (x.flows ∷ after_first runs k r)) (sym is)

pub run_count : (runs : List Run) (k : ℕ) (r : Run) → k < length runs → r ≡ get_or runs k r → length (slots_in (take (k + 1) runs)) ≡ length (slots_in (take k runs)) + r.length
run_count runs k r lt is = count_more runs k r lt ∙ ap (λ (x : Run). length (slots_in (take k runs)) + x.length) (sym is)

pub run_fits : (runs : List Run) (k : ℕ) (r : Run) → IsKept runs → k < length runs → r ≡ get_or runs k r → length (slots_in (take k runs)) + r.length ≤ 2199023255551
run_fits runs k r kept lt is = omega (arith, run_count runs k r lt is, count_within runs (k + 1), kept.short)

pub run_each : (P : List ℕ → Type 0) (runs : List Run) (k : ℕ) (r : Run) → k < length runs → r ≡ get_or runs k r → All P (slots_in (take k runs)) → P r.flows →
    All P (slots_in (take (k + 1) runs))
run_each P runs k r lt is before here = each_more P runs k r lt before (subst (λ (x : Run). P x.flows) is here)

pub all_here : (P : List ℕ → Type 0) (before rest : List (List ℕ)) (h : List ℕ) → All P (before ++ (h ∷ rest)) → P h
all_here P before rest h all =
    let inside : length before < length (before ++ (h ∷ rest)) = omega (arith, length-append before (h ∷ rest)) in
    subst P (get_or_at before h rest [] (length before) refl) (all (length before) [] inside)

pub run_holds : (P : List ℕ → Type 0) (runs : List Run) (k : ℕ) (r : Run) → IsKept runs → k < length runs → r ≡ get_or runs k r → All P (slots_in runs) → P r.flows
run_holds P runs k r kept lt is all = all_here P (slots_in (take k runs)) (after_first runs k r) r.flows (subst (All P) (run_at runs k r kept lt is) all)

-- after the last run
pub all_runs : (runs : List Run) (k : ℕ) → length runs ≤ k → slots_in (take k runs) ≡ slots_in runs
all_runs runs k le = ap slots_in (take_all k runs le)

-- the run that a walk is in
pub entered_slots : (runs : List Run) (k slots : ℕ) (walk : Walked) (r : Run) → walk.runs ≡ runs → walk.entered ≡ k →
    ((d : Run) → slots ≡ (get_or walk.runs walk.entered d).length) → slots ≡ (get_or runs k r).length
entered_slots runs k slots walk r same place has =
    has r ∙ ap (λ (xs : List Run). (get_or xs walk.entered r).length) same ∙ ap (λ i. (get_or runs i r).length) place

pub entered_run : (runs : List Run) (k slots : ℕ) (flows : List ℕ) (walk after : Walked) → walk.runs ≡ runs → walk.entered ≡ k → after.runs ≡ walk.runs →
    after.entered ≡ walk.entered + 1 → ((d : Run) → slots ≡ (get_or walk.runs walk.entered d).length) →
    ((i : ℕ) (d : Run) → i + 1 ≡ after.entered → flows ≡ (get_or after.runs i d).flows) →
    run_of slots flows ≡ get_or runs k (run_of slots flows)
entered_run runs k slots flows walk after same place still next has_slots has_flows =
    let r = run_of slots flows in
    run_is slots flows (get_or runs k r) (entered_slots runs k slots walk r same place has_slots)
    (has_flows k r (omega arith) ∙ ap (λ (xs : List Run). (get_or xs k r).flows) (still ∙ same))

pub entered_fits : (runs : List Run) (k slots : ℕ) (walk : Walked) → IsKept runs → k < length runs → walk.runs ≡ runs → walk.entered ≡ k →
    ((d : Run) → slots ≡ (get_or walk.runs walk.entered d).length) → length (slots_in (take k runs)) + slots ≤ 2199023255551
entered_fits runs k slots walk kept lt same place has =
    let d = run_of 0 [] in
    omega (arith, entered_slots runs k slots walk d same place has, count_more runs k d lt, count_within runs (k + 1), kept.short)
