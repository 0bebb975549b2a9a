-- The runs of a schedule after one is appended or joined.
use Rattle.std.proofs.Common.{◌≡◌, ◌≢◌, ℕ, ◌+◌, ◌-◌, ◌≤◌, ◌<◌, inl, inr, List, [], ◌∷◌, ◌++◌, length, get_or, set, take, replicate, refl, sym, ap, subst, ◌∙◌, arith, append_assoc}
use Rattle.std.specs.Prelude.{All, true, false, Result, Ok, Err, OnOk, OnErr}
use Rattle.std.specs.List.Sorted.{IsStrictlyIncreasing}
use Rattle.std.proofs.lemmas.List.{get_or_default, take_more, take_all, set_at, get_or-map, get_or-set_same, get_or-set_other, get_or_append_left, get_or_push, length-append}
use Rattle.std.proofs.lemmas.List.{length-map, length-replicate, length-set, length-take-le, length_push, replicate-append-replicate}
use Rattle.std.proofs.lemmas.List.Elements.{All-append, All-head, All-map, All-nil, All-push, All-replicate, All-set, All-tail}
use Rattle.std.proofs.lemmas.Bool.{cases_eq, cases_lt}
use Rattle.coflow_units.specs.declared.plan.Run.{Run}
use Rattle.coflow_units.specs.Schedule.{IsRuns}
use Rattle.run_list.specs.Runs.{IsLast, longer, run_of}
use Rattle.schedule_model.specs.RunList.{IsKept, pairs_of, slots_in}
use Rattle.schedule_model.proofs.RunSlots.{slots_push}

-- the runs are those of the slots
pair_at : (runs : List Run) (k : ℕ) (r : ℕ × List ℕ) (d : Run) → k < length runs → (get_or (pairs_of runs) k r).1 ≡ (get_or runs k d).flows
pair_at runs k r d lt = ap (λ (p : ℕ × List ℕ). p.1) (get_or-map (λ (x : Run). (x.length, x.flows)) runs k d r lt)

pub runs_are : (runs : List Run) → IsKept runs → IsRuns (slots_in runs) (pairs_of runs)
runs_are runs kept =
    let d : Run = record { length = 0; flows = [] } in
    record {
      same = refl;
      lengths = All-map (λ (p : ℕ × List ℕ). 1 ≤ p.0) (λ (x : Run). (x.length, x.flows)) runs kept.some;
      maximal = λ k r lt e.
          let inside : k + 1 < length runs = omega (arith, lt, length-map {B = ℕ × List ℕ} runs (λ (x : Run). (x.length, x.flows))) in
          kept.maximal k d inside (sym (pair_at runs k r d (omega arith)) ∙ e ∙ pair_at runs (k + 1) r d inside);
    }

pub each_slot : (P : List ℕ → Type 0) (runs : List Run) → All (λ (r : Run). P r.flows) runs → All P (slots_in runs)
each_slot P [] all = All-nil P
each_slot P (r ∷ rs) all =
    All-append P (replicate r.length r.flows) (slots_in rs) (All-replicate P r.length r.flows (All-head (λ (x : Run). P x.flows) r rs all))
    (each_slot P rs (All-tail (λ (x : Run). P x.flows) r rs all))

-- the runs with a longer last run
split_last : (runs : List Run) (n : ℕ) (last : Run) → n + 1 ≡ length runs → last ≡ get_or runs n last → runs ≡ take n runs ++ last ∷ []
split_last runs n last e is =
    let lt : n < length runs = omega arith in
    let all : length runs ≤ n + 1 = omega arith in
    sym (take_all (n + 1) runs all) ∙ take_more runs n last lt ∙ ap (λ (x : Run). take n runs ++ x ∷ []) (sym is)

set_last : (runs : List Run) (n : ℕ) (last v : Run) → n + 1 ≡ length runs → last ≡ get_or runs n last → set runs n v ≡ take n runs ++ v ∷ []
set_last runs n last v e is =
    let count : length (take n runs) ≡ n = length-take-le n runs (omega arith) in
    ap (λ (xs : List Run). set xs n v) (split_last runs n last e is) ∙ set_at (take n runs) last [] v n count

slots_joined : (runs : List Run) (n m : ℕ) (last : Run) → n + 1 ≡ length runs → last ≡ get_or runs n last →
    slots_in (set runs n (longer last m)) ≡ slots_in runs ++ replicate m last.flows
slots_joined runs n m last e is =
    ap slots_in (set_last runs n last (longer last m) e is) ∙ slots_push (take n runs) (longer last m)
    ∙ ap (λ x. slots_in (take n runs) ++ x) (sym (replicate-append-replicate last.length m last.flows))
    ∙ sym (append_assoc (slots_in (take n runs)) (replicate last.length last.flows) (replicate m last.flows))
    ∙ ap (λ x. x ++ replicate m last.flows) (sym (slots_push (take n runs) last) ∙ ap slots_in (sym (split_last runs n last e is)))

same_flows : (runs : List Run) (n m k : ℕ) (last r : Run) → n < length runs → last ≡ get_or runs n last → k < length runs →
    (get_or (set runs n (longer last m)) k r).flows ≡ (get_or runs k r).flows
same_flows runs n m k last r inside is lt = elim (cases_eq k n) [
  | inl e ↦ ap (λ i. (get_or (set runs n (longer last m)) i r).flows) e ∙ ap (λ (x : Run). x.flows) (get_or-set_same runs n (longer last m) r inside) ∙
      ap (λ (x : Run). x.flows) (is ∙ get_or_default runs n last r inside) ∙ ap (λ i. (get_or runs i r).flows) (sym e)
  | inr ne ↦ ap (λ (x : Run). x.flows) (get_or-set_other runs n k (longer last m) r ne)
]

kept_joined : (runs : List Run) (n m : ℕ) (last : Run) → IsKept runs → n + 1 ≡ length runs → last ≡ get_or runs n last → length (slots_in runs) + m ≤ 2199023255551 →
    IsKept (set runs n (longer last m))
kept_joined runs n m last kept e is fits =
    let inside : n < length runs = omega arith in
    let some : 1 ≤ last.length = subst (λ (x : Run). 1 ≤ x.length) (sym is) (kept.some n last inside) in
    let up : IsStrictlyIncreasing last.flows = subst (λ (x : Run). IsStrictlyIncreasing x.flows) (sym is) (kept.ascending n last inside) in
    record {
      some = All-set (λ (x : Run). 1 ≤ x.length) runs n (longer last m) (omega arith) kept.some;
      ascending = All-set (λ (x : Run). IsStrictlyIncreasing x.flows) runs n (longer last m) up kept.ascending;
      maximal = λ k r lt same.
          let in' : k + 1 < length runs = omega (arith, lt, length-set runs n (longer last m)) in
          kept.maximal k r in' (sym (same_flows runs n m k last r inside is (omega arith)) ∙ same ∙ same_flows runs n m (k + 1) last r inside is in');
      short = omega (arith, ap length (slots_joined runs n m last e is), length-append (slots_in runs) (replicate m last.flows), length-replicate m last.flows, fits);
    }

-- one run more
kept_push : (runs : List Run) (r : Run) → IsKept runs → ((k : ℕ) (d : Run) → k + 1 ≡ length runs → (get_or runs k d).flows ≢ r.flows) → 1 ≤ r.length →
    IsStrictlyIncreasing r.flows → length (slots_in runs) + r.length ≤ 2199023255551 →
    IsKept (runs ++ r ∷ [])
kept_push runs r kept differs some up fits = record {
  some = All-push (λ (x : Run). 1 ≤ x.length) runs r kept.some some;
  ascending = All-push (λ (x : Run). IsStrictlyIncreasing x.flows) runs r kept.ascending up;
  maximal = λ k d lt same. elim (cases_lt (k + 1) (length runs)) [
    | inl in' ↦
        let first : k < length runs = omega arith in
        kept.maximal k d in' (sym (ap (λ (x : Run). x.flows) (get_or_append_left runs (r ∷ []) d k first)) ∙ same ∙
        ap (λ (x : Run). x.flows) (get_or_append_left runs (r ∷ []) d (k + 1) in'))
    | inr le ↦
        let e : k + 1 ≡ length runs = omega (arith, lt, length_push runs r) in
        let first : k < length runs = omega arith in
        differs k d e (sym (ap (λ (x : Run). x.flows) (get_or_append_left runs (r ∷ []) d k first)) ∙ same ∙ ap (λ (x : Run). x.flows) (get_or_push runs r d (k + 1) (sym e)))
  ];
  short = omega (arith, ap length (slots_push runs r), length-append (slots_in runs) (replicate r.length r.flows), length-replicate r.length r.flows, fits);
}

-- the runs after the last one was made longer
module _ (runs new : List Run) (m : ℕ) (flows : List ℕ) (last : IsLast runs flows true)
    (are : (k : ℕ) (r : Run) → k + 1 ≡ length runs → new ≡ set runs k (longer (get_or runs k r) m)) where
  abbrev last_place : ℕ
  last_place = length runs - 1

  abbrev last_run : Run
  last_run = get_or runs last_place (run_of 0 [])

  is_last : last_place + 1 ≡ length runs
  is_last = let (some, same) = last in omega arith

  run_there : last_run ≡ get_or runs last_place last_run
  run_there = let inside : last_place < length runs = omega (arith, is_last) in get_or_default runs last_place (run_of 0 []) last_run inside

  pub kept_longer : IsKept runs → length (slots_in runs) + m ≤ 2199023255551 → IsKept new
  kept_longer kept fits = subst IsKept (sym (are last_place (run_of 0 []) is_last)) (kept_joined runs last_place m last_run kept is_last run_there fits)

  pub slots_longer : slots_in new ≡ slots_in runs ++ replicate m flows
  slots_longer =
      let (some, same) = last in
      ap slots_in (are last_place (run_of 0 []) is_last) ∙ slots_joined runs last_place m last_run is_last run_there ∙
      ap (λ f. slots_in runs ++ replicate m f) (same last_place (run_of 0 []) is_last)

-- the runs after a run was appended, or was not for want of memory
pub kept_pushed : {T E : Type 0} (answer : Result T E) (runs new : List Run) (m : ℕ) (flows : List ℕ) → OnOk answer (new ≡ runs ++ run_of m flows ∷ []) →
    OnErr answer (new ≡ runs) → IsKept runs → IsLast runs flows false → 1 ≤ m → IsStrictlyIncreasing flows → length (slots_in runs) + m ≤ 2199023255551 → IsKept new
kept_pushed (Ok x) runs new m flows pushed refused kept differs some up fits = subst IsKept (sym pushed) (kept_push runs (run_of m flows) kept differs some up fits)
kept_pushed (Err x) runs new m flows pushed refused kept differs some up fits = subst IsKept (sym refused) kept
