-- A draft that takes the lines of runs and the last line.
use Rattle.std.proofs.Common.{◌≡◌, ◌≢◌, ℕ, ◌+◌, ◌-◌, ◌<◌, ◌≤◌, ◌^◌, List, [], ◌∷◌, ◌++◌, Bool, true, false, append_assoc, length, length-append, get_or, ltb, refl, sym, ap, subst}
use Rattle.std.proofs.Common.{◌∙◌, arith}
use Rattle.std.specs.Prelude.{◌↔◌, All, None, codes, sum_by}
use Rattle.std.proofs.lemmas.Bool.Decides.{nat_tests}
use Rattle.std.proofs.lemmas.List.{get_or_append_left, get_or_push}
use Rattle.std.proofs.lemmas.List.Elements.{All-push}
use Rattle.std.proofs.lemmas.List.Sums.{sum_by-append, sum_by-cons}
use Rattle.std.proofs.Math.Seq.{get_or-append_seam}
use Rattle.coflow_units.specs.declared.plan.Run.{Run}
use Rattle.run_list.specs.Runs.{IsLast}
use Rattle.report_text.specs.Readers.{IsRun, IsRunOf}
use Rattle.report_text.specs.Text.{run_line}
use Rattle.report_text.proofs.DraftText.{run_unique, slots_grow, slots_in}
use Rattle.report_text.proofs.LineLists.{first}
use Rattle.online_text.specs.declared.value.Online.{Online}
use Rattle.online_text.specs.Online.{IsOnline}
use Rattle.online_text.specs.declared.draft.Draft.{Draft}
use Rattle.online_text.specs.declared.draft.Stage.TheVariants.{Ended, Runs}
use Rattle.online_text.specs.Draft.{AreLeft, Follows, GoesOnAt, IsDraft, IsDraftAt, Refuses}
use Rattle.online_text.proofs.LeftLines.{ended_with, ends_with, item_taken}
use Rattle.online_text.proofs.StageSteps.{at_stage, draft_at, draft_back, follows, refuses}

-- neighbours differ, also with one element more that differs from the last
apart_push : {X : Type 0} (part : X → List ℕ) (xs : List X) (x : X) →
    ((k : ℕ) (d : X) → k + 1 < length xs → part (get_or xs k d) ≢ part (get_or xs (k + 1) d)) →
    ((k : ℕ) (d : X) → k + 1 ≡ length xs → part (get_or xs k d) ≢ part x) → (k : ℕ) (d : X) → k + 1 < length (xs ++ (x ∷ [])) →
    part (get_or (xs ++ (x ∷ [])) k d) ≢ part (get_or (xs ++ (x ∷ [])) (k + 1) d)
apart_push {X} part xs x h other k d lt = go (ltb (k + 1) (length xs)) refl
  where
    at : List X → ℕ → List ℕ
    at zs i = part (get_or zs i d)

    go : (b : Bool) → ltb (k + 1) (length xs) ≡ b → at (xs ++ (x ∷ [])) k ≢ at (xs ++ (x ∷ [])) (k + 1)
    go true e same =
        let before : k + 1 < length xs = grind (arith, nat_tests) in
        h k d before (sym (ap part (get_or_append_left xs (x ∷ []) d k (omega arith))) ∙ (same ∙ ap part (get_or_append_left xs (x ∷ []) d (k + 1) before)))
    go false e same =
        let here : length xs ≡ k + 1 = grind (arith, nat_tests, length-append xs (x ∷ [])) in
        let last : part (get_or xs k d) ≡ at (xs ++ (x ∷ [])) k = sym (ap part (get_or_append_left xs (x ∷ []) d k (omega arith))) in
        other k d (sym here) (last ∙ (same ∙ ap part (get_or_push xs x d (k + 1) here)))

-- the line of a run is taken, and the online run has the run
run_both : (runs new : List Run) (run : Run) (line : List ℕ) (o : Online) (more : List (List ℕ)) → IsOnline o → new ≡ runs ++ (run ∷ []) → IsRun run → line ≡ run_line run →
    AreLeft (λ k. run_line) runs o.runs (codes "end" ∷ []) (line ∷ more) ↔ AreLeft (λ k. run_line) new o.runs (codes "end" ∷ []) more
run_both runs new run line o more online grown is_run is = item_taken (λ k. run_line) IsRun runs new o.runs run line (codes "end") [] more online.run grown is
    (λ bad. absurd (let h : 114 ≡ 101 = ap first (sym is ∙ bad) in omega (arith, h))) (λ y is_y same. run_unique y run is_y is_run same)

run_next : (runs : List Run) (run : Run) (line : List ℕ) (o : Online) (more : List (List ℕ)) → IsOnline o → IsRun run → line ≡ run_line run →
    AreLeft (λ k. run_line) runs o.runs (codes "end" ∷ []) (line ∷ more) → (others : List Run) × (o.runs ≡ runs ++ (run ∷ others))
run_next runs run line o more online is_run is left =
    let (others, has, e) = (run_both runs (runs ++ (run ∷ [])) run line o more online refl is_run is).0 left in
    (others, has ∙ append_assoc runs (run ∷ []) others)

abbrev pub with_run : Draft → List Run → ℕ → Draft
with_run d runs slots = record {
  stage = d.stage;
  epochs = d.epochs;
  time = d.time;
  places = d.places;
  done = d.done;
  cost = d.cost;
  release = d.release;
  total = d.total;
  runs = runs;
  slots = slots;
}

pub run_taken : (d : Draft) (runs : List Run) (run : Run) (line : List ℕ) → IsDraft d → d.stage ≡ Runs → runs ≡ d.runs ++ (run ∷ []) → IsRun run →
    line ≡ run_line run → d.slots + run.length ≤ 2 ^ 41 - 1 → IsLast d.runs run.flows false →
    IsDraft (with_run d runs (d.slots + run.length)) × Follows d (with_run d runs (d.slots + run.length)) line
run_taken d runs run line h stage grown is_run is few other = (
  draft_back new Runs stage draft,
  follows d new Runs Runs line stage stage (λ o more online small. ((λ g. (g.0, (both o more online).0 g.1)), (λ g. (g.0, (both o more online).1 g.1)))),
)
  where
    new : Draft
    new = with_run d runs (d.slots + run.length)

    at : IsDraftAt Runs d
    at = draft_at d Runs stage h

    total : sum_by slots_in runs ≡ d.slots + run.length
    total = omega (arith, ap (sum_by slots_in) grown, sum_by-append slots_in d.runs (run ∷ []), sum_by-cons slots_in run [], at.slots)

    draft : IsDraftAt Runs new
    draft = record {
      online = record {
        rising = at.online.rising;
        run = subst (All IsRun) (sym grown) (All-push IsRun d.runs run at.online.run is_run);
        few_slots = omega (arith, total, few);
        maximal = rw grown (apart_push (λ (r : Run). r.flows) d.runs run at.online.maximal other);
      };
      small = record {
        epochs = at.small.epochs;
        done = at.small.done;
        cost = at.small.cost;
        count = at.small.count;
        release = at.small.release;
        total = at.small.total;
      };
      slots = sym total;
      later = tt;
    }

    both : (o : Online) (more : List (List ℕ)) → IsOnline o →
        AreLeft (λ k. run_line) d.runs o.runs (codes "end" ∷ []) (line ∷ more) ↔ AreLeft (λ k. run_line) runs o.runs (codes "end" ∷ []) more
    both o more online = run_both d.runs runs run line o more online grown is_run is

pub long_refused : (d : Draft) (run : Run) (line : List ℕ) → d.slots ≡ sum_by slots_in d.runs → d.stage ≡ Runs → IsRun run → line ≡ run_line run →
    2 ^ 41 - 1 < d.slots + run.length → Refuses d line
long_refused d run line slots stage is_run is long = refuses d Runs line stage (λ o more online small g.
    let next = run_next d.runs run line o more online is_run is g.1 in
    absurd (omega (arith, slots_grow d.runs o.runs next.0 run next.1, slots, online.few_slots)))

pub same_refused : (d : Draft) (run : Run) (line : List ℕ) → d.stage ≡ Runs → IsRun run → line ≡ run_line run → IsLast d.runs run.flows true → Refuses d line
same_refused d run line stage is_run is same = refuses d Runs line stage (λ o more online small g.
    let next = run_next d.runs run line o more online is_run is g.1 in
    let k : ℕ = length d.runs - 1 in
    let some : 1 ≤ length d.runs = same.0 in
    let at : length d.runs ≡ k + 1 = omega arith in
    let last : get_or o.runs k run ≡ get_or d.runs k run = rw next.1 (get_or_append_left d.runs (run ∷ next.0) run k (omega arith)) in
    let here : get_or o.runs (k + 1) run ≡ run = rw (next.1, ← at) (get_or-append_seam d.runs run next.0 run) in
    let lt : k + 1 < length o.runs = omega (arith, ap length next.1, length-append d.runs (run ∷ next.0)) in
    online.maximal k run lt (ap (λ (x : Run). x.flows) last ∙ (same.1 k run (sym at) ∙ sym (ap (λ (x : Run). x.flows) here))))

-- ---- the last line

runs_over : (d : Draft) (line : List ℕ) → IsRunOf line None → (o : Online) (more : List (List ℕ)) → IsOnline o →
    AreLeft (λ k. run_line) d.runs o.runs (codes "end" ∷ []) (line ∷ more) → (o.runs ≡ d.runs) × (line ≡ codes "end") × (more ≡ [])
runs_over d line none o more online left = ended_with (λ k. run_line) IsRun d.runs o.runs line (codes "end") [] more online.run none left

pub end_taken : (d : Draft) (line : List ℕ) → IsDraft d → d.stage ≡ Runs → IsRunOf line None → line ≡ codes "end" →
    IsDraft (at_stage d Ended) × Follows d (at_stage d Ended) line
end_taken d line h stage none is = (draft, follows d new Runs Ended line stage refl (λ o more online small. (forward o more online, backward o more)))
  where
    new : Draft
    new = at_stage d Ended

    at : IsDraftAt Runs d
    at = draft_at d Runs stage h

    draft : IsDraft new
    draft = record { online = at.online; small = at.small; slots = at.slots; later = tt }

    forward : (o : Online) (more : List (List ℕ)) → IsOnline o → GoesOnAt Runs d o (line ∷ more) → GoesOnAt Ended new o more
    forward o more online ((epochs, done, cost, release, total), left) =
        let (runs, here, rest) = runs_over d line none o more online left in
        ((λ i. record { epochs = epochs i; done = done i; cost = cost i; release = release i; total = total i; runs = runs i }), rest)

    backward : (o : Online) (more : List (List ℕ)) → GoesOnAt Ended new o more → GoesOnAt Runs d o (line ∷ more)
    backward o more (same, rest) = (
      (
        ap (λ (x : Online). x.epochs) same,
        ap (λ (x : Online). x.done) same,
        ap (λ (x : Online). x.cost) same,
        ap (λ (x : Online). x.release) same,
        ap (λ (x : Online). x.total) same,
      ),
      ends_with (λ k. run_line) d.runs o.runs line (codes "end") [] more (ap (λ (x : Online). x.runs) same) is rest,
    )

pub end_refused : (d : Draft) (line : List ℕ) → d.stage ≡ Runs → IsRunOf line None → (line ≡ codes "end" → ⊥) → Refuses d line
end_refused d line stage none no_end = refuses d Runs line stage (λ o more online small g. no_end (runs_over d line none o more online g.1).1)
