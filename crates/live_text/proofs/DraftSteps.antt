-- A draft that takes a line.
use Rattle.std.proofs.Common.{◌≡◌, ◌≢◌, ℕ, ◌+◌, ◌-◌, ◌<◌, ◌≤◌, ◌^◌, List, [], ◌∷◌, ◌++◌, Bool, true, false, append_assoc, append-nil, length, length-append, map, get_or}
use Rattle.std.proofs.Common.{refl, sym, ap, subst, ◌∙◌, ltb, arith}
use Rattle.std.specs.Prelude.{All, codes, sum_by}
use Rattle.std.proofs.lemmas.Bool.Decides.{nat_tests}
use Rattle.std.proofs.lemmas.List.{get_or_append_left, get_or_push, map-append}
use Rattle.std.proofs.lemmas.List.Elements.{All-push}
use Rattle.std.proofs.lemmas.List.Sums.{sum_by-append, sum_by-cons}
use Rattle.std.specs.declared.vec.Vec.{Vec}
use Rattle.std.specs.declared.alloc.Global.{Global}
use Rattle.coflow_units.specs.declared.plan.Run.{Run}
use Rattle.run_list.specs.Runs.{IsLast}
use Rattle.report_text.specs.Readers.{IsRun}
use Rattle.report_text.proofs.DraftText.{slots_in}
use Rattle.report_text.specs.Text.{run_line}
use Rattle.live_text.specs.declared.draft.Draft.{Draft}
use Rattle.live_text.specs.declared.draft.Stage.TheVariants.{First, Lines}
use Rattle.live_text.specs.declared.value.EntryLine.{EntryLine}
use Rattle.live_text.specs.declared.value.Live.{Live}
use Rattle.live_text.specs.declared.value.PullLine.{PullLine}
use Rattle.live_text.specs.Draft.{ComesBehind, HasNothing, IsDraft, draft_lines, live_of}
use Rattle.live_text.specs.Live.{ForNeighbours, IsBefore, IsEntry, IsPull, IsSmall}
use Rattle.live_text.specs.Text.{body_lines, entry_line, numbered, order_line, pull_line}
use Rattle.live_text.proofs.TextSteps.{numbered_more}

-- ---- the lines of one element more

abbrev with_all : List EntryLine → List (List ℕ) → List PullLine → List Run → Live
with_all es os ps rs = record { entries = es; orders = os; pulls = ps; runs = rs }

abbrev top : List (List ℕ)
top = codes "sincronia live 1" ∷ []

three_nils : (a : List (List ℕ)) → a ++ [] ++ [] ++ [] ≡ a
three_nils a = append-nil (a ++ [] ++ []) ∙ (append-nil (a ++ []) ∙ append-nil a)

two_nils : (a : List (List ℕ)) → a ++ [] ++ [] ≡ a
two_nils a = append-nil (a ++ []) ∙ append-nil a

entry_body : (es : List EntryLine) (os : List (List ℕ)) (ps : List PullLine) (rs : List Run) (e : EntryLine) → os ≡ [] → ps ≡ [] → rs ≡ [] →
    body_lines (with_all (es ++ (e ∷ [])) os ps rs) ≡ body_lines (with_all es os ps rs) ++ (entry_line (length es + 1) e ∷ [])
entry_body es [] [] [] e a b c =
    let more : top ++ numbered entry_line 1 (es ++ (e ∷ [])) ≡ top ++ numbered entry_line 1 es ++ (entry_line (length es + 1) e ∷ []) =
    ap (λ x. top ++ x) (numbered_more entry_line 1 es e) in
    three_nils (top ++ numbered entry_line 1 (es ++ (e ∷ []))) ∙ (more ∙ ap (λ x. x ++ (entry_line (length es + 1) e ∷ [])) (sym (three_nils (top ++ numbered entry_line 1 es))))
entry_body es (o ∷ os) ps rs e a b c = absurd cc
entry_body es [] (p ∷ ps) rs e a b c = absurd cc
entry_body es [] [] (r ∷ rs) e a b c = absurd cc

order_body : (es : List EntryLine) (os : List (List ℕ)) (ps : List PullLine) (rs : List Run) (o : List ℕ) → ps ≡ [] → rs ≡ [] →
    body_lines (with_all es (os ++ (o ∷ [])) ps rs) ≡ body_lines (with_all es os ps rs) ++ (order_line (length os + 1) o ∷ [])
order_body es os [] [] o b c =
    let front = top ++ numbered entry_line 1 es in
    let more : front ++ numbered order_line 1 (os ++ (o ∷ [])) ≡ front ++ numbered order_line 1 os ++ (order_line (length os + 1) o ∷ []) =
    ap (λ x. front ++ x) (numbered_more order_line 1 os o) ∙ sym (append_assoc front (numbered order_line 1 os) (order_line (length os + 1) o ∷ [])) in
    two_nils (front ++ numbered order_line 1 (os ++ (o ∷ []))) ∙
    (more ∙ ap (λ x. x ++ (order_line (length os + 1) o ∷ [])) (sym (two_nils (front ++ numbered order_line 1 os))))
order_body es os (p ∷ ps) rs o b c = absurd cc
order_body es os [] (r ∷ rs) o b c = absurd cc

pull_body : (es : List EntryLine) (os : List (List ℕ)) (ps : List PullLine) (rs : List Run) (p : PullLine) → rs ≡ [] →
    body_lines (with_all es os (ps ++ (p ∷ [])) rs) ≡ body_lines (with_all es os ps rs) ++ (pull_line p ∷ [])
pull_body es os ps [] p c =
    let front = top ++ numbered entry_line 1 es ++ numbered order_line 1 os in
    let more : front ++ map pull_line (ps ++ (p ∷ [])) ≡ front ++ map pull_line ps ++ (pull_line p ∷ []) =
    ap (λ x. front ++ x) (map-append pull_line ps (p ∷ [])) ∙ sym (append_assoc front (map pull_line ps) (pull_line p ∷ [])) in
    append-nil (front ++ map pull_line (ps ++ (p ∷ []))) ∙ (more ∙ ap (λ x. x ++ (pull_line p ∷ [])) (sym (append-nil (front ++ map pull_line ps))))
pull_body es os ps (r ∷ rs) p c = absurd cc

run_body : (es : List EntryLine) (os : List (List ℕ)) (ps : List PullLine) (rs : List Run) (r : Run) →
    body_lines (with_all es os ps (rs ++ (r ∷ []))) ≡ body_lines (with_all es os ps rs) ++ (run_line r ∷ [])
run_body es os ps rs r =
    let front = top ++ numbered entry_line 1 es ++ numbered order_line 1 os ++ map pull_line ps in
    ap (λ x. front ++ x) (map-append run_line rs (r ∷ [])) ∙ sym (append_assoc front (map run_line rs) (run_line r ∷ []))

-- ---- neighbours

push_neighbours : {X : Type 0} (fact : X → X → Type 0) (xs : List X) (x : X) → ForNeighbours fact xs → ((d : X) → 0 < length xs → fact (get_or xs (length xs - 1) d) x) →
    ForNeighbours fact (xs ++ (x ∷ []))
push_neighbours fact xs x all last k d lt = go (ltb (k + 1) (length xs)) refl
  where
    go : (t : Bool) → ltb (k + 1) (length xs) ≡ t → fact (get_or (xs ++ (x ∷ [])) k d) (get_or (xs ++ (x ∷ [])) (k + 1) d)
    go true e =
        let before : k + 1 < length xs = grind (arith, nat_tests) in
        let a : get_or (xs ++ (x ∷ [])) k d ≡ get_or xs k d = get_or_append_left xs (x ∷ []) d k (omega (arith, before)) in
        let b : get_or (xs ++ (x ∷ [])) (k + 1) d ≡ get_or xs (k + 1) d = get_or_append_left xs (x ∷ []) d (k + 1) before in
        rw (a, b) (all k d before)
    go false e =
        let here : length xs ≡ k + 1 = grind (arith, nat_tests, length-append xs (x ∷ [])) in
        let index : length xs - 1 ≡ k = omega (arith, here) in
        let a : get_or (xs ++ (x ∷ [])) k d ≡ get_or xs k d = get_or_append_left xs (x ∷ []) d k (omega (arith, here)) in
        let b : get_or (xs ++ (x ∷ [])) (k + 1) d ≡ x = get_or_push xs x d (k + 1) here in
        let c : fact (get_or xs k d) x = rw index at (last d (omega (arith, here))) in
        rw (a, b) c

-- ---- drafts with one element more

abbrev with_entries : Draft → Vec EntryLine Global → Draft
with_entries d entries = record { stage = d.stage; entries = entries; orders = d.orders; pulls = d.pulls; runs = d.runs; slots = d.slots }

pub entry_taken : (d : Draft) (entries : Vec EntryLine Global) (e : EntryLine) (line : List ℕ) → IsDraft d → d.stage ≡ Lines → d.orders.items ≡ [] → d.pulls.items ≡ [] →
    d.runs ≡ [] → entries.items ≡ d.entries.items ++ (e ∷ []) → length d.entries.items + 1 ≤ 2 ^ 23 → IsEntry e → line ≡ entry_line (length d.entries.items + 1) e →
    IsDraft (with_entries d entries) × (draft_lines (with_entries d entries) ≡ draft_lines d ++ (line ∷ []))
entry_taken d entries e line h stage no_orders no_pulls no_runs es few is_entry is = (draft, lines)
  where
    draft : IsDraft (with_entries d entries)
    draft = record {
      live = record {
        few_entries = omega (arith, ap length es, length-append d.entries.items (e ∷ []), few);
        entry = rw es (All-push IsEntry d.entries.items e h.live.entry is_entry);
        few_orders = h.live.few_orders;
        order = h.live.order;
        pull = h.live.pull;
        rising = h.live.rising;
        run = h.live.run;
        few_slots = h.live.few_slots;
        maximal = h.live.maximal;
      };
      slots = h.slots;
      nothing = rw stage tt;
    }

    lines : draft_lines (with_entries d entries) ≡ draft_lines d ++ (line ∷ [])
    lines = rw (stage, es, is) (entry_body d.entries.items d.orders.items d.pulls.items d.runs e no_orders no_pulls no_runs)

abbrev with_orders : Draft → Vec (List ℕ) Global → Draft
with_orders d orders = record { stage = d.stage; entries = d.entries; orders = orders; pulls = d.pulls; runs = d.runs; slots = d.slots }

pub order_taken : (d : Draft) (orders : Vec (List ℕ) Global) (ids line : List ℕ) → IsDraft d → d.stage ≡ Lines → d.pulls.items ≡ [] → d.runs ≡ [] →
    orders.items ≡ d.orders.items ++ (ids ∷ []) → IsSmall (length d.orders.items + 1) → All IsSmall ids → line ≡ order_line (length d.orders.items + 1) ids →
    IsDraft (with_orders d orders) × (draft_lines (with_orders d orders) ≡ draft_lines d ++ (line ∷ []))
order_taken d orders ids line h stage no_pulls no_runs os few small is = (draft, lines)
  where
    draft : IsDraft (with_orders d orders)
    draft = record {
      live = record {
        few_entries = h.live.few_entries;
        entry = h.live.entry;
        few_orders = omega (arith, ap length os, length-append d.orders.items (ids ∷ []), few);
        order = rw os (All-push (All IsSmall) d.orders.items ids h.live.order small);
        pull = h.live.pull;
        rising = h.live.rising;
        run = h.live.run;
        few_slots = h.live.few_slots;
        maximal = h.live.maximal;
      };
      slots = h.slots;
      nothing = rw stage tt;
    }

    lines : draft_lines (with_orders d orders) ≡ draft_lines d ++ (line ∷ [])
    lines = rw (stage, os, is) (order_body d.entries.items d.orders.items d.pulls.items d.runs ids no_pulls no_runs)

abbrev with_pulls : Draft → Vec PullLine Global → Draft
with_pulls d pulls = record { stage = d.stage; entries = d.entries; orders = d.orders; pulls = pulls; runs = d.runs; slots = d.slots }

pub pull_taken : (d : Draft) (pulls : Vec PullLine Global) (p : PullLine) (line : List ℕ) → IsDraft d → d.stage ≡ Lines → d.runs ≡ [] →
    pulls.items ≡ d.pulls.items ++ (p ∷ []) → IsPull p → line ≡ pull_line p → ComesBehind d.pulls.items p true →
    IsDraft (with_pulls d pulls) × (draft_lines (with_pulls d pulls) ≡ draft_lines d ++ (line ∷ []))
pull_taken d pulls p line h stage no_runs ps is_pull is behind = (draft, lines)
  where
    draft : IsDraft (with_pulls d pulls)
    draft = record {
      live = record {
        few_entries = h.live.few_entries;
        entry = h.live.entry;
        few_orders = h.live.few_orders;
        order = h.live.order;
        pull = rw ps (All-push IsPull d.pulls.items p h.live.pull is_pull);
        rising = rw ps (push_neighbours IsBefore d.pulls.items p h.live.rising behind);
        run = h.live.run;
        few_slots = h.live.few_slots;
        maximal = h.live.maximal;
      };
      slots = h.slots;
      nothing = rw stage tt;
    }

    lines : draft_lines (with_pulls d pulls) ≡ draft_lines d ++ (line ∷ [])
    lines = rw (stage, ps, is) (pull_body d.entries.items d.orders.items d.pulls.items d.runs p no_runs)

abbrev differ_in_flows : Run → Run → Type 0
differ_in_flows a b = a.flows ≢ b.flows

abbrev with_runs : Draft → List Run → ℕ → Draft
with_runs d runs slots = record { stage = d.stage; entries = d.entries; orders = d.orders; pulls = d.pulls; runs = runs; slots = slots }

pub run_taken : (d : Draft) (runs : List Run) (r : Run) (line : List ℕ) → IsDraft d → d.stage ≡ Lines → runs ≡ d.runs ++ (r ∷ []) → IsRun r → line ≡ run_line r →
    d.slots + r.length ≤ 2 ^ 41 - 1 → IsLast d.runs r.flows false →
    IsDraft (with_runs d runs (d.slots + r.length)) × (draft_lines (with_runs d runs (d.slots + r.length)) ≡ draft_lines d ++ (line ∷ []))
run_taken d runs r line h stage rs is_run is few other = (draft, lines)
  where
    total : sum_by slots_in runs ≡ d.slots + r.length
    total = omega (arith, ap (sum_by slots_in) rs, sum_by-append slots_in d.runs (r ∷ []), sum_by-cons slots_in r [], h.slots)

    draft : IsDraft (with_runs d runs (d.slots + r.length))
    draft = record {
      live = record {
        few_entries = h.live.few_entries;
        entry = h.live.entry;
        few_orders = h.live.few_orders;
        order = h.live.order;
        pull = h.live.pull;
        rising = h.live.rising;
        run = rw rs (All-push IsRun d.runs r h.live.run is_run);
        few_slots = omega (arith, total, few);
        maximal = rw rs (push_neighbours differ_in_flows d.runs r h.live.maximal (λ x some. other (length d.runs - 1) x (omega (arith, some))));
      };
      slots = sym total;
      nothing = rw stage tt;
    }

    lines : draft_lines (with_runs d runs (d.slots + r.length)) ≡ draft_lines d ++ (line ∷ [])
    lines = rw (stage, rs, is) (run_body d.entries.items d.orders.items d.pulls.items d.runs r)

-- ---- the first line

empty_body : (es : List EntryLine) (os : List (List ℕ)) (ps : List PullLine) (rs : List Run) → es ≡ [] → os ≡ [] → ps ≡ [] → rs ≡ [] → body_lines (with_all es os ps rs) ≡ top
empty_body [] [] [] [] a b c d = refl
empty_body (e ∷ es) os ps rs a b c d = absurd cc
empty_body [] (o ∷ os) ps rs a b c d = absurd cc
empty_body [] [] (p ∷ ps) rs a b c d = absurd cc
empty_body [] [] [] (r ∷ rs) a b c d = absurd cc

abbrev at_lines : Draft → Draft
at_lines d = record { stage = Lines; entries = d.entries; orders = d.orders; pulls = d.pulls; runs = d.runs; slots = d.slots }

pub first_taken : (d : Draft) (line : List ℕ) → IsDraft d → d.stage ≡ First → line ≡ codes "sincronia live 1" →
    IsDraft (at_lines d) × (draft_lines (at_lines d) ≡ draft_lines d ++ (line ∷ []))
first_taken d line h stage is = (record { live = h.live; slots = h.slots; nothing = tt }, lines)
  where
    nothing : HasNothing First (live_of d)
    nothing = subst (λ s. HasNothing s (live_of d)) stage h.nothing

    lines : draft_lines (at_lines d) ≡ draft_lines d ++ (line ∷ [])
    lines = rw (stage, is) (empty_body d.entries.items d.orders.items d.pulls.items d.runs nothing.0 nothing.1 nothing.2 nothing.3)
