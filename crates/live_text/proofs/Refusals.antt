-- A line that no text has after the lines that were read.
use Rattle.std.proofs.Common.{◌≡◌, ◌≢◌, ℕ, suc, ◌+◌, ◌-◌, ◌<◌, ◌^◌, List, [], ◌∷◌, ◌++◌, false, true, None}
use Rattle.std.proofs.Common.{append-nil, append_assoc, drop, length, length-append, get_or, refl, sym, ap, subst, ◌∙◌, arith}
use Rattle.std.specs.Prelude.{All, codes}
use Rattle.std.proofs.Math.Seq.{get_or-append_seam}
use Rattle.std.proofs.lemmas.List.{get_or_append_left}
use Rattle.coflow_units.specs.declared.plan.Run.{Run}
use Rattle.coflow_units.proofs.Fronts.{head_of}
use Rattle.run_list.specs.Runs.{IsLast}
use Rattle.report_text.specs.Readers.{IsRun, IsRunOf}
use Rattle.report_text.specs.Text.{run_line}
use Rattle.report_text.proofs.DraftText.{run_unique, slots_grow}
use Rattle.report_text.proofs.LineLists.{tail_is}
use Rattle.live_text.specs.declared.draft.Draft.{Draft}
use Rattle.live_text.specs.declared.draft.Stage.{Stage}
use Rattle.live_text.specs.declared.draft.Stage.TheVariants.{First, Lines, Done}
use Rattle.live_text.specs.declared.value.EntryLine.{EntryLine}
use Rattle.live_text.specs.declared.value.Live.{Live}
use Rattle.live_text.specs.declared.value.PullLine.{PullLine}
use Rattle.live_text.specs.Draft.{ComesBehind, IsDraft, Refuses, draft_lines, lines_before, live_of}
use Rattle.live_text.specs.Live.{IsBefore, IsEntry, IsLive, IsPull, IsSmall}
use Rattle.live_text.specs.Readers.{IsEntryOf, IsOrderOf, IsPullOf}
use Rattle.live_text.specs.Text.{body_lines, entry_line, live_lines, mark, order_line, pull_line}
use Rattle.live_text.proofs.LineParts.{pull_unique}
use Rattle.live_text.proofs.NextLine.{Next, next_end, next_entry, next_of, next_order, next_pull, next_run}

-- the line behind the lines that were read
next_here : (d : Draft) (line : List ℕ) (l : Live) (more : List (List ℕ)) → IsDraft d → d.stage ≡ Lines → IsLive l → live_lines l ≡ draft_lines d ++ (line ∷ more) →
    Next (live_of d) l (line ∷ more)
next_here d line l more h stage hl e = next_of (live_of d) l (line ∷ more) h.live hl (e ∙ ap (λ s. lines_before s (live_of d) ++ (line ∷ more)) stage)

all_middle : {X : Type 0} (Is : X → Type 0) (xs : List X) (y : X) (zs : List X) → All Is (xs ++ (y ∷ zs)) → Is y
all_middle Is [] y zs h = h 0 y (omega arith)
all_middle Is (x ∷ xs) y zs h = all_middle Is xs y zs (λ k d lt. h (suc k) d (omega (arith, lt)))

-- the line of another mark
other_mark : (line x : List ℕ) (more rest : List (List ℕ)) (m n : ℕ) → line ∷ more ≡ x ∷ rest → mark line ≡ m → mark x ≡ n → m ≡ n
other_mark line x more rest m n e hm hn = sym hm ∙ (ap mark (head_of line x more rest e) ∙ hn)

-- ---- entries

record NextEntry (d : Draft) (line : List ℕ) (l : Live) : Type 0 where
  entry : EntryLine
  more : List EntryLine
  whole : l.entries ≡ d.entries.items ++ (entry ∷ more)
  no_orders : d.orders.items ≡ []
  no_pulls : d.pulls.items ≡ []
  no_runs : d.runs ≡ []
  here : line ≡ entry_line (length d.entries.items + 1) entry

entry_here : (d : Draft) (line : List ℕ) (l : Live) (more : List (List ℕ)) → mark line ≡ 114 → Next (live_of d) l (line ∷ more) → NextEntry d line l
entry_here d line l more m (next_entry e es rest whole o p r h) =
    record { entry = e; more = es; whole = whole; no_orders = o; no_pulls = p; no_runs = r; here = head_of line (entry_line (length d.entries.items + 1) e) more rest h }
entry_here d line l more m (next_order x xs rest whole p r h) = absurd (omega (arith, other_mark line _ more rest 114 101 h m refl))
entry_here d line l more m (next_pull x xs rest whole r h) = absurd (omega (arith, other_mark line _ more rest 114 108 h m refl))
entry_here d line l more m (next_run x xs rest whole h) = absurd (omega (arith, other_mark line _ more rest 114 32 h m refl))
entry_here d line l more m (next_end same h) = absurd (omega (arith, other_mark line _ more [] 114 0 h m refl))

next_entry_of : (d : Draft) (line : List ℕ) (l : Live) (more : List (List ℕ)) → IsDraft d → d.stage ≡ Lines → mark line ≡ 114 → IsLive l →
    live_lines l ≡ draft_lines d ++ (line ∷ more) → NextEntry d line l
next_entry_of d line l more h stage m hl e = entry_here d line l more m (next_here d line l more h stage hl e)

pub refuse_entry : (d : Draft) (line : List ℕ) → IsDraft d → d.stage ≡ Lines → mark line ≡ 114 → IsEntryOf (length d.entries.items + 1) line None → Refuses d line
refuse_entry d line h stage m none l more hl e =
    let next = next_entry_of d line l more h stage m hl e in
    none next.entry (omega arith) (omega (arith, hl.few_entries, ap length next.whole, length-append d.entries.items (next.entry ∷ next.more)))
    (all_middle IsEntry d.entries.items next.entry next.more (subst (All IsEntry) next.whole hl.entry)) next.here

pub refuse_late_entry : (d : Draft) (line : List ℕ) → IsDraft d → d.stage ≡ Lines → mark line ≡ 114 → (d.orders.items ≡ [] → d.pulls.items ≡ [] → d.runs ≡ [] → ⊥) →
    Refuses d line
refuse_late_entry d line h stage m late l more hl e =
    let next = next_entry_of d line l more h stage m hl e in
    late next.no_orders next.no_pulls next.no_runs

-- ---- orders

record NextOrder (d : Draft) (line : List ℕ) (l : Live) : Type 0 where
  ids : List ℕ
  more : List (List ℕ)
  whole : l.orders ≡ d.orders.items ++ (ids ∷ more)
  no_pulls : d.pulls.items ≡ []
  no_runs : d.runs ≡ []
  here : line ≡ order_line (length d.orders.items + 1) ids

order_here : (d : Draft) (line : List ℕ) (l : Live) (more : List (List ℕ)) → mark line ≡ 101 → Next (live_of d) l (line ∷ more) → NextOrder d line l
order_here d line l more m (next_entry x xs rest whole o p r h) = absurd (omega (arith, other_mark line _ more rest 101 114 h m refl))
order_here d line l more m (next_order x xs rest whole p r h) =
    record { ids = x; more = xs; whole = whole; no_pulls = p; no_runs = r; here = head_of line (order_line (length d.orders.items + 1) x) more rest h }
order_here d line l more m (next_pull x xs rest whole r h) = absurd (omega (arith, other_mark line _ more rest 101 108 h m refl))
order_here d line l more m (next_run x xs rest whole h) = absurd (omega (arith, other_mark line _ more rest 101 32 h m refl))
order_here d line l more m (next_end same h) = absurd (omega (arith, other_mark line _ more [] 101 0 h m refl))

next_order_of : (d : Draft) (line : List ℕ) (l : Live) (more : List (List ℕ)) → IsDraft d → d.stage ≡ Lines → mark line ≡ 101 → IsLive l →
    live_lines l ≡ draft_lines d ++ (line ∷ more) → NextOrder d line l
next_order_of d line l more h stage m hl e = order_here d line l more m (next_here d line l more h stage hl e)

pub refuse_order : (d : Draft) (line : List ℕ) → IsDraft d → d.stage ≡ Lines → mark line ≡ 101 → IsOrderOf (length d.orders.items + 1) line None → Refuses d line
refuse_order d line h stage m none l more hl e =
    let next = next_order_of d line l more h stage m hl e in
    none next.ids (omega arith) (omega (arith, hl.few_orders, ap length next.whole, length-append d.orders.items (next.ids ∷ next.more)))
    (all_middle (All IsSmall) d.orders.items next.ids next.more (subst (All (All IsSmall)) next.whole hl.order)) next.here

pub refuse_late_order : (d : Draft) (line : List ℕ) → IsDraft d → d.stage ≡ Lines → mark line ≡ 101 → (d.pulls.items ≡ [] → d.runs ≡ [] → ⊥) → Refuses d line
refuse_late_order d line h stage m late l more hl e =
    let next = next_order_of d line l more h stage m hl e in
    late next.no_pulls next.no_runs

-- ---- pulls

record NextPull (d : Draft) (line : List ℕ) (l : Live) : Type 0 where
  pull : PullLine
  more : List PullLine
  whole : l.pulls ≡ d.pulls.items ++ (pull ∷ more)
  no_runs : d.runs ≡ []
  here : line ≡ pull_line pull

pull_here : (d : Draft) (line : List ℕ) (l : Live) (more : List (List ℕ)) → mark line ≡ 108 → Next (live_of d) l (line ∷ more) → NextPull d line l
pull_here d line l more m (next_entry x xs rest whole o p r h) = absurd (omega (arith, other_mark line _ more rest 108 114 h m refl))
pull_here d line l more m (next_order x xs rest whole p r h) = absurd (omega (arith, other_mark line _ more rest 108 101 h m refl))
pull_here d line l more m (next_pull x xs rest whole r h) = record { pull = x; more = xs; whole = whole; no_runs = r; here = head_of line (pull_line x) more rest h }
pull_here d line l more m (next_run x xs rest whole h) = absurd (omega (arith, other_mark line _ more rest 108 32 h m refl))
pull_here d line l more m (next_end same h) = absurd (omega (arith, other_mark line _ more [] 108 0 h m refl))

next_pull_of : (d : Draft) (line : List ℕ) (l : Live) (more : List (List ℕ)) → IsDraft d → d.stage ≡ Lines → mark line ≡ 108 → IsLive l →
    live_lines l ≡ draft_lines d ++ (line ∷ more) → NextPull d line l
next_pull_of d line l more h stage m hl e = pull_here d line l more m (next_here d line l more h stage hl e)

pub refuse_pull : (d : Draft) (line : List ℕ) → IsDraft d → d.stage ≡ Lines → mark line ≡ 108 → IsPullOf line None → Refuses d line
refuse_pull d line h stage m none l more hl e =
    let next = next_pull_of d line l more h stage m hl e in
    none next.pull (all_middle IsPull d.pulls.items next.pull next.more (subst (All IsPull) next.whole hl.pull)) next.here

pub refuse_late_pull : (d : Draft) (line : List ℕ) → IsDraft d → d.stage ≡ Lines → mark line ≡ 108 → (d.runs ≡ [] → ⊥) → Refuses d line
refuse_late_pull d line h stage m late l more hl e = late (next_pull_of d line l more h stage m hl e).no_runs

-- the neighbours at the seam of two lists
at_seam : {X : Type 0} (xs : List X) (y : X) (zs all : List X) (fact : X → X → Type 0) → 0 < length xs → all ≡ xs ++ (y ∷ zs) →
    ((k : ℕ) (d : X) → k + 1 < length all → fact (get_or all k d) (get_or all (k + 1) d)) → fact (get_or xs (length xs - 1) y) y
at_seam xs y zs all fact some whole each =
    let k : ℕ = length xs - 1 in
    let at : length xs ≡ k + 1 = omega (arith, some) in
    let last : get_or all k y ≡ get_or xs k y = rw whole (get_or_append_left xs (y ∷ zs) y k (omega (arith, some))) in
    let here : get_or all (k + 1) y ≡ y = rw (whole, ← at) (get_or-append_seam xs y zs y) in
    let lt : k + 1 < length all = omega (arith, ap length whole, length-append xs (y ∷ zs)) in
    let both : fact (get_or all k y) (get_or all (k + 1) y) = each k y lt in
    subst (fact (get_or xs k y)) here (subst (λ x. fact x (get_or all (k + 1) y)) last both)

pub refuse_early_pull : (d : Draft) (line : List ℕ) (p : PullLine) → IsDraft d → d.stage ≡ Lines → mark line ≡ 108 → IsPull p → line ≡ pull_line p →
    ComesBehind d.pulls.items p false → Refuses d line
refuse_early_pull d line p h stage m is_pull is early l more hl e =
    let next = next_pull_of d line l more h stage m hl e in
    let fits = all_middle IsPull d.pulls.items next.pull next.more (subst (All IsPull) next.whole hl.pull) in
    let same : p ≡ next.pull = pull_unique p next.pull is_pull fits (sym is ∙ next.here) in
    let seam = at_seam d.pulls.items next.pull next.more l.pulls IsBefore (early p).0 next.whole hl.rising in
    (early next.pull).1 (subst (IsBefore (get_or d.pulls.items (length d.pulls.items - 1) next.pull)) (sym same) seam)

-- ---- runs

record NextRun (d : Draft) (line : List ℕ) (l : Live) : Type 0 where
  run : Run
  more : List Run
  whole : l.runs ≡ d.runs ++ (run ∷ more)
  here : line ≡ run_line run

run_here : (d : Draft) (line : List ℕ) (l : Live) (more : List (List ℕ)) → mark line ≡ 32 → Next (live_of d) l (line ∷ more) → NextRun d line l
run_here d line l more m (next_entry x xs rest whole o p r h) = absurd (omega (arith, other_mark line _ more rest 32 114 h m refl))
run_here d line l more m (next_order x xs rest whole p r h) = absurd (omega (arith, other_mark line _ more rest 32 101 h m refl))
run_here d line l more m (next_pull x xs rest whole r h) = absurd (omega (arith, other_mark line _ more rest 32 108 h m refl))
run_here d line l more m (next_run x xs rest whole h) = record { run = x; more = xs; whole = whole; here = head_of line (run_line x) more rest h }
run_here d line l more m (next_end same h) = absurd (omega (arith, other_mark line _ more [] 32 0 h m refl))

next_run_of : (d : Draft) (line : List ℕ) (l : Live) (more : List (List ℕ)) → IsDraft d → d.stage ≡ Lines → mark line ≡ 32 → IsLive l →
    live_lines l ≡ draft_lines d ++ (line ∷ more) → NextRun d line l
next_run_of d line l more h stage m hl e = run_here d line l more m (next_here d line l more h stage hl e)

pub refuse_run : (d : Draft) (line : List ℕ) → IsDraft d → d.stage ≡ Lines → mark line ≡ 32 → IsRunOf line None → Refuses d line
refuse_run d line h stage m none l more hl e =
    let next = next_run_of d line l more h stage m hl e in
    none next.run (all_middle IsRun d.runs next.run next.more (subst (All IsRun) next.whole hl.run)) next.here

-- a text that has the run's line here has the run
run_next : (d : Draft) (run : Run) (line : List ℕ) (l : Live) (more : List (List ℕ)) → IsDraft d → d.stage ≡ Lines → mark line ≡ 32 → IsRun run → line ≡ run_line run → IsLive l →
    live_lines l ≡ draft_lines d ++ (line ∷ more) → (others : List Run) × (l.runs ≡ d.runs ++ (run ∷ others))
run_next d run line l more h stage m is_run is hl e =
    let next = next_run_of d line l more h stage m hl e in
    let fits = all_middle IsRun d.runs next.run next.more (subst (All IsRun) next.whole hl.run) in
    let same : next.run ≡ run = run_unique next.run run fits is_run (sym next.here ∙ is) in
    (next.more, next.whole ∙ ap (λ x. d.runs ++ (x ∷ next.more)) same)

pub refuse_long : (d : Draft) (line : List ℕ) (run : Run) → IsDraft d → d.stage ≡ Lines → mark line ≡ 32 → IsRun run → line ≡ run_line run → 2 ^ 41 - 1 < d.slots + run.length →
    Refuses d line
refuse_long d line run h stage m is_run is long l more hl e =
    let next = run_next d run line l more h stage m is_run is hl e in
    absurd (omega (arith, slots_grow d.runs l.runs next.0 run next.1, h.slots, hl.few_slots, long))

pub refuse_same : (d : Draft) (line : List ℕ) (run : Run) → IsDraft d → d.stage ≡ Lines → mark line ≡ 32 → IsRun run → line ≡ run_line run → IsLast d.runs run.flows true →
    Refuses d line
refuse_same d line run h stage m is_run is same l more hl e =
    let next = run_next d run line l more h stage m is_run is hl e in
    at_seam d.runs run next.0 l.runs (λ a b. a.flows ≢ b.flows) same.0 next.1 hl.maximal
    (same.1 (length d.runs - 1) run (omega (arith, same.0)))

-- ---- the other lines

pub refuse_end : (d : Draft) (line : List ℕ) → IsDraft d → d.stage ≡ Lines → (mark line ≡ 114 → ⊥) → (mark line ≡ 101 → ⊥) → (mark line ≡ 108 → ⊥) → (mark line ≡ 32 → ⊥) →
    (line ≡ codes "end" → ⊥) → Refuses d line
refuse_end d line h stage no_entry no_order no_pull no_run no_end l more hl e = go (next_here d line l more h stage hl e)
  where
    go : Next (live_of d) l (line ∷ more) → ⊥
    go (next_entry x xs rest whole o p r f) = no_entry (ap mark (head_of line _ more rest f))
    go (next_order x xs rest whole p r f) = no_order (ap mark (head_of line _ more rest f))
    go (next_pull x xs rest whole r f) = no_pull (ap mark (head_of line _ more rest f))
    go (next_run x xs rest whole f) = no_run (ap mark (head_of line _ more rest f))
    go (next_end same f) = no_end (head_of line (codes "end") more [] f)

pub refuse_first : (d : Draft) (line : List ℕ) → d.stage ≡ First → (line ≡ codes "sincronia live 1" → ⊥) → Refuses d line
refuse_first d line stage other l more hl e =
    let whole : live_lines l ≡ line ∷ more = e ∙ ap (λ s. lines_before s (live_of d) ++ (line ∷ more)) stage in
    other (sym (head_of (codes "sincronia live 1") line (drop 1 (live_lines l)) more whole))

pub refuse_done : (d : Draft) (line : List ℕ) → IsDraft d → d.stage ≡ Done → Refuses d line
refuse_done d line h stage l more hl e = go (next_of (live_of d) l (codes "end" ∷ line ∷ more) h.live hl whole)
  where
    whole : live_lines l ≡ body_lines (live_of d) ++ (codes "end" ∷ line ∷ more)
    whole = e ∙ (ap (λ s. lines_before s (live_of d) ++ (line ∷ more)) stage ∙ append_assoc (body_lines (live_of d)) (codes "end" ∷ []) (line ∷ more))

    go : Next (live_of d) l (codes "end" ∷ line ∷ more) → ⊥
    go (next_entry x xs rest all o p r f) = absurd (omega (arith, other_mark (codes "end") _ (line ∷ more) rest 0 114 f refl refl))
    go (next_order x xs rest all p r f) = absurd (omega (arith, other_mark (codes "end") _ (line ∷ more) rest 0 101 f refl refl))
    go (next_pull x xs rest all r f) = absurd (omega (arith, other_mark (codes "end") _ (line ∷ more) rest 0 108 f refl refl))
    go (next_run x xs rest all f) = absurd (omega (arith, other_mark (codes "end") _ (line ∷ more) rest 0 32 f refl refl))
    go (next_end same f) = let none : line ∷ more ≡ [] = tail_is (codes "end") (codes "end") (line ∷ more) [] f in absurd cc

-- a text whose lines are all read has its last line read
pub unfinished : (d : Draft) (l : Live) → IsDraft d → d.stage ≢ Done → IsLive l → live_lines l ≡ draft_lines d → ⊥
unfinished d l h early hl e = by d.stage refl
  where
    by : (s : Stage) → d.stage ≡ s → ⊥
    by First at = let none : live_lines l ≡ [] = e ∙ ap (λ s. lines_before s (live_of d)) at in absurd (let count : length (live_lines l) ≡ 0 = ap length none in omega (
      arith,
      count,
      length-append (body_lines l) (codes "end" ∷ []),
    ))
    by Lines at = go (next_of (live_of d) l [] h.live hl (e ∙ (ap (λ s. lines_before s (live_of d)) at ∙ sym (append-nil (body_lines (live_of d))))))
      where
        go : Next (live_of d) l [] → ⊥
        go (next_entry x xs rest all o p r f) = absurd cc
        go (next_order x xs rest all p r f) = absurd cc
        go (next_pull x xs rest all r f) = absurd cc
        go (next_run x xs rest all f) = absurd cc
        go (next_end same f) = absurd cc
    by Done at = early at
