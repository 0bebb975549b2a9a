-- The runs of a plan: they serve its order, and each ends a flow.
use Rattle.std.proofs.Common.{◌≡◌, ℕ, ◌+◌, ◌*◌, ◌-◌, ◌≤◌, ◌<◌, inl, inr, true}
use Rattle.std.proofs.Common.{List, [], ◌∷◌, ◌++◌, get_or, length, refl, sym, ap, subst, ◌∙◌, arith, cond, append_assoc, append-nil}
use Rattle.std.specs.Prelude.{All, Contains, flat_map, map, min}
use Rattle.std.specs.List.{range_with_len}
use Rattle.std.proofs.lemmas.Bool.{cases_lt, le-ltb}
use Rattle.std.proofs.lemmas.List.Concat.{flat_map-append}
use Rattle.std.proofs.lemmas.List.Elements.{All-contains, All-nil, Contains-append_right, Contains-get_or}
use Rattle.coflow_units.specs.declared.fabric.Flow.{Flow}
use Rattle.coflow_units.specs.declared.limits.TheConstants.{MAX_SLOT, MAX_UNITS}
use Rattle.coflow_units.specs.Flows.{coflow_of}
use Rattle.coflow_units.specs.Served.{IsServed, IsServedSoFar}
use Rattle.coflow_units.proofs.Sums.{any_in, in_first}
use Rattle.journal.specs.declared.command.Command.{Command}
use Rattle.journal.specs.declared.command.Command.TheVariants.{Open}
use Rattle.journal.specs.declared.command.Entry.{Entry}
use Rattle.journal.specs.declared.command.Reply.TheVariants.{Closed, NothingLeft}
use Rattle.journal.specs.declared.opening.Opening.{Opening}
use Rattle.journal.specs.State.{has, is_present, IsOpening, Run, slot_end, State}
use Rattle.journal.specs.Closed.{closed_runs, flows_in, IsClosedRun, schedule_of}
use Rattle.journal.specs.Counts.{IsWhole}
use Rattle.journal.specs.Driven.{closed_in, closing, Drive, IsDriven, opening, opened_in}
use Rattle.journal.specs.Ends.{IsLongAsAsked, runs_without_end}
use Rattle.journal.specs.Fold.{state_of}
use Rattle.journal.specs.Journal.{entry, IsLegal, line_of}
use Rattle.journal.specs.Sound.{InRange}
use Rattle.journal.proofs.Counting.{unnoted, units_within}
use Rattle.journal.proofs.Ending.{ends_among, few_endings, few_flows}
use Rattle.journal.proofs.Legal.{legal_front}
use Rattle.journal.proofs.Longest.{whole_without_end}
use Rattle.journal.proofs.NextSlots.{few_by_units}
use Rattle.journal.proofs.Present.{line_present}
use Rattle.journal.proofs.Replies.{nothing_is_left}
use Rattle.journal.proofs.RunsInOrder.{closed_sound}
use Rattle.journal.proofs.ScheduleTimes.{times_is_sent}
use Rattle.journal.proofs.ServingRuns.{serves_on}
use Rattle.journal.proofs.Versions.{legal_there}
use Rattle.hall_plan.specs.Journals.{beginning, plan_journal, plan_order, run_entries}
use Rattle.hall_plan.proofs.Begun.{begun_is, in_order, line_is}
use Rattle.hall_plan.proofs.PlanEntries.{all_entries, closings_are_runs, commands_fit, entry_count, no_notes, no_skips}

-- ---- a run of a plan is a driven run

abbrev pub run_drive : ℕ × ℕ × ℕ → Drive
run_drive r = record { earlier = []; most = MAX_SLOT; first = r.0; slots = r.1; count = r.2; between = []; answer = Closed r.0; sent = λ p. r.1 }

goes_on_so : (before : List Entry) (r : ℕ × ℕ × ℕ) → before ++ run_entries r ≡ closed_in before (run_drive r) ++ closing (run_drive r) ∷ []
goes_on_so before r =
    let d = run_drive r in
    sym (
    ap (λ l. l ++ closing d ∷ []) (append-nil ((before ++ []) ++ opening d ∷ [])) ∙ ap (λ l. (l ++ opening d ∷ []) ++ closing d ∷ []) (append-nil before) ∙
    append_assoc before (opening d ∷ []) (closing d ∷ [])
    )

pub is_driven : (o : Opening) (before : List Entry) (r : ℕ × ℕ × ℕ) → IsDriven o before (before ++ run_entries r) (run_drive r)
is_driven o before r = record {
  goes_on = goes_on_so before r;
  under_way = record { goes_on = refl; earlier = All-nil _; between = All-nil _; once = λ port. omega arith; in_order = λ i j x less lt. absurd (omega arith) };
  within = λ f in'. omega arith;
  noted = λ f in'. sym (ap {B = ℕ} (λ b. cond b 1 0) (le-ltb r.1 r.1 (omega arith)));
}

-- ---- fronts of a plan

pub split : (o : Opening) (done more : List (ℕ × ℕ × ℕ)) → plan_journal o (done ++ more) ≡ plan_journal o done ++ flat_map run_entries more
split o done more =
    ap (λ l. beginning o ++ l) (flat_map-append run_entries done more) ∙ sym (append_assoc (beginning o) (flat_map run_entries done) (flat_map run_entries more))

front_legal : (o : Opening) (done more : List (ℕ × ℕ × ℕ)) → IsLegal o (plan_journal o (done ++ more)) → IsLegal o (plan_journal o done)
front_legal o done more legal = legal_front o [] (plan_journal o done) (flat_map run_entries more) (subst (IsLegal o) (split o done more) legal)

-- ---- they serve the order

abbrev pub Serves : Opening → List (ℕ × ℕ × ℕ) → Type 0
Serves o runs = IsServedSoFar o.table.flows (plan_order o) (schedule_of o (plan_journal o runs))

one_more : (o : Opening) (done : List (ℕ × ℕ × ℕ)) (r : ℕ × ℕ × ℕ) → IsOpening o → IsLegal o (plan_journal o (done ++ r ∷ [])) → Serves o done → Serves o (done ++ r ∷ [])
one_more o done r ok legal h =
    let flows = o.table.flows in
    let j = plan_journal o done in
    let is : plan_journal o (done ++ r ∷ []) ≡ j ++ run_entries r = split o done (r ∷ []) in
    let line : line_of o (opened_in j (run_drive r)) ≡ plan_order o = ap (line_of o) (append-nil j) ∙ line_is o done ok in
    let next = serves_on o j (j ++ run_entries r) (run_drive r) (subst (IsLegal o) is legal) (subst (InRange o) is (commands_fit o (done ++ r ∷ []))) (is_driven o j r)
    (λ f in'. refl) (subst (λ l. IsServedSoFar flows l (schedule_of o j)) (sym line) h) in
    subst (λ k. IsServedSoFar flows (plan_order o) (schedule_of o k)) (sym is) (subst (λ l. IsServedSoFar flows l (schedule_of o (j ++ run_entries r))) line next)

serve_more : (o : Opening) (done more : List (ℕ × ℕ × ℕ)) → IsOpening o → IsLegal o (plan_journal o (done ++ more)) → Serves o done → Serves o (done ++ more)
serve_more o done [] ok legal h = subst (Serves o) (sym (append-nil done)) h
serve_more o done (r ∷ rs) ok legal h =
    let again : (done ++ r ∷ []) ++ rs ≡ done ++ (r ∷ rs) = append_assoc done (r ∷ []) rs in
    let legal' = subst (λ l. IsLegal o (plan_journal o l)) (sym again) legal in
    subst (Serves o) again (serve_more o (done ++ r ∷ []) rs ok legal' (one_more o done r ok (front_legal o (done ++ r ∷ []) rs legal') h))

nothing_served : (o : Opening) → schedule_of o (beginning o) ≡ []
nothing_served o = ap (λ (s : State). map (flows_in o.table.flows (closed_runs o (beginning o))) (range_with_len 1 (s.next - 1))) (begun_is o)

pub nothing_yet : (o : Opening) → schedule_of o (plan_journal o []) ≡ []
nothing_yet o = ap (schedule_of o) (append-nil (beginning o)) ∙ nothing_served o

serve_none : (o : Opening) → Serves o []
serve_none o =
    subst (λ l. IsServedSoFar o.table.flows (plan_order o) l) (sym (nothing_yet o))
    (record { grants = λ t lt. absurd (omega arith); owed = λ t lt. absurd (omega arith) })

pub serves : (o : Opening) (runs : List (ℕ × ℕ × ℕ)) → IsOpening o → IsLegal o (plan_journal o runs) → Serves o runs
serves o runs ok legal = serve_more o [] runs ok legal (serve_none o)

-- ---- to the end

present : (o : Opening) (runs : List (ℕ × ℕ × ℕ)) (f : ℕ) → IsOpening o → f < length o.table.flows →
    is_present (state_of o (plan_journal o runs)) (coflow_of o.table.flows f) ≡ true
present o runs f ok lt =
    let c = coflow_of o.table.flows f in
    let zero' : Flow = record { coflow = 0; ingress = 0; egress = 0; units = 0 } in
    let low : c < length o.table.ids = ok.table.coflow f zero' lt in
    sym (line_present o (plan_journal o runs) ok c) ∙ ap (λ l. has l c) (line_is o runs ok) ∙ any_in (plan_order o) c (in_order o ok c low)

pub serves_all : (o : Opening) (runs : List (ℕ × ℕ × ℕ)) (most : ℕ) → IsOpening o → IsLegal o (plan_journal o runs ++ entry 0 (Open most) NothingLeft ∷ []) →
    IsServed o.table.flows (plan_order o) (schedule_of o (plan_journal o runs))
serves_all o runs most ok legal =
    let j = plan_journal o runs in
    let e = entry 0 (Open most) NothingLeft in
    let front = legal_front o [] j (e ∷ []) legal in
    let there = (legal_there o j [] e legal).0 in
    record {
      so_far = serves o runs ok front;
      ended = λ f lt. omega (arith, times_is_sent o j f front (commands_fit o runs), nothing_is_left o j most f ok (sym there) lt (present o runs f ok lt));
    }

-- ---- they are few

pub few_slots : (o : Opening) (runs : List (ℕ × ℕ × ℕ)) → IsOpening o → IsLegal o (plan_journal o runs) → (state_of o (plan_journal o runs)).next ≤ MAX_UNITS + 1
few_slots o runs ok legal =
    let j = plan_journal o runs in
    omega (
      arith,
      few_by_units o j legal (commands_fit o runs) (no_notes o runs),
      no_skips o runs,
      units_within o j legal (commands_fit o runs),
      ok.table.few_units,
    )

abbrev most_of : Command → ℕ
most_of (Open most) = most
most_of k = MAX_SLOT

all_asked : (o : Opening) (runs : List (ℕ × ℕ × ℕ)) → All (λ (e : Entry). most_of e.command ≡ MAX_SLOT) (plan_journal o runs)
all_asked o runs = all_entries (λ (e : Entry). most_of e.command ≡ MAX_SLOT) o runs (λ c lt. refl) refl (λ r. (refl, refl))

-- a run in which no flow ended would reach the last slot
none_without_end : (o : Opening) (runs : List (ℕ × ℕ × ℕ)) (r : Run) → IsOpening o → IsLegal o (plan_journal o runs) → Contains (runs_without_end o (plan_journal o runs)) r → ⊥
none_without_end o runs r ok legal in' =
    let j = plan_journal o runs in
    let fit = commands_fit o runs in
    let there = ends_among o j r in' in
    let closed = All-contains (IsClosedRun o.table.flows (state_of o j).next) (closed_runs o j) r (closed_sound o j legal fit).each there in
    let whole = All-contains IsWhole (closed_runs o j) r (unnoted o j legal (no_notes o runs)).closed there in
    let (x, long) = All-contains (λ (r : Run). r.notes ≡ [] → IsLongAsAsked o j r) (runs_without_end o j) r (whole_without_end o j legal) in' whole.1 in
    let entered : Contains j x.entry = subst (λ l. Contains l x.entry) (sym x.stands) (Contains-append_right x.before (x.entry ∷ x.more) x.entry (in_first x.entry x.more)) in
    let asked : x.most ≡ MAX_SLOT = sym (ap most_of x.command) ∙ All-contains (λ (e : Entry). most_of e.command ≡ MAX_SLOT) j x.entry (all_asked o runs) entered in
    let exact : r.slots ≡ min MAX_SLOT (slot_end - r.first) = long ∙ ap (λ m. min m (slot_end - r.first)) asked in
    omega (arith, exact, closed.ends, few_slots o runs ok legal)

no_more : (o : Opening) (runs : List (ℕ × ℕ × ℕ)) → IsOpening o → IsLegal o (plan_journal o runs) → length (runs_without_end o (plan_journal o runs)) ≡ 0
no_more o runs ok legal =
    let l = runs_without_end o (plan_journal o runs) in
    let none : Run = record { first = 0; slots = 0; granted = []; notes = [] } in
    elim (cases_lt 0 (length l)) [
      | inl some ↦ absurd (none_without_end o runs (get_or l 0 none) ok legal (Contains-get_or l 0 none some))
      | inr no' ↦ omega (arith, no')
    ]

pub few_runs : (o : Opening) (runs : List (ℕ × ℕ × ℕ)) → IsOpening o → IsLegal o (plan_journal o runs) → length runs ≤ length o.table.flows
few_runs o runs ok legal =
    let j = plan_journal o runs in
    omega (arith, closings_are_runs o runs, few_endings o j legal (commands_fit o runs), few_flows o j, no_more o runs ok legal)

pub few_entries : (o : Opening) (runs : List (ℕ × ℕ × ℕ)) → IsOpening o → IsLegal o (plan_journal o runs) →
    length (plan_journal o runs) ≤ length o.table.ids + 2 * length o.table.flows + 1
few_entries o runs ok legal = omega (arith, entry_count o runs, few_runs o runs ok legal)
