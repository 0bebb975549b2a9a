-- How often a flow stands in the slots of closed runs, and that its slots are clear.
use Rattle.std.proofs.Common.{◌≡◌, ℕ, ◌+◌, ◌-◌, ◌≤◌, ◌<◌, inl, inr, Bool, true, false, List, [], ◌∷◌, length, get_or, map, min, replicate, unwrap_or, refl, sym, ap, subst}
use Rattle.std.proofs.Common.{◌∙◌, arith, append-nil, zero, suc, cond, Contains, Option, Some, None}
use Rattle.std.specs.Prelude.{All, nat_lt, ◌&&◌, if◌then◌else◌, option_to_list, sum_by}
use Rattle.std.specs.List.{filter, flat_map, range_with_len}
use Rattle.std.proofs.lemmas.Bool.{cases_lt, le-ltb, lt-ltb}
use Rattle.std.proofs.lemmas.List.Elements.{All-append, All-filter, All-map, All-replicate}
use Rattle.std.proofs.lemmas.List.Kept.{IsStrictlyIncreasing-filter}
use Rattle.std.proofs.lemmas.List.Sums.{sum_by-cons}
use Rattle.std.proofs.lemmas.List.Folds.{sum_by-replicate}
use Rattle.coflow_units.specs.declared.fabric.Flow.{Flow}
use Rattle.coflow_units.specs.Flows.{ingress_of}
use Rattle.coflow_units.specs.Schedule.{holds, IsClear, times}
use Rattle.coflow_units.proofs.Lists.{filter_in, range_more, filter_all}
use Rattle.coflow_units.proofs.Sums.{any_in, nothing_in, sum_same, sum_zero}
use Rattle.coflow_units.proofs.ServedExists.{times_append}
use Rattle.journal.specs.declared.command.Command.{Command}
use Rattle.journal.specs.declared.command.Entry.{Entry}
use Rattle.journal.specs.declared.command.Reply.{Reply}
use Rattle.journal.specs.declared.command.Reply.TheVariants.{Closed, Skipped}
use Rattle.journal.specs.declared.opening.Opening.{Opening}
use Rattle.journal.specs.State.{has, Run, State}
use Rattle.journal.specs.Runs.{credit, note_in}
use Rattle.journal.specs.Fold.{after, closed, state_of}
use Rattle.journal.specs.Journal.{IsLegal}
use Rattle.journal.specs.Sound.{InRange, IsOpenRun, OnRun, SoundState}
use Rattle.journal.specs.Closed.{schedule_of, slots_added, slots_in}
use Rattle.journal.proofs.RunsInOrder.{closed_run}
use Rattle.journal.proofs.Schedules.{along_schedule}
use Rattle.journal.proofs.Ranges.{range_none, range_same}
use Rattle.journal.proofs.Filters.{holds_filter}

-- ---- counts

sum_map : {X : Type 0} (w : X → ℕ) (h : ℕ → X) (xs : List ℕ) → sum_by w (map h xs) ≡ sum_by (λ x. w (h x)) xs
sum_map w h [] = refl
sum_map w h (x ∷ xs) = omega (arith, sum_by-cons w (h x) (map h xs), sum_by-cons (λ x. w (h x)) x xs, sum_map w h xs)

one_if : (c n : ℕ) → cond {A = ℕ} (nat_lt n c) (min c n + 1) (min c n) ≡ min c (suc n)
one_if c n = elim (cases_lt n c) [
  | inl lt ↦ ap (λ b. cond {A = ℕ} b (min c n + 1) (min c n)) (lt-ltb n c lt) ∙ omega (arith, lt)
  | inr ge ↦ ap (λ b. cond {A = ℕ} b (min c n + 1) (min c n)) (le-ltb n c ge) ∙ omega (arith, ge)
]

add_one : (b : Bool) (m : ℕ) → m + cond {A = ℕ} b 1 0 ≡ cond {A = ℕ} b (m + 1) m
add_one true m = omega arith
add_one false m = omega arith

below : (c n : ℕ) → sum_by (λ i. cond {A = ℕ} (nat_lt i c) 1 0) (range_with_len 0 n) ≡ min c n
below c zero = omega arith
below c (suc n) =
    let e : 0 + n ≡ n = omega arith in
    range_more (λ i. cond (nat_lt i c) 1 0) 0 n ∙ ap (λ m. sum_by (λ i. cond {A = ℕ} (nat_lt i c) 1 0) (range_with_len 0 n) + cond {A = ℕ} (nat_lt m c) 1 0) e
    ∙ ap (λ m. m + cond {A = ℕ} (nat_lt n c) 1 0) (below c n) ∙ add_one (nat_lt n c) (min c n) ∙ one_if c n

as_many : (b : Bool) (c n : ℕ) → c ≤ n → (b ≡ false → c ≡ 0) → sum_by (λ i. cond {A = ℕ} (b && nat_lt i c) 1 0) (range_with_len 0 n) ≡ c
as_many true c n le none = omega (arith, below c n)
as_many false c n le none = sum_zero (range_with_len 0 n) ∙ sym (none refl)

-- a flow stands in as many slots of a run as the run credits to it
pub times_run : (flows : List Flow) (r : Run) (f : ℕ) → credit flows r f ≤ r.slots → times (slots_in flows r) f ≡ credit flows r f
times_run flows r f le =
    let range = range_with_len 0 r.slots in
    let c = credit flows r f in
    sum_map (λ slot. cond (holds slot f) 1 0) (λ i. filter (λ f. nat_lt i (credit flows r f)) r.granted) range
    ∙ sum_same (λ i. cond (holds (filter (λ f. nat_lt i (credit flows r f)) r.granted) f) 1 0) (λ i. cond (has r.granted f && nat_lt i c) 1 0) range
    (λ i in'. ap {B = ℕ} (λ b. cond b 1 0) (holds_filter (λ f. nat_lt i (credit flows r f)) r.granted f))
    ∙ as_many (has r.granted f) c r.slots le (λ e. ap {B = ℕ} (λ b. if b then unwrap_or (note_in r.notes (ingress_of flows f)) r.slots else 0) e)

times_pass : (n f : ℕ) → times (replicate n []) f ≡ 0
times_pass n f = omega (arith, sum_by-replicate (λ slot. cond (holds slot f) 1 0) n [])

-- ---- the units sent

sent_close : (o : Opening) (s : State) (run : Option Run) (f : ℕ) → OnRun run (IsOpenRun o.table.flows s.sent s.next) → 1 ≤ s.next →
    s.sent f + times (flat_map (slots_in o.table.flows) (option_to_list run)) f ≡ (closed o s run).sent f
sent_close o s None f open' some = omega arith
sent_close o s (Some r) f open' some =
    omega (arith, ap (λ l. times l f) (append-nil (slots_in o.table.flows r)), times_run o.table.flows r f ((closed_run o.table.flows s.sent s.next r some open').credits f))

sent_step : (o : Opening) (s : State) (k : Command) (reply : Reply) (f : ℕ) → SoundState o s →
    s.sent f + times (slots_added o.table.flows s.next s.run reply) f ≡ (after o s k reply).sent f
sent_step o s k (Closed slot) f sound = sent_close o s s.run f sound.open_run sound.next_some
sent_step o s k (Skipped slot) f sound = omega (arith, times_pass (slot - s.next) f)
sent_step o s k reply f sound = omega arith

-- a flow stands in as many slots of the schedule as it was sent units
pub times_is_sent : (o : Opening) (journal : List Entry) (f : ℕ) → IsLegal o journal → InRange o journal → times (schedule_of o journal) f ≡ (state_of o journal).sent f
times_is_sent o journal f legal ok =
    along_schedule o (λ slots s. times slots f ≡ s.sent f)
    (λ s k reply slots sound tells h. times_append slots (slots_added o.table.flows s.next s.run reply) f ∙ omega (arith, h, sent_step o s k reply f sound)) refl journal legal ok

-- ---- clear slots

filter_clear : (flows : List Flow) (p : ℕ → Bool) (slot : List ℕ) → IsClear flows slot → IsClear flows (filter p slot)
filter_clear flows p slot h = record {
  ascending = IsStrictlyIncreasing-filter p slot h.ascending;
  flow = All-filter p (λ f. f < length flows) slot h.flow;
  apart = λ f g hf hg shares. h.apart f g (filter_in p slot f hf).0 (filter_in p slot g hg).0 shares;
}

none_clear : (flows : List Flow) → IsClear flows []
none_clear flows = record { ascending = λ k lt. absurd (omega arith); flow = λ k d lt. absurd (omega arith); apart = λ f g hf hg shares. absurd (nothing_in f hf) }

pub run_clear : (flows : List Flow) (r : Run) → IsClear flows r.granted → All (IsClear flows) (slots_in flows r)
run_clear flows r h =
    All-map (IsClear flows) (λ i. filter (λ f. nat_lt i (credit flows r f)) r.granted) (range_with_len 0 r.slots)
    (λ k d lt. filter_clear flows (λ f. nat_lt (get_or (range_with_len 0 r.slots) k d) (credit flows r f)) r.granted h)

clear_close : (o : Opening) (s : State) (run : Option Run) → OnRun run (IsOpenRun o.table.flows s.sent s.next) →
    All (IsClear o.table.flows) (flat_map (slots_in o.table.flows) (option_to_list run))
clear_close o s None open' = λ k d lt. absurd (omega arith)
clear_close o s (Some r) open' = subst (All (IsClear o.table.flows)) (sym (append-nil (slots_in o.table.flows r))) (run_clear o.table.flows r open'.clear)

clear_step : (o : Opening) (s : State) (reply : Reply) → SoundState o s → All (IsClear o.table.flows) (slots_added o.table.flows s.next s.run reply)
clear_step o s (Closed slot) sound = clear_close o s s.run sound.open_run
clear_step o s (Skipped slot) sound = All-replicate (IsClear o.table.flows) (slot - s.next) [] (none_clear o.table.flows)
clear_step o s reply sound = λ k d lt. absurd (omega arith)

-- no two flows of a slot share a port
pub slots_clear : (o : Opening) (journal : List Entry) → IsLegal o journal → InRange o journal → All (IsClear o.table.flows) (schedule_of o journal)
slots_clear o journal legal ok =
    along_schedule o (λ slots s. All (IsClear o.table.flows) slots)
    (λ s k reply slots sound tells h. All-append (IsClear o.table.flows) slots (slots_added o.table.flows s.next s.run reply) h (clear_step o s reply sound))
    (λ k d lt. absurd (omega arith)) journal legal ok

-- ---- a run without notes

-- where each granted flow is credited all slots, the slots are equal
pub even_slots : (flows : List Flow) (r : Run) → ((f : ℕ) → Contains r.granted f → credit flows r f ≡ r.slots) → slots_in flows r ≡ replicate r.slots r.granted
even_slots flows r full =
    range_same (λ i. filter (λ f. nat_lt i (credit flows r f)) r.granted) (λ i. r.granted) 0 r.slots
    (λ i low high. filter_all (λ f. nat_lt i (credit flows r f)) r.granted (λ f has. lt-ltb i (credit flows r f) (omega (arith, full f has))))
    ∙ range_none r.granted 0 r.slots

pub full_credit : (flows : List Flow) (r : Run) (f : ℕ) → r.notes ≡ [] → Contains r.granted f → credit flows r f ≡ r.slots
full_credit flows r f none has =
    ap {B = ℕ} (λ b. if b then unwrap_or (note_in r.notes (ingress_of flows f)) r.slots else 0) (any_in r.granted f has) ∙
    ap (λ l. unwrap_or (note_in l (ingress_of flows f)) r.slots) none

pub unnoted_slots : (flows : List Flow) (r : Run) → r.notes ≡ [] → slots_in flows r ≡ replicate r.slots r.granted
unnoted_slots flows r none = even_slots flows r (λ f has. full_credit flows r f none has)
