-- What the wires were sent, beside the schedule.
use Rattle.std.proofs.Common.{◌≡◌, ℕ, ◌+◌, ◌-◌, ◌<◌, inl, inr, Bool, true, false, true≢false, List, [], ◌∷◌, ◌++◌, get_or, map, Contains, refl, sym, ap, subst, ◌∙◌, arith, zero}
use Rattle.std.proofs.Common.{suc, cond, Option, Some, None}
use Rattle.std.specs.Prelude.{All, AllPairs, nat_le, nat_lt, ◌&&◌, ◌||◌, ◌==◌}
use Rattle.std.specs.List.{flat_map, range_with_len}
use Rattle.std.proofs.lemmas.Bool.{and_left, and_right, cases_eq, cases_lt, eq-eqb, eqb-true, le-ltb, lt-leb, ltb-true, ne_eqb, and_parts}
use Rattle.std.proofs.lemmas.List.{get_or_past}
use Rattle.std.proofs.lemmas.List.FromFn.{get_or-map-range_with_len, length-map-range_with_len}
use Rattle.std.proofs.lemmas.List.Folds.{list_any-append}
use Rattle.std.proofs.lemmas.List.Sums.{sum_by-append}
use Rattle.coflow_units.specs.declared.fabric.Flow.{Flow}
use Rattle.coflow_units.specs.Flows.{ingress_of}
use Rattle.coflow_units.specs.Schedule.{holds, IsClear}
use Rattle.coflow_units.proofs.Sums.{any_has, any_in}
use Rattle.journal.specs.declared.command.Entry.{Entry}
use Rattle.journal.specs.declared.opening.Opening.{Opening}
use Rattle.journal.specs.State.{has, Run}
use Rattle.journal.specs.Runs.{credit, grant_in}
use Rattle.journal.specs.Fold.{state_of}
use Rattle.journal.specs.Journal.{IsLegal}
use Rattle.journal.specs.Sound.{InRange}
use Rattle.journal.specs.Closed.{closed_runs, flows_in, has_unit, IsClosedRun, IsEarlier, reaches, run_in, schedule_of, sent_at, sent_by, sent_run, times_on, wire_of}
use Rattle.journal.proofs.Ingresses.{grant_is, grant_none}
use Rattle.journal.proofs.RunsInOrder.{closed_sound}
use Rattle.journal.proofs.RunSlots.{none_past, run_before}
use Rattle.journal.proofs.Filters.{holds_filter}

-- ---- one run

not_both : (a b c : Bool) → (a ≡ true → b ≡ true → ⊥) → (a && (b && c)) ≡ false
not_both true true c wrong = absurd (wrong refl refl)
not_both true false c wrong = refl
not_both false b c wrong = refl

both : (a b c : Bool) → a ≡ true → b ≡ true → (a && (b && c)) ≡ c
both true b c refl' e = ap (λ d. d && c) e
both false b c wrong e = absurd (true≢false (sym wrong))

one : (b : Bool) → cond {A = ℕ} b 1 0 ≡ 0 + cond {A = ℕ} b 1 0
one b = omega arith

never : (a slot : ℕ) → (nat_le a slot && nat_lt slot (a + 0)) ≡ false
never a slot = elim (cases_lt slot a) [
  | inl lt ↦ and_left (nat_le a slot) (nat_lt slot (a + 0)) (lt-leb a slot lt)
  | inr ge ↦ and_right (nat_le a slot) (nat_lt slot (a + 0)) (le-ltb slot (a + 0) (omega (arith, ge)))
]

times_sent : (a g n slot f : ℕ) → times_on (sent_run a g n) slot f ≡ cond {A = ℕ} ((g == f) && (nat_le a slot && nat_lt slot (a + n))) 1 0
times_sent a g zero slot f = sym (ap {B = ℕ} (λ b. cond b 1 0) (and_right (g == f) (nat_le a slot && nat_lt slot (a + 0)) (never a slot)))
times_sent a g (suc n) slot f =
    ap (λ (b : Bool). times_on (cond b [] ((a, g, suc n) ∷ [])) slot f) (ne_eqb (suc n) 0 (λ e. omega (arith, e))) ∙
    sym (one ((g == f) && (nat_le a slot && nat_lt slot (a + suc n))))

at_grant : (flows : List Flow) (r : Run) (port slot f : ℕ) (g : Option ℕ) → IsClear flows r.granted → grant_in flows r.granted port ≡ g →
    times_on (sent_by flows r g) slot f ≡ cond {A = ℕ} ((ingress_of flows f == port) && (has r.granted f && reaches flows r slot f)) 1 0
at_grant flows r port slot f None clear e =
    sym (ap {B = ℕ} (λ b. cond b 1 0)
    (not_both (ingress_of flows f == port) (has r.granted f) (reaches flows r slot f)
    (λ at in'. grant_none flows r.granted port f e (any_has r.granted f in') (eqb-true (ingress_of flows f) port at))))
at_grant flows r port slot f (Some g) clear e =
    let (has, here) = grant_is flows r.granted port g e in
    times_sent r.first g (credit flows r g) slot f ∙ ap {B = ℕ} (λ b. cond b 1 0) (elim (cases_eq g f) [
      | inl same ↦
          ap (λ b. b && reaches flows r slot g) (eq-eqb g f same) ∙ ap (reaches flows r slot) same
          ∙ sym (both (ingress_of flows f == port) (holds r.granted f) (reaches flows r slot f) (eq-eqb (ingress_of flows f) port (ap (ingress_of flows) (sym same) ∙ here))
          (any_in r.granted f (subst (Contains r.granted) same has)))
      | inr other ↦
          and_left (g == f) (reaches flows r slot g) (ne_eqb g f other)
          ∙ sym (not_both (ingress_of flows f == port) (holds r.granted f) (reaches flows r slot f)
          (λ at in'. other (clear.apart g f has (any_has r.granted f in') (inl (here ∙ sym (eqb-true (ingress_of flows f) port at))))))
    ])

-- a run sent a pair of a slot and a flow from the ingress of the flow, once, where the flow stands in the slot for it
run_pair : (flows : List Flow) (r : Run) (port slot f : ℕ) → IsClear flows r.granted →
    times_on (sent_at flows port r) slot f ≡ cond {A = ℕ} ((ingress_of flows f == port) && holds (run_in flows slot r) f) 1 0
run_pair flows r port slot f clear =
    at_grant flows r port slot f (grant_in flows r.granted port) clear refl ∙
    ap {B = ℕ} (λ b. cond ((ingress_of flows f == port) && b) 1 0) (sym (holds_filter (reaches flows r slot) r.granted f))

-- ---- all runs

none_before : (flows : List Flow) (slot : ℕ) (runs : List Run) → All (λ (r : Run). slot < r.first) runs → flows_in flows runs slot ≡ []
none_before flows slot [] all = refl
none_before flows slot (r ∷ rs) all = ap (λ l. l ++ flows_in flows rs slot) (run_before flows slot r (all 0 r (omega arith))) ∙
    none_before flows slot rs (λ k d lt. all (suc k) d (omega arith))

apart_sum : (a x y : Bool) → (x ≡ true → y ≡ false) → cond {A = ℕ} (a && x) 1 0 + cond {A = ℕ} (a && y) 1 0 ≡ cond {A = ℕ} (a && (x || y)) 1 0
apart_sum false x y out = refl
apart_sum true false y out = sym (one y)
apart_sum true true y out = ap {B = ℕ} (λ b. 1 + cond b 1 0) (out refl)

-- a flow that stands in the slot for a run
stands : (flows : List Flow) (slot : ℕ) (r : Run) (f : ℕ) → holds (run_in flows slot r) f ≡ true → slot < r.first + credit flows r f
stands flows slot r f e =
    let parts = and_parts (holds r.granted f) (reaches flows r slot f) (sym (holds_filter (reaches flows r slot) r.granted f) ∙ e) in
    ltb-true slot (r.first + credit flows r f) (and_parts (nat_le r.first slot) (nat_lt slot (r.first + credit flows r f)) parts.1).1

pub runs_pair : (flows : List Flow) (next : ℕ) (runs : List Run) (port slot f : ℕ) → All (IsClosedRun flows next) runs → AllPairs IsEarlier runs →
    times_on (flat_map (sent_at flows port) runs) slot f ≡ cond {A = ℕ} ((ingress_of flows f == port) && holds (flows_in flows runs slot) f) 1 0
runs_pair flows next [] port slot f all apart = sym (ap {B = ℕ} (λ b. cond b 1 0) (and_right (ingress_of flows f == port) false refl))
runs_pair flows next (r ∷ rs) port slot f all apart =
    let here = all 0 r (omega arith) in
    let at = ingress_of flows f == port in
    let rest = runs_pair flows next rs port slot f (λ k d lt. all (suc k) d (omega arith)) (λ i j d less lt. apart (suc i) (suc j) d (omega arith) (omega arith)) in
    let later = λ (e : holds (run_in flows slot r) f ≡ true).
    ap (λ l. holds l f) (none_before flows slot rs (λ k d lt. omega (arith, stands flows slot r f e, here.credits f, apart 0 (suc k) d (omega arith) (omega arith)))) in
    sum_by-append (λ x. cond (has_unit slot f x) 1 0) (sent_at flows port r) (flat_map (sent_at flows port) rs)
    ∙ ap (λ n. n + times_on (flat_map (sent_at flows port) rs) slot f) (run_pair flows r port slot f here.clear) ∙
    ap (λ n. cond {A = ℕ} (at && holds (run_in flows slot r) f) 1 0 + n) rest
    ∙ apart_sum at (holds (run_in flows slot r) f) (holds (flows_in flows rs slot) f) later
    ∙ ap {B = ℕ} (λ b. cond (at && b) 1 0) (sym (list_any-append (λ g. g == f) (run_in flows slot r) (flows_in flows rs slot)))

-- ---- the schedule by its slots

past_case : (flows : List Flow) (runs : List Run) (next k : ℕ) → All (IsClosedRun flows next) runs →
    get_or (map (flows_in flows runs) (range_with_len 1 (next - 1))) k [] ≡ flows_in flows runs (k + 1)
past_case flows runs next k all = elim (cases_lt k (next - 1)) [
  | inl lt ↦ get_or-map-range_with_len (flows_in flows runs) 1 (next - 1) k (k + 1) [] lt (omega arith)
  | inr ge ↦ get_or_past (map (flows_in flows runs) (range_with_len 1 (next - 1))) k [] (omega (arith, ge, length-map-range_with_len (flows_in flows runs) 1 (next - 1))) ∙
      sym (none_past flows next (k + 1) runs all (omega (arith, ge)))
]

pub slot_is : (o : Opening) (journal : List Entry) (k : ℕ) → IsLegal o journal → InRange o journal →
    get_or (schedule_of o journal) k [] ≡ flows_in o.table.flows (closed_runs o journal) (k + 1)
slot_is o journal k legal ok = past_case o.table.flows (closed_runs o journal) (state_of o journal).next k (closed_sound o journal legal ok).each

-- a pair of a slot and a flow stands in the wire of the flow's ingress, once, exactly where it stands in the schedule, and in no other wire
pub pair_once : (o : Opening) (journal : List Entry) (port k f : ℕ) → IsLegal o journal → InRange o journal →
    times_on (wire_of o journal port) (k + 1) f ≡ cond {A = ℕ} ((ingress_of o.table.flows f == port) && holds (get_or (schedule_of o journal) k []) f) 1 0
pair_once o journal port k f legal ok =
    let h = closed_sound o journal legal ok in
    runs_pair o.table.flows (state_of o journal).next (closed_runs o journal) port (k + 1) f h.each h.apart
    ∙ ap {B = ℕ} (λ l. cond ((ingress_of o.table.flows f == port) && holds l f) 1 0) (sym (slot_is o journal k legal ok))

no_slot_none : (flows : List Flow) (next : ℕ) (runs : List Run) → All (IsClosedRun flows next) runs → flows_in flows runs 0 ≡ []
no_slot_none flows next runs all = none_before flows 0 runs (λ k d lt. omega (arith, (all k d lt).first))

-- no wire has a unit in a slot 0
pub none_in_zero : (o : Opening) (journal : List Entry) (port f : ℕ) → IsLegal o journal → InRange o journal → times_on (wire_of o journal port) 0 f ≡ 0
none_in_zero o journal port f legal ok =
    let h = closed_sound o journal legal ok in
    runs_pair o.table.flows (state_of o journal).next (closed_runs o journal) port 0 f h.each h.apart
    ∙ ap {B = ℕ} (λ l. cond ((ingress_of o.table.flows f == port) && holds l f) 1 0) (no_slot_none o.table.flows (state_of o journal).next (closed_runs o journal) h.each)
    ∙ ap {B = ℕ} (λ b. cond b 1 0) (and_right (ingress_of o.table.flows f == port) false refl)
