-- What a driven run makes of a journal.
use Rattle.std.proofs.Common.{◌≡◌, ℕ, ◌+◌, ◌≤◌, ◌<◌, inl, inr, Bool, true, false, List, [], ◌∷◌, ◌++◌, Contains, get_or, length, map, replicate, refl, sym, ap, subst, ◌∙◌, arith}
use Rattle.std.proofs.Common.{cond, append_assoc, append-nil, Option, Some, None, unwrap_or}
use Rattle.std.specs.Prelude.{◌||◌, count_by, not, nat_lt, if◌then◌else◌}
use Rattle.std.specs.List.{filter, flat_map, list_any, range_with_len}
use Rattle.std.proofs.lemmas.Bool.{and_parts, cases_Bool, cases_lt, lt-ltb}
use Rattle.std.proofs.lemmas.List.Sums.{sum_by-cons}
use Rattle.coflow_units.specs.declared.fabric.Flow.{Flow}
use Rattle.coflow_units.specs.Flows.{ingress_of}
use Rattle.coflow_units.specs.Grants.{IsGrants}
use Rattle.coflow_units.proofs.ServedLaws.{grants_clear}
use Rattle.coflow_units.proofs.Sums.{any_has, any_in}
use Rattle.coflow_units.proofs.Bools.{same_if}
use Rattle.coflow_units.proofs.Lists.{filter_all, filter_same}
use Rattle.journal.specs.declared.command.Command.TheVariants.{Close}
use Rattle.journal.specs.declared.command.Entry.{Entry}
use Rattle.journal.specs.declared.command.Reply.TheVariants.{NoneOpen, Closed}
use Rattle.journal.specs.declared.opening.Opening.{Opening}
use Rattle.journal.specs.State.{has, owed, Run, State}
use Rattle.journal.specs.Runs.{credit, grant_in, note_in}
use Rattle.journal.specs.Fold.{after, closed, state_of}
use Rattle.journal.specs.Answer.{in_range, on_run}
use Rattle.journal.specs.Journal.{IsLegal, line_of}
use Rattle.journal.specs.Sound.{InRange}
use Rattle.journal.proofs.Growth.{state_snoc}
use Rattle.journal.proofs.Legal.{legal_front}
use Rattle.journal.proofs.Opened.{opened_grants}
use Rattle.journal.specs.Closed.{LeavesSlots, closed_by, closed_runs, schedule_of, sent_at, sent_by, sent_run, slots_added, slots_in, wire_of}
use Rattle.journal.specs.Driven.{closed_in, closing, CreditsAsSent, Drive, driven, driven_run, driven_slots, GoesOnByRun, is_other, IsDriven, IsUnderWay, notes_port, opened_in}
use Rattle.journal.specs.Driven.{opening}
use Rattle.journal.specs.Entries.{is_driving}
use Rattle.journal.proofs.Between.{answered, between, IsBetween, IsNoteOf, mkr, not_driving}
use Rattle.journal.proofs.Leaving.{others_leave, slots_both, slots_push}
use Rattle.journal.proofs.ClosedSteps.{closed_push, wire_push}
use Rattle.journal.proofs.Ingresses.{grant_at, grant_is}
use Rattle.journal.proofs.Schedules.{schedule_push}
use Rattle.journal.proofs.Ranges.{range_none, range_same}
use Rattle.journal.proofs.Along.{all_front}
use Rattle.journal.proofs.EntryTells.{entry_tells}

-- ---- what is credited

from_note : (d : Drive) (p : ℕ) (told : Option ℕ) → d.sent p ≤ d.slots → IsNoteOf d p told → (d.sent p < d.slots → told ≡ Some (d.sent p)) → unwrap_or told d.slots ≡ d.sent p
from_note d p told le (inr e) low = ap (λ (n : Option ℕ). unwrap_or n d.slots) e
from_note d p told le (inl e) low = elim (cases_lt (d.sent p) d.slots) [
  | inl lt ↦ ap (λ (n : Option ℕ). unwrap_or n d.slots) (low lt)
  | inr ge ↦ ap (λ (n : Option ℕ). unwrap_or n d.slots) e ∙ omega (arith, le, ge)
]

own : (flows : List Flow) (d : Drive) (r : Run) → r.slots ≡ d.slots → CreditsAsSent flows d r → slots_in flows r ≡ driven_slots flows r.granted d
own flows d r len sent =
    ap (λ n. map (λ i. filter (λ f. nat_lt i (credit flows r f)) r.granted) (range_with_len 0 n)) len
    ∙ range_same (λ i. filter (λ f. nat_lt i (credit flows r f)) r.granted) (λ i. filter (λ f. nat_lt i (d.sent (ingress_of flows f))) r.granted) 0 d.slots
    (λ i low high. filter_same (λ f. nat_lt i (credit flows r f)) (λ f. nat_lt i (d.sent (ingress_of flows f))) r.granted (λ f in'. ap (nat_lt i) (sent f in')))

on_wire : (flows : List Flow) (d : Drive) (r : Run) (port : ℕ) (g : Option ℕ) → r.first ≡ d.first → grant_in flows r.granted port ≡ g → CreditsAsSent flows d r →
    sent_by flows r g ≡ driven_run d port g
on_wire flows d r port None first e sent = refl
on_wire flows d r port (Some f) first e sent =
    let (in', at) = grant_is flows r.granted port f e in
    ap (λ a. sent_run a f (credit flows r f)) first ∙ ap (sent_run d.first f) (sent f in' ∙ ap d.sent at)

-- ---- the closing

-- the run is the driven one, with the units that were sent
record IsRunOf (o : Opening) (before : List Entry) (d : Drive) (r : Run) : Type 0 where
  first : r.first ≡ d.first
  slots : r.slots ≡ d.slots
  granted : r.granted ≡ driven o before d
  credits : CreditsAsSent o.table.flows d r

-- What is known of a journal that ends with the closing of a run: the run that was open, and that the rest is as it was before.
record IsEnd (o : Opening) (before j : List Entry) (d : Drive) (r : Run) : Type 0 where
  run : (state_of o j).run ≡ Some r
  as_driven : IsRunOf o before d r
  leaves : LeavesSlots o before j
  none : (state_of o before).run ≡ None
  at_next : d.first ≡ (state_of o before).next
  grants : IsGrants o.table.flows (line_of o (opened_in before d)) (owed o (state_of o (opened_in before d))) (driven o before d)
  count : d.count ≡ length (driven o before d)

ends : (o : Opening) (before : List Entry) (d : Drive) (r : Run) → IsLegal o (closed_in before d ++ closing d ∷ []) → InRange o (closed_in before d ++ closing d ∷ []) →
    IsEnd o before (closed_in before d) d r →
    GoesOnByRun o before (closed_in before d ++ closing d ∷ []) d
ends o before d r legal ok h =
    let j = closed_in before d in
    let s = state_of o j in
    let flows = o.table.flows in
    let reply : d.answer ≡ Closed r.first = answered o j [] (closing d) legal ∙ ap (λ x. on_run x (λ r. Closed r.first) NoneOpen) h.run in
    let state : state_of o (j ++ closing d ∷ []) ≡ closed o s (Some r) = state_snoc o j (closing d) ∙ ap (λ x. after o s Close x) reply ∙ ap (closed o s) h.run in
    let added : closed_by d.answer s.run ≡ r ∷ [] = ap (λ x. closed_by x s.run) reply ∙ ap (λ x. closed_by (Closed r.first) x) h.run in
    let low = all_front (λ (e : Entry). in_range o e.command ≡ true) j (closing d ∷ []) ok in
    record {
      grants = h.grants;
      count = h.count;
      run_before = h.none;
      run_after = ap (λ (t : State). t.run) state;
      first = h.at_next;
      next = ap (λ (t : State). t.next) state ∙ omega (arith, h.as_driven.first, h.at_next, h.as_driven.slots);
      sent = λ f.
          ap (λ (t : State). t.sent f) state ∙ ap (λ n. n + credit flows r f) (h.leaves.sent f)
          ∙ ap (λ n. (state_of o before).sent f + n)
          (same_if (has r.granted f) (unwrap_or (note_in r.notes (ingress_of flows f)) r.slots) (d.sent (ingress_of flows f))
          (λ t. sym (ap {B = ℕ} (λ b. if b then unwrap_or (note_in r.notes (ingress_of flows f)) r.slots else 0) t) ∙ h.as_driven.credits f (any_has r.granted f t)) ∙
          ap (λ gs. if has gs f then d.sent (ingress_of flows f) else 0) h.as_driven.granted);
      closed = (
        r,
        h.run,
        closed_push o j (closing d) ∙ ap (λ l. closed_runs o j ++ l) added ∙ ap (λ l. l ++ r ∷ []) h.leaves.closed,
        h.as_driven.first,
        h.as_driven.slots,
        h.as_driven.granted,
        h.as_driven.credits,
      );
      schedule =
          schedule_push o j (closing d) legal low ∙ ap (λ x. schedule_of o j ++ slots_added flows s.next s.run x) reply ∙
          ap (λ x. schedule_of o j ++ slots_added flows s.next x (Closed r.first)) h.run
          ∙ ap (λ l. schedule_of o j ++ l) (append-nil (slots_in flows r) ∙ own flows d r h.as_driven.slots h.as_driven.credits ∙
          ap (λ gs. driven_slots flows gs d) h.as_driven.granted)
          ∙ ap (λ l. l ++ driven_slots flows (driven o before d) d) h.leaves.schedule;
      wire = λ port.
          wire_push o j (closing d) port ∙ ap (λ l. wire_of o j port ++ flat_map (sent_at flows port) l) added
          ∙ ap (λ l. wire_of o j port ++ l) (append-nil (sent_at flows port r) ∙
          on_wire flows d r port (grant_in flows r.granted port) h.as_driven.first refl h.as_driven.credits ∙
          ap (λ gs. driven_run d port (grant_in flows gs port)) h.as_driven.granted)
          ∙ ap (λ l. l ++ driven_run d port (grant_in flows (driven o before d) port)) (h.leaves.wire port);
    }

-- ---- the whole run

pub free : (e : Entry) → is_other e ≡ true → is_driving e.command ≡ false
free e h = not_driving (is_driving e.command) (and_parts (nat_lt 0 e.who) (not (is_driving e.command)) h).1

-- the journal from the opening on, in pieces
pub legal_open : (o : Opening) (before more : List Entry) (d : Drive) → IsLegal o (closed_in before d ++ more) → IsLegal o (opened_in before d ++ (opening d ∷ (d.between ++ more)))
legal_open o before more d legal =
    let j1 = opened_in before d in
    subst (IsLegal o) (append_assoc (j1 ++ opening d ∷ []) d.between more ∙ append_assoc j1 (opening d ∷ []) (d.between ++ more)) legal

pub legal_between : (o : Opening) (before more : List Entry) (d : Drive) → IsLegal o (closed_in before d ++ more) →
    IsLegal o ((opened_in before d ++ opening d ∷ []) ++ (d.between ++ more))
legal_between o before more d legal = subst (IsLegal o) (append_assoc (opened_in before d ++ opening d ∷ []) d.between more) legal

-- what is known while the run is under way: the open run with its notes
pub record IsAt (o : Opening) (before : List Entry) (d : Drive) : Type 0 where
  pub none : (state_of o before).run ≡ None
  pub at_next : d.first ≡ (state_of o before).next
  pub grants : IsGrants o.table.flows (line_of o (opened_in before d)) (owed o (state_of o (opened_in before d))) (driven o before d)
  pub count : d.count ≡ length (driven o before d)
  pub leaves : LeavesSlots o before (closed_in before d)
  pub mid : IsBetween o d d.first (driven o before d) (opened_in before d ++ opening d ∷ []) (closed_in before d) (λ p. list_any (λ (e : Entry). notes_port p e.command) d.between)
      []

pub at : (o : Opening) (before more : List Entry) (d : Drive) → IsLegal o (closed_in before d ++ more) → IsUnderWay o before (closed_in before d) d → IsAt o before d
at o before more d legal h =
    let j1 = opened_in before d in
    let legal1 = legal_open o before more d legal in
    let leave = others_leave o before d.earlier (legal_front o [] j1 (opening d ∷ (d.between ++ more)) legal1) (λ k e lt. free (get_or d.earlier k e) (h.earlier k e lt)) in
    let tells = entry_tells o j1 (d.between ++ more) (opening d) legal1 in
    let made = opened_grants o j1 (opening d) d.first d.slots d.count refl in
    let stay = slots_push o j1 (opening d) refl in
    let mid = between o d d.first (driven o before d) (j1 ++ opening d ∷ []) d.between more [] (legal_between o before more d legal) made.0 h.between in
    record {
      none = sym leave.run ∙ tells.2;
      at_next = tells.4 ∙ leave.slots.next;
      grants = made.1;
      count = tells.6;
      leaves = slots_both o before j1 (closed_in before d) leave.slots (slots_both o j1 (j1 ++ opening d ∷ []) (closed_in before d) stay mid.stays);
      mid = mid;
    }

pub any_counted : (test : Entry → Bool) (es : List Entry) → 1 ≤ count_by test es → list_any test es ≡ true
any_counted test [] some = absurd (omega arith)
any_counted test (e ∷ es) some = elim (cases_Bool (test e)) [
  | inl t ↦ ap (λ b. b || list_any test es) t
  | inr t ↦ ap (λ b. b || list_any test es) t ∙ any_counted test es (omega (arith, some, sum_by-cons (λ e. cond {A = ℕ} (test e) 1 0) e es, ap {B = ℕ} (λ b. cond b 1 0) t))
]

goes : (o : Opening) (before : List Entry) (d : Drive) → IsLegal o (closed_in before d ++ closing d ∷ []) → InRange o (closed_in before d ++ closing d ∷ []) →
    IsDriven o before (closed_in before d ++ closing d ∷ []) d →
    GoesOnByRun o before (closed_in before d ++ closing d ∷ []) d
goes o before d legal ok h =
    let flows = o.table.flows in
    let gs = driven o before d in
    let x = at o before (closing d ∷ []) d legal h.under_way in
    let clear = grants_clear flows (line_of o (opened_in before d)) (owed o (state_of o (opened_in before d))) gs x.grants in
    ends o before d (mkr d.first d.slots gs x.mid.notes) legal ok (record {
      run = x.mid.run;
      leaves = x.leaves;
      none = x.none;
      at_next = x.at_next;
      as_driven = record {
        first = refl;
        slots = refl;
        granted = refl;
        credits = λ f in'.
            let p = ingress_of flows f in
            let grant = (grant_at flows gs p f clear).1 (in', refl) in
            let hit = λ (lt : d.sent p < d.slots). any_counted (λ (e : Entry). notes_port p e.command) d.between
            (omega (arith, h.noted f in', ap {B = ℕ} (λ b. if b then 1 else 0) (lt-ltb (d.sent p) d.slots lt))) in
            ap {B = ℕ} (λ b. if b then unwrap_or (note_in x.mid.notes p) d.slots else 0) (any_in gs f in')
            ∙ from_note d p (note_in x.mid.notes p) (h.within f in') (x.mid.only p (inl refl)) (λ lt. x.mid.told p f grant (inr (hit lt)));
      };
      grants = x.grants;
      count = x.count;
    })

pub driven_goes_on : (o : Opening) (before after : List Entry) (d : Drive) → IsLegal o after → InRange o after → IsDriven o before after d → GoesOnByRun o before after d
driven_goes_on o before after d legal ok h =
    subst (λ l. GoesOnByRun o before l d) (sym h.goes_on)
    (goes o before d (subst (IsLegal o) h.goes_on legal) (subst (InRange o) h.goes_on ok) (record { goes_on = refl; under_way = h.under_way; within = h.within; noted = h.noted }))

-- ---- a run that was sent whole

pub driven_even : (o : Opening) (before : List Entry) (d : Drive) → ((f : ℕ) → Contains (driven o before d) f → d.sent (ingress_of o.table.flows f) ≡ d.slots) →
    driven_slots o.table.flows (driven o before d) d ≡ replicate d.slots (driven o before d)
driven_even o before d whole =
    let gs = driven o before d in
    range_same (λ i. filter (λ f. nat_lt i (d.sent (ingress_of o.table.flows f))) gs) (λ i. gs) 0 d.slots
    (λ i low high. filter_all (λ f. nat_lt i (d.sent (ingress_of o.table.flows f))) gs (λ f in'. lt-ltb i (d.sent (ingress_of o.table.flows f)) (omega (arith, whole f in'))))
    ∙ range_none gs 0 d.slots
