-- The state of a legal journal is sound.
use Rattle.std.proofs.Common.{◌≡◌, ℕ, ◌+◌, ◌-◌, ◌≤◌, ◌<◌, inl, inr, Bool, true, false, List, [], ◌∷◌, ◌++◌, length, min, max, Contains, refl, sym, ap, subst, arith, suc, Option}
use Rattle.std.proofs.Common.{Some, None, append-nil, append_assoc, unwrap_or}
use Rattle.std.specs.Prelude.{if◌then◌else◌, nat_le, nat_lt, slice_index_or, ◌==◌}
use Rattle.std.proofs.lemmas.Bool.{eqb-false, leb-false, ltb-true}
use Rattle.coflow_units.specs.declared.fabric.Flow.{Flow}
use Rattle.coflow_units.specs.Flows.{Instance, ingress_of, units_of}
use Rattle.coflow_units.proofs.ServedLaws.{grants_clear}
use Rattle.coflow_units.proofs.Sums.{any_has, in_first, in_tail, first_or_tail, nothing_in}
use Rattle.journal.specs.declared.command.Command.{Command}
use Rattle.journal.specs.declared.command.Command.TheVariants.{Register, Withdraw, Publish, Pull, Open, Short, Close, Skip, Reweigh}
use Rattle.journal.specs.declared.command.Reply.{Reply}
use Rattle.journal.specs.declared.command.Reply.TheVariants.{Full, Already, Joined, NotHere, Left, NothingLeft, Late, Opened, StillOwed, Skipped, Weighed, Rank, Unranked}
use Rattle.journal.specs.declared.command.Entry.{Entry}
use Rattle.journal.specs.declared.opening.Opening.{Opening}
use Rattle.journal.specs.State.{has, is_present, owed, Run, slot_end, State}
use Rattle.journal.specs.Line.{line, owing, rank, version}
use Rattle.journal.specs.Runs.{credit, grant_in, granted, least_of, note_in, slots_for}
use Rattle.journal.specs.Fold.{after, noted_in, state_of}
use Rattle.journal.specs.Answer.{answer, in_range, noted, reply_of, room}
use Rattle.journal.specs.Journal.{IsLegal, LegalFrom}
use Rattle.journal.specs.Sound.{InRange, IsOpenRun, IsSound, OnRun, SoundState}
use Rattle.journal.proofs.Growth.{state_snoc}
use Rattle.journal.proofs.Instances.{are_the_grants}

pub branch : (P : Reply → Type 0) (b : Bool) (x y : Reply) → (b ≡ true → P x) → (b ≡ false → P y) → P (if b then x else y)
branch P true x y px py = px refl
branch P false x y px py = py refl

-- ---- lengths

pub least_below : (number : ℕ → ℕ) (fs : List ℕ) (n : ℕ) → least_of number fs n ≤ n
least_below number [] n = omega arith
least_below number (f ∷ fs) n = omega (arith, least_below number fs (min n (number f)))

pub least_each : (number : ℕ → ℕ) (fs : List ℕ) (n f : ℕ) → Contains fs f → least_of number fs n ≤ number f
least_each number [] n f has = absurd (nothing_in f has)
least_each number (g ∷ fs) n f has = elim (first_or_tail g fs f has) [
  | inl e ↦ omega (arith, least_below number fs (min n (number g)), ap number e)
  | inr h ↦ least_each number fs (min n (number g)) f h
]

pub least_some : (number : ℕ → ℕ) (fs : List ℕ) (n : ℕ) → 0 < n → ((f : ℕ) → Contains fs f → 0 < number f) → 0 < least_of number fs n
least_some number [] n some each = some
least_some number (f ∷ fs) n some each = least_some number fs (min n (number f)) (omega (arith, each f (in_first f fs))) (λ g h. each g (in_tail f fs g h))

-- ---- credits

note_fits : (notes : List (ℕ × ℕ)) (slots port n : ℕ) (b : Bool) → n ≤ slots → (q : ℕ) → unwrap_or (note_in notes q) slots ≤ slots →
    unwrap_or (if b then Some n else note_in notes q) slots ≤ slots
note_fits notes slots port n true le q old = le
note_fits notes slots port n false le q old = old

credit_step : (flows : List Flow) (r : Run) (f used units : ℕ) (b : Bool) → has r.granted f ≡ b → used ≤ units → (Contains r.granted f → r.slots ≤ units - used) →
    unwrap_or (note_in r.notes (ingress_of flows f)) r.slots ≤ r.slots → used + (if b then unwrap_or (note_in r.notes (ingress_of flows f)) r.slots else 0) ≤ units
credit_step flows r f used units true e le owes note = omega (arith, owes (any_has r.granted f e))
credit_step flows r f used units false e le owes note = omega arith

-- ---- one step

abbrev mk : List ℕ → List ℕ → (ℕ → ℕ) → List Instance → (ℕ → ℕ) → Option Run → ℕ → State
mk joined left weight published sent run next = record { joined = joined; left = left; weight = weight; published = published; sent = sent; run = run; next = next }

opens : (o : Opening) (s : State) (most : ℕ) → 0 < most → IsSound o.table.flows s.sent s.next None → (s.next == slot_end) ≡ false →
    IsSound o.table.flows s.sent s.next (Some (record { first = s.next; slots = slots_for o s most; granted = granted o s; notes = [] }))
opens o s most some h early =
    let grants = are_the_grants o.table.flows (line s) (owed o s) in
    let room : s.next < slot_end = omega (arith, h.next_ends, eqb-false s.next slot_end early) in
    record {
      within = h.within;
      next_some = h.next_some;
      next_ends = h.next_ends;
      open_run = record {
        first = refl;
        some = least_some (owed o s) (granted o s) (min most (slot_end - s.next)) (omega (arith, room)) grants.owed;
        ends = omega (arith, room, least_below (owed o s) (granted o s) (min most (slot_end - s.next)));
        clear = grants_clear o.table.flows (line s) (owed o s) (granted o s) grants;
        owed = λ f in'. least_each (owed o s) (granted o s) (min most (slot_end - s.next)) f in';
        notes = λ port. omega arith;
      };
    }

notes_it : (o : Opening) (s : State) (r : Run) (port units : ℕ) (g : Option ℕ) → IsSound o.table.flows s.sent s.next s.run → s.run ≡ Some r →
    IsOpenRun o.table.flows s.sent s.next r → SoundState o (after o s (Short port units) (noted r port units g))
notes_it o s r port units None h is run = h
notes_it o s r port units (Some f) h is run = record {
  within = h.within;
  next_some = h.next_some;
  next_ends = h.next_ends;
  open_run = subst (λ (x : Option Run). OnRun (noted_in x port (min units r.slots)) (IsOpenRun o.table.flows s.sent s.next)) (sym is) (record {
    first = run.first;
    some = run.some;
    ends = run.ends;
    clear = run.clear;
    owed = run.owed;
    notes = λ q. note_fits r.notes r.slots port (min units r.slots) (port == q) (omega arith) q (run.notes q);
  });
}

closes : (o : Opening) (sent : ℕ → ℕ) (next : ℕ) (r : Run) → IsSound o.table.flows sent next (Some r) →
    IsSound o.table.flows (λ f. sent f + credit o.table.flows r f) (r.first + r.slots) None
closes o sent next r h = record {
  within = λ f. credit_step o.table.flows r f (sent f) (units_of o.table.flows f) (has r.granted f) refl (h.within f) (h.open_run.owed f)
      (h.open_run.notes (ingress_of o.table.flows f));
  next_some = omega (arith, h.open_run.some);
  next_ends = h.open_run.ends;
  open_run = tt;
}

skips : (o : Opening) (sent : ℕ → ℕ) (next to : ℕ) → IsSound o.table.flows sent next None → nat_le slot_end to ≡ false → IsSound o.table.flows sent (max next to) None
skips o sent next to h early = record {
  within = h.within;
  next_some = omega (arith, h.next_some);
  next_ends = omega (arith, h.next_ends, leb-false slot_end to early);
  open_run = tt;
}

pub step_sound : (o : Opening) (j l : List ℕ) (w : ℕ → ℕ) (p : List Instance) (sent : ℕ → ℕ) (run : Option Run) (next : ℕ) (k : Command) → in_range o k ≡ true →
    IsSound o.table.flows sent next run →
    SoundState o (after o (mk j l w p sent run next) k (answer o (mk j l w p sent run next) k))
step_sound o j l w p sent run next (Register c) ok h =
    let s = mk j l w p sent run next in
    branch (λ r. SoundState o (after o s (Register c) r)) (has s.joined c) Already Joined (λ e. h) (λ e. h)
step_sound o j l w p sent run next (Withdraw c) ok h =
    let s = mk j l w p sent run next in
    branch (λ r. SoundState o (after o s (Withdraw c) r)) (is_present s c) Left NotHere (λ e. h) (λ e. h)
step_sound o j l w p sent None next Publish ok h = h
step_sound o j l w p sent (Some r) next Publish ok h = h
step_sound o j l w p sent run next (Pull c) ok h =
    let s = mk j l w p sent run next in
    branch (λ r. SoundState o (after o s (Pull c) r)) (rank s (version s) c == 0) (Unranked (version s)) (Rank (version s) (rank s (version s) c)) (λ e. h) (λ e. h)
step_sound o j l w p sent None next (Open most) ok h =
    let s = mk j l w p sent None next in
    let last = if s.next == slot_end then Late s.next else Opened s.next (slots_for o s most) (length (granted o s)) in
    branch (λ r. SoundState o (after o s (Open most) r)) (length (owing o s) == 0) NothingLeft last (λ e. h)
    (λ e. branch (λ r. SoundState o (after o s (Open most) r)) (s.next == slot_end) (Late s.next) (Opened s.next (slots_for o s most) (length (granted o s))) (λ e. h)
    (λ e. opens o s most (ltb-true 0 most ok) h e))
step_sound o j l w p sent (Some r) next (Open most) ok h = h
step_sound o j l w p sent None next (Short port units) ok h = h
step_sound o j l w p sent (Some r) next (Short port units) ok h =
    notes_it o (mk j l w p sent (Some r) next) r port units (grant_in o.table.flows r.granted port) h refl h.open_run
step_sound o j l w p sent None next Close ok h = h
step_sound o j l w p sent (Some r) next Close ok h = closes o sent next r h
step_sound o j l w p sent None next (Skip to) ok h =
    let s = mk j l w p sent None next in
    let last = if nat_le slot_end to then Late to else Skipped (max s.next to) in
    branch (λ r. SoundState o (after o s (Skip to) r)) (nat_lt 0 (length (owing o s))) (StillOwed (slice_index_or (owing o s) 0 0)) last (λ e. h)
    (λ e. branch (λ r. SoundState o (after o s (Skip to) r)) (nat_le slot_end to) (Late to) (Skipped (max s.next to)) (λ e. h) (λ e. skips o sent next to h e))
step_sound o j l w p sent (Some r) next (Skip to) ok h = h
step_sound o j l w p sent run next (Reweigh c x) ok h =
    let s = mk j l w p sent run next in
    branch (λ r. SoundState o (after o s (Reweigh c x) r)) (is_present s c) (Weighed (s.weight c)) NotHere (λ e. h) (λ e. h)

pub reply_sound : (o : Opening) (journal : List Entry) (k : Command) → in_range o k ≡ true → SoundState o (state_of o journal) →
    SoundState o (after o (state_of o journal) k (reply_of o journal k))
reply_sound o journal k ok h =
    let s = state_of o journal in
    branch (λ r. SoundState o (after o s k r)) (nat_le (room o k) (length journal)) (Full (length journal)) (answer o s k) (λ e. h)
    (λ e. step_sound o s.joined s.left s.weight s.published s.sent s.run s.next k ok h)

sound_from : (o : Opening) (before es : List Entry) → LegalFrom o before es → InRange o es → SoundState o (state_of o before) → SoundState o (state_of o (before ++ es))
sound_from o before [] legal ok h = subst (λ l. SoundState o (state_of o l)) (sym (append-nil before)) h
sound_from o before (e ∷ es) legal ok h =
    let next = subst (λ (r : Reply). SoundState o (after o (state_of o before) e.command r)) (sym legal.0) (reply_sound o before e.command (ok 0 e (omega arith)) h) in
    subst (λ l. SoundState o (state_of o l)) (append_assoc before (e ∷ []) es)
    (sound_from o (before ++ e ∷ []) es legal.2 (λ k d lt. ok (suc k) d (omega arith)) (subst (SoundState o) (sym (state_snoc o before e)) next))

pub legal_sound : (o : Opening) (journal : List Entry) → IsLegal o journal → InRange o journal → SoundState o (state_of o journal)
legal_sound o journal legal ok = sound_from o [] journal legal ok (record { within = λ f. omega arith; next_some = omega arith; next_ends = omega arith; open_run = tt })
