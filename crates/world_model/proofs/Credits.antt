-- What closings credit stays as it is when the journal and the sent runs grow.
use Rattle.std.proofs.Common.{◌≡◌, ◌≢◌, ℕ, ◌+◌, ◌≤◌, inl, inr, Bool, true, false, List, [], ◌∷◌, ◌++◌, refl, sym, ap, subst, ◌∙◌, arith, suc, Option, Some, None, Contains}
use Rattle.std.proofs.Common.{append-nil}
use Rattle.std.specs.Prelude.{if◌then◌else◌, ◌==◌, ◌&&◌, nat_le, nat_lt, All, AllPairs}
use Rattle.std.proofs.lemmas.Bool.{and_parts, cases_Bool, cases_eq, eq-eqb, eqb-true, leb-true, ltb-true, ne_eqb}
use Rattle.coflow_units.specs.declared.fabric.Flow.{Flow}
use Rattle.coflow_units.specs.Flows.{ingress_of}
use Rattle.coflow_units.specs.Schedule.{IsClear}
use Rattle.coflow_units.proofs.Sums.{any_has, any_in}
use Rattle.journal.specs.declared.command.Command.{Command}
use Rattle.journal.specs.declared.command.Entry.{Entry}
use Rattle.journal.specs.declared.command.Reply.{Reply}
use Rattle.journal.specs.declared.command.Reply.TheVariants.{Closed}
use Rattle.journal.specs.declared.opening.Opening.{Opening}
use Rattle.journal.specs.State.{Run, State, has}
use Rattle.journal.specs.Fold.{after, start, state_from, state_of}
use Rattle.journal.specs.Journal.{entry, is_full, journal_after}
use Rattle.journal.specs.Answer.{reply_of}
use Rattle.world_model.specs.declared.event.SentRun.{SentRun}
use Rattle.world_model.specs.Sent.{sends, sent_for, sent_in, slots_within, times_sent}
use Rattle.world_model.specs.Kept.{IsApart, IsSentRun, sent_now}
use Rattle.world_model.specs.Credited.{CreditedFrom, CreditsSent, IsCredited}
use Rattle.journal.proofs.Ingresses.{grant_is}
use Rattle.world_model.proofs.SendSteps.{both_true}

-- ---- a later next slot

later_one : (o : Opening) (sent : List SentRun) (next later : ℕ) (reply : Reply) (run : Option Run) → next ≤ later → CreditsSent o sent next reply run →
    CreditsSent o sent later reply run
later_one o sent next later (Closed slot) None le h = tt
later_one o sent next later (Closed slot) (Some r) le h = (omega (arith, h.0, le), h.1)
later_one o sent next later reply run le h = tt

credited_later : (o : Opening) (sent : List SentRun) (next later : ℕ) (s : State) (es : List Entry) → next ≤ later → CreditedFrom o sent next s es → CreditedFrom o sent later s es
credited_later o sent next later s [] le h = tt
credited_later o sent next later s (e ∷ es) le h = (later_one o sent next later e.reply s.run le h.0, credited_later o sent next later (after o s e.command e.reply) es le h.1)

-- ---- one more sent run

-- a run that begins at the end of the slots or later has none of them
within_none : (sent : List SentRun) (x : SentRun) (r : Run) (f : ℕ) → r.first + r.slots ≤ x.slot → sent_in (sent ++ x ∷ []) r f ≡ sent_in sent r f
within_none [] x r f le = elim (cases_Bool (x.flow == f)) [
  | inl t ↦ omega (arith, le, ap (λ b. if b then slots_within x r.first (r.first + r.slots) else 0) t)
  | inr t ↦ omega (arith, ap (λ b. if b then slots_within x r.first (r.first + r.slots) else 0) t)
]
within_none (y ∷ ys) x r f le = ap (λ n. (if y.flow == f then slots_within y r.first (r.first + r.slots) else 0) + n) (within_none ys x r f le)

more_one : (o : Opening) (sent : List SentRun) (x : SentRun) (next : ℕ) (reply : Reply) (run : Option Run) → next ≤ x.slot → CreditsSent o sent next reply run →
    CreditsSent o (sent ++ x ∷ []) next reply run
more_one o sent x next (Closed slot) None le h = tt
more_one o sent x next (Closed slot) (Some r) le h = (h.0, λ f. h.1 f ∙ sym (within_none sent x r f (omega (arith, h.0, le))))
more_one o sent x next reply run le h = tt

pub credited_send : (o : Opening) (sent : List SentRun) (x : SentRun) (next : ℕ) (s : State) (es : List Entry) → next ≤ x.slot → CreditedFrom o sent next s es →
    CreditedFrom o (sent ++ x ∷ []) next s es
credited_send o sent x next s [] le h = tt
credited_send o sent x next s (e ∷ es) le h = (more_one o sent x next e.reply s.run le h.0, credited_send o sent x next (after o s e.command e.reply) es le h.1)

-- ---- one more entry

credited_push : (o : Opening) (sent : List SentRun) (next : ℕ) (s : State) (es : List Entry) (e : Entry) → CreditedFrom o sent next s es →
    CreditsSent o sent next e.reply (state_from o s es).run → CreditedFrom o sent next s (es ++ e ∷ [])
credited_push o sent next s [] e h new = (new, tt)
credited_push o sent next s (x ∷ xs) e h new = (h.0, credited_push o sent next (after o s x.command x.reply) xs e h.1 new)

added : (o : Opening) (sent : List SentRun) (next later : ℕ) (journal : List Entry) (who : ℕ) (k : Command) (r : Reply) (b : Bool) → next ≤ later → IsCredited o sent next journal →
    CreditsSent o sent later r (state_of o journal).run →
    IsCredited o sent later (journal ++ (if b then [] else entry who k r ∷ []))
added o sent next later journal who k r true le h new = subst (IsCredited o sent later) (sym (append-nil journal)) (credited_later o sent next later (start o) journal le h)
added o sent next later journal who k r false le h new = credited_push o sent later (start o) journal (entry who k r) (credited_later o sent next later (start o) journal le h) new

pub credited_after : (o : Opening) (sent : List SentRun) (next later : ℕ) (journal : List Entry) (who : ℕ) (k : Command) → next ≤ later → IsCredited o sent next journal →
    CreditsSent o sent later (reply_of o journal k) (state_of o journal).run →
    IsCredited o sent later (journal_after o journal who k)
credited_after o sent next later journal who k le h new = added o sent next later journal who k (reply_of o journal k) (is_full (reply_of o journal k)) le h new

-- what the entry at a place credits
pub credited_at : (o : Opening) (sent : List SentRun) (next : ℕ) (s : State) (before more : List Entry) (e : Entry) → CreditedFrom o sent next s (before ++ e ∷ more) →
    CreditsSent o sent next e.reply (state_from o s before).run
credited_at o sent next s [] more e h = h.0
credited_at o sent next s (x ∷ xs) more e h = credited_at o sent next (after o s x.command x.reply) xs more e h.1

-- ---- the units of the open run

not_now : (a b c : Bool) (n : ℕ) → c ≡ false → (if a then (if b && c then n else 0) else 0) ≡ 0
not_now false b c n e = refl
not_now true true c n e = ap (λ d. if d then n else 0) e
not_now true false c n e = refl

not_there : (a b c : Bool) (n : ℕ) → b ≡ false → (if a then (if b && c then n else 0) else 0) ≡ 0
not_there false b c n e = refl
not_there true b c n e = ap (λ d. if d && c then n else 0) e

all_now : (a b : Bool) (n : ℕ) → a ≡ true → b ≡ true → (if a then (if b then n else 0) else 0) ≡ n
all_now a b n e t = ap (λ d. if d then (if b then n else 0) else 0) e ∙ ap (λ d. if d then n else 0) t

-- a sent run of another flow than f has no units of f at f's ingress in the open run
other_flow : (flows : List Flow) (next : ℕ) (r : Run) (x : SentRun) (f : ℕ) (b : Bool) → has r.granted f ≡ b → x.flow ≢ f → IsSentRun flows next (Some r) x →
    IsClear flows r.granted →
    (if b then (if (x.port == ingress_of flows f) && (x.slot == r.first) then x.units else 0) else 0) ≡ 0
other_flow flows next r x f false e other h clear = refl
other_flow flows next r x f true e other h clear = elim h.in_time [
  | inl old ↦ not_now true (x.port == ingress_of flows f) (x.slot == r.first) x.units (ne_eqb x.slot r.first (λ same. omega (arith, same, old, h.units_some)))
  | inr now ↦ elim (cases_eq x.port (ingress_of flows f)) [
    | inl there ↦ absurd (other (clear.apart x.flow f (grant_is flows r.granted x.port x.flow now.2).0 (any_has r.granted f e) (inl (sym h.at_ingress ∙ there))))
    | inr apart ↦ not_there true (x.port == ingress_of flows f) (x.slot == r.first) x.units (ne_eqb x.port (ingress_of flows f) apart)
  ]
]

sent_one : (flows : List Flow) (next : ℕ) (r : Run) (x : SentRun) (f : ℕ) → IsSentRun flows next (Some r) x → IsClear flows r.granted →
    (if x.flow == f then slots_within x r.first (r.first + r.slots) else 0) ≡
    (if has r.granted f then (if (x.port == ingress_of flows f) && (x.slot == r.first) then x.units else 0) else 0)
sent_one flows next r x f h clear = elim (cases_eq x.flow f) [
  | inl same ↦ ap (λ b. if b then slots_within x r.first (r.first + r.slots) else 0) (eq-eqb x.flow f same) ∙ elim h.in_time [
    | inl old ↦
        let none : slots_within x r.first (r.first + r.slots) ≡ 0 = omega (arith, old) in
        none ∙ sym (not_now (has r.granted f) (x.port == ingress_of flows f) (x.slot == r.first) x.units (ne_eqb x.slot r.first (λ e. omega (arith, e, old, h.units_some))))
    | inr now ↦
        let all : slots_within x r.first (r.first + r.slots) ≡ x.units = omega (arith, now.0, now.1) in
        let in' = subst (λ n. Contains r.granted n) same (grant_is flows r.granted x.port x.flow now.2).0 in
        all ∙ sym (all_now (has r.granted f) ((x.port == ingress_of flows f) && (x.slot == r.first)) x.units (any_in r.granted f in')
        (both_true x.port (ingress_of flows f) x.slot r.first (h.at_ingress ∙ ap (ingress_of flows) same) now.0))
  ]
  | inr other ↦ ap (λ b. if b then slots_within x r.first (r.first + r.slots) else 0) (ne_eqb x.flow f other) ∙
      sym (other_flow flows next r x f (has r.granted f) refl other h clear)
]

if_sum : (b : Bool) (m n : ℕ) → (if b then m + n else 0) ≡ (if b then m else 0) + (if b then n else 0)
if_sum true m n = refl
if_sum false m n = refl

if_zero : (b : Bool) → ◌≡◌ {A = ℕ} 0 (if b then 0 else 0)
if_zero true = refl
if_zero false = refl

-- what was sent in the slots of the open run is what was sent for the grants
pub in_open_run : (flows : List Flow) (next : ℕ) (r : Run) (sent : List SentRun) (f : ℕ) → All (IsSentRun flows next (Some r)) sent → IsClear flows r.granted →
    sent_in sent r f ≡ sent_now flows (Some r) sent f
in_open_run flows next r [] f all clear = if_zero (has r.granted f)
in_open_run flows next r (x ∷ xs) f all clear =
    omega (
      arith,
      sent_one flows next r x f (all 0 x (omega arith)) clear,
      in_open_run flows next r xs f (λ k d lt. all (suc k) d (omega arith)) clear,
      if_sum (has r.granted f) (if (x.port == ingress_of flows f) && (x.slot == r.first) then x.units else 0) (sent_for xs (ingress_of flows f) r.first),
    )

-- ---- no pair stands twice

-- where one run has the pair, none that is apart from it has
apart_two : (x y : SentRun) (slot f : ℕ) (b : Bool) → sends y slot f ≡ b → sends x slot f ≡ true → IsApart x y → b ≡ false
apart_two x y slot f false e t apart = refl
apart_two x y slot f true e t apart =
    let (xf, xs) = and_parts (x.flow == f) (nat_le x.slot slot && nat_lt slot (x.slot + x.units)) t in
    let (yf, ys) = and_parts (y.flow == f) (nat_le y.slot slot && nat_lt slot (y.slot + y.units)) e in
    let (xl, xr) = and_parts (nat_le x.slot slot) (nat_lt slot (x.slot + x.units)) xs in
    let (yl, yr) = and_parts (nat_le y.slot slot) (nat_lt slot (y.slot + y.units)) ys in
    absurd (omega (
      arith,
      apart (eqb-true x.flow f xf ∙ sym (eqb-true y.flow f yf)),
      leb-true x.slot slot xl,
      ltb-true slot (x.slot + x.units) xr,
      leb-true y.slot slot yl,
      ltb-true slot (y.slot + y.units) yr,
    ))

none_else : (x : SentRun) (ys : List SentRun) (slot f : ℕ) → sends x slot f ≡ true → All (IsApart x) ys → times_sent ys slot f ≡ 0
none_else x [] slot f t all = refl
none_else x (y ∷ ys) slot f t all =
    omega (
      arith,
      ap {B = ℕ} (λ b. if b then 1 else 0) (apart_two x y slot f (sends y slot f) refl t (all 0 y (omega arith))),
      none_else x ys slot f t (λ k d lt. all (suc k) d (omega arith)),
    )

once_more : (x : SentRun) (ys : List SentRun) (slot f : ℕ) (b : Bool) → sends x slot f ≡ b → All (IsApart x) ys → times_sent ys slot f ≤ 1 →
    (if b then 1 else 0) + times_sent ys slot f ≤ 1
once_more x ys slot f true e all le = omega (arith, none_else x ys slot f e all)
once_more x ys slot f false e all le = omega (arith, le)

pub pair_once : (sent : List SentRun) (slot f : ℕ) → AllPairs IsApart sent → times_sent sent slot f ≤ 1
pair_once [] slot f apart = omega arith
pair_once (x ∷ xs) slot f apart =
    once_more x xs slot f (sends x slot f) refl (λ k d lt. apart 0 (suc k) d (omega arith) (omega arith))
    (pair_once xs slot f (λ i j d lt in'. apart (suc i) (suc j) d (omega arith) (omega arith)))
