-- Entries that leave the slots, and those that leave the open run too.
use Rattle.std.proofs.Common.{◌≡◌, ℕ, false, true≢false, List, [], ◌∷◌, ◌++◌, refl, sym, ap, subst, ◌∙◌, arith, append-nil, append_assoc, suc}
use Rattle.std.specs.Prelude.{All}
use Rattle.std.specs.List.{flat_map}
use Rattle.journal.specs.declared.command.Command.{Command}
use Rattle.journal.specs.declared.command.Entry.{Entry}
use Rattle.journal.specs.declared.command.Reply.{Reply}
use Rattle.journal.specs.declared.command.Reply.TheVariants.{Closed, Skipped}
use Rattle.journal.specs.declared.opening.Opening.{Opening}
use Rattle.journal.specs.State.{Run, State}
use Rattle.journal.specs.Fold.{after, state_of}
use Rattle.journal.specs.Journal.{IsLegal}
use Rattle.journal.proofs.Growth.{state_snoc}
use Rattle.journal.specs.Closed.{closed_by, closed_runs, LeavesRuns, LeavesSlots, sent_at}
use Rattle.journal.specs.Entries.{is_driving, is_moving, is_passing}
use Rattle.journal.proofs.ClosedSteps.{closed_push, unmoved}
use Rattle.journal.proofs.RunSlots.{slots_before}
use Rattle.journal.proofs.Along.{next_of}
use Rattle.journal.proofs.EntryTells.{quiet}

-- ---- the slots

-- the closed runs and the next slot determine the schedule and the wires
pub leaves_from : (o : Opening) (a b : List Entry) → (state_of o b).next ≡ (state_of o a).next → ((f : ℕ) → (state_of o b).sent f ≡ (state_of o a).sent f) →
    closed_runs o b ≡ closed_runs o a → LeavesSlots o a b
leaves_from o a b next sent runs = record {
  next = next;
  sent = sent;
  closed = runs;
  schedule = ap (λ l. slots_before o.table.flows l (state_of o b).next) runs ∙ ap (slots_before o.table.flows (closed_runs o a)) next;
  wire = λ port. ap (λ l. flat_map (sent_at o.table.flows port) l) runs;
}

pub slots_none : (o : Opening) (j : List Entry) → LeavesSlots o j j
slots_none o j = leaves_from o j j refl (λ f. refl) refl

pub slots_both : (o : Opening) (a b c : List Entry) → LeavesSlots o a b → LeavesSlots o b c → LeavesSlots o a c
slots_both o a b c h k = leaves_from o a c (k.next ∙ h.next) (λ f. k.sent f ∙ h.sent f) (k.closed ∙ h.closed)

record IsKept (s t : State) (runs : List Run) : Type 0 where
  next : t.next ≡ s.next
  sent : t.sent ≡ s.sent
  none : runs ≡ []

kept : (o : Opening) (s : State) (k : Command) (r : Reply) → is_passing r ≡ false → IsKept s (after o s k r) (closed_by r s.run)
kept o s k (Closed slot) e = absurd (true≢false e)
kept o s k (Skipped slot) e = absurd (true≢false e)
kept o s k r e = record { next = refl; sent = refl; none = refl }

pub slots_push : (o : Opening) (j : List Entry) (e : Entry) → is_passing e.reply ≡ false → LeavesSlots o j (j ++ e ∷ [])
slots_push o j e still =
    let s = state_of o j in
    let h = kept o s e.command e.reply still in
    leaves_from o j (j ++ e ∷ []) (ap (λ (t : State). t.next) (state_snoc o j e) ∙ h.next) (λ f. ap (λ (t : State). t.sent f) (state_snoc o j e) ∙ ap (λ (g : ℕ → ℕ). g f) h.sent)
    (closed_push o j e ∙ ap (λ l. closed_runs o j ++ l) h.none ∙ append-nil (closed_runs o j))

pub not_passing : (r : Reply) → is_moving r ≡ false → is_passing r ≡ false
not_passing (Closed slot) e = absurd (true≢false e)
not_passing (Skipped slot) e = absurd (true≢false e)
not_passing r e = refl

-- ---- the open run too

pub leaves_push : (o : Opening) (before : List Entry) (e : Entry) → is_moving e.reply ≡ false → LeavesRuns o before (before ++ e ∷ [])
leaves_push o before e still = record {
  run = ap (λ (t : State). t.run) (state_snoc o before e) ∙ (unmoved o (state_of o before) e.command e.reply still).run;
  slots = slots_push o before e (not_passing e.reply still);
}

pub leaves_none : (o : Opening) (journal : List Entry) → LeavesRuns o journal journal
leaves_none o journal = record { run = refl; slots = slots_none o journal }

pub leaves_both : (o : Opening) (a b c : List Entry) → LeavesRuns o a b → LeavesRuns o b c → LeavesRuns o a c
leaves_both o a b c h k = record { run = k.run ∙ h.run; slots = slots_both o a b c h.slots k.slots }

-- entries whose commands do not drive leave the runs
others : (o : Opening) (before es more : List Entry) → IsLegal o (before ++ (es ++ more)) → All (λ (e : Entry). is_driving e.command ≡ false) es →
    LeavesRuns o before (before ++ es)
others o before [] more legal all = subst (LeavesRuns o before) (sym (append-nil before)) (leaves_none o before)
others o before (e ∷ es) more legal all =
    let next = next_of o before (es ++ more) e legal in
    let still = quiet o (state_of o before) e.command e.reply next.tells (all 0 e (omega arith)) in
    let rest = others o (before ++ e ∷ []) es more (subst (IsLegal o) (sym (append_assoc before (e ∷ []) (es ++ more))) legal) (λ k d lt. all (suc k) d (omega arith)) in
    subst (LeavesRuns o before) (append_assoc before (e ∷ []) es) (leaves_both o before (before ++ e ∷ []) ((before ++ e ∷ []) ++ es) (leaves_push o before e still) rest)

pub others_leave : (o : Opening) (before more : List Entry) → IsLegal o (before ++ more) → All (λ (e : Entry). is_driving e.command ≡ false) more →
    LeavesRuns o before (before ++ more)
others_leave o before more legal all = others o before more [] (subst (λ l. IsLegal o (before ++ l)) (sym (append-nil more)) legal) all
