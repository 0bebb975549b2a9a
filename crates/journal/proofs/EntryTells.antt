-- What the entries of a legal journal tell.
use Rattle.std.proofs.Common.{◌≡◌, ℕ, ◌+◌, inl, inr, true, false, true≢false, List, [], ◌∷◌, ◌++◌, length, max, refl, sym, ap, subst, ◌∙◌, arith, append_assoc, append-nil, Option}
use Rattle.std.proofs.Common.{Some, None}
use Rattle.std.specs.Prelude.{All, if◌then◌else◌, nat_lt, nat_le, slice_index_or, ◌==◌}
use Rattle.std.proofs.lemmas.Bool.{eqb-false, eqb-true, leb-false, leb-true, ltb-false, ltb-true}
use Rattle.std.proofs.lemmas.List.{get_or_append_left, length-append}
use Rattle.journal.specs.declared.command.Command.{Command}
use Rattle.journal.specs.declared.command.Command.TheVariants.{Register, Withdraw, Publish, Pull, Open, Short, Close, Skip, Reweigh}
use Rattle.journal.specs.declared.command.Entry.{Entry}
use Rattle.journal.specs.declared.command.Reply.{Reply}
use Rattle.journal.specs.declared.command.Reply.TheVariants.{Full, Already, Joined, NotHere, Left, StillOpen, Version, Rank, Unranked, NothingLeft, Late, Opened, NotGranted, Noted}
use Rattle.journal.specs.declared.command.Reply.TheVariants.{NoneOpen, Closed, StillOwed, Skipped, Weighed}
use Rattle.journal.specs.declared.opening.Opening.{Opening}
use Rattle.journal.specs.State.{has, is_present, Run, slot_end, State}
use Rattle.journal.specs.Line.{owing, rank, version}
use Rattle.journal.specs.Runs.{flow_at, grant_in, granted, slots_for}
use Rattle.journal.specs.Fold.{state_of}
use Rattle.journal.specs.Answer.{answer, in_range, noted, on_run, opened, reply_of, room, skipped}
use Rattle.journal.specs.Journal.{IsLegal, LegalFrom}
use Rattle.journal.specs.Sound.{InRange, SoundState}
use Rattle.journal.proofs.Legal.{legal_front, legal_join, legal_rest}
use Rattle.journal.proofs.Sound.{branch, legal_sound}
use Rattle.journal.proofs.Versions.{legal_there}
use Rattle.journal.specs.Entries.{is_driving, is_moving, TellsEntry}

by_run : (P : Reply → Type 0) (run : Option Run) (given : Run → Reply) (other : Reply) → ((r : Run) → run ≡ Some r → P (given r)) → (run ≡ None → P other) →
    P (on_run run given other)
by_run P None given other one none = none refl
by_run P (Some r) given other one none = one r refl

noted_tells : (o : Opening) (s : State) (r : Run) (port units : ℕ) (g : Option ℕ) → s.run ≡ Some r → grant_in o.table.flows r.granted port ≡ g →
    TellsEntry o s (Short port units) (noted r port units g)
noted_tells o s r port units None open' e = (units, refl, ap (λ x. flow_at o.table.flows x port) open' ∙ e)
noted_tells o s r port units (Some f) open' e = (port, units, f, r, refl, open', e, refl)

opened_tells : (o : Opening) (s : State) (most : ℕ) → s.run ≡ None → TellsEntry o s (Open most) (opened o s most)
opened_tells o s most none =
    let P = TellsEntry o s (Open most) in
    let made = Opened s.next (slots_for o s most) (length (granted o s)) in
    branch P (length (owing o s) == 0) NothingLeft (if s.next == slot_end then Late s.next else made) (λ e. (most, refl, none, eqb-true (length (owing o s)) 0 e)) (λ some.
    branch P (s.next == slot_end) (Late s.next) made
    (λ e. let at = eqb-true s.next slot_end e in (none, inl (most, refl, at, at, omega (arith, eqb-false (length (owing o s)) 0 some))))
    (λ e. (most, refl, none, omega (arith, eqb-false (length (owing o s)) 0 some), refl, refl, refl, eqb-false s.next slot_end e)))

skipped_tells : (o : Opening) (s : State) (to : ℕ) → s.run ≡ None → TellsEntry o s (Skip to) (skipped o s to)
skipped_tells o s to none =
    let P = TellsEntry o s (Skip to) in
    branch P (nat_lt 0 (length (owing o s))) (StillOwed (slice_index_or (owing o s) 0 0)) (if nat_le slot_end to then Late to else Skipped (max s.next to))
    (λ e. (to, refl, none, ltb-true 0 (length (owing o s)) e, refl))
    (λ some.
    let nobody : length (owing o s) ≡ 0 = omega (arith, ltb-false 0 (length (owing o s)) some) in
    branch P (nat_le slot_end to) (Late to) (Skipped (max s.next to)) (λ late. (none, inr (refl, leb-true slot_end to late, nobody)))
    (λ e. (to, refl, none, refl, nobody, leb-false slot_end to e)))

answer_tells : (o : Opening) (s : State) (k : Command) → TellsEntry o s k (answer o s k)
answer_tells o s (Register c) = branch (TellsEntry o s (Register c)) (has s.joined c) Already Joined (λ e. (c, refl, e)) (λ e. (c, refl, e))
answer_tells o s (Withdraw c) = branch (TellsEntry o s (Withdraw c)) (is_present s c) Left NotHere (λ e. (c, refl, e)) (λ e. (c, e, inl refl))
answer_tells o s Publish = by_run (TellsEntry o s Publish) s.run (λ r. StillOpen r.first) (Version (version s + 1)) (λ r e. (r, e, refl, inl refl)) (λ none. (refl, none, refl))
answer_tells o s (Pull c) =
    branch (TellsEntry o s (Pull c)) (rank s (version s) c == 0) (Unranked (version s)) (Rank (version s) (rank s (version s) c))
    (λ e. (c, refl, refl, eqb-true (rank s (version s) c) 0 e))
    (λ e. (c, refl, refl, refl, omega (arith, eqb-false (rank s (version s) c) 0 e)))
answer_tells o s (Open most) =
    by_run (TellsEntry o s (Open most)) s.run (λ r. StillOpen r.first) (opened o s most) (λ r e. (r, e, refl, inr (inl (most, refl)))) (opened_tells o s most)
answer_tells o s (Short port units) =
    let g = grant_in o.table.flows in
    by_run (TellsEntry o s (Short port units)) s.run (λ r. noted r port units (g r.granted port)) (NotGranted port) (λ r e. noted_tells o s r port units (g r.granted port) e refl)
    (λ e. (units, refl, ap (λ x. flow_at o.table.flows x port) e))
answer_tells o s Close = by_run (TellsEntry o s Close) s.run (λ r. Closed r.first) NoneOpen (λ r e. (r, refl, e, refl)) (λ e. (refl, e))
answer_tells o s (Skip to) =
    by_run (TellsEntry o s (Skip to)) s.run (λ r. StillOpen r.first) (skipped o s to) (λ r e. (r, e, refl, inr (inr (to, refl)))) (skipped_tells o s to)
answer_tells o s (Reweigh c w) = branch (TellsEntry o s (Reweigh c w)) (is_present s c) (Weighed (s.weight c)) NotHere (λ e. (c, w, refl, e, refl)) (λ e. (c, e, inr (w, refl)))

pub reply_tells : (o : Opening) (journal : List Entry) (k : Command) → TellsEntry o (state_of o journal) k (reply_of o journal k)
reply_tells o journal k =
    branch (TellsEntry o (state_of o journal) k) (nat_le (room o k) (length journal)) (Full (length journal)) (answer o (state_of o journal) k) (λ e. tt)
    (λ e. answer_tells o (state_of o journal) k)

-- so it is with each entry of a legal journal
pub entry_tells : (o : Opening) (before more : List Entry) (e : Entry) → IsLegal o (before ++ (e ∷ more)) → TellsEntry o (state_of o before) e.command e.reply
entry_tells o before more e legal = subst (TellsEntry o (state_of o before) e.command) (sym (legal_there o before more e legal).0) (reply_tells o before e.command)

-- ---- commands that do not drive

-- a command that does not drive runs is answered by no reply that moves
pub quiet : (o : Opening) (s : State) (k : Command) (r : Reply) → TellsEntry o s k r → is_driving k ≡ false → is_moving r ≡ false
quiet o s k (Opened slot slots count) t e = absurd (true≢false (ap is_driving (sym t.1) ∙ e))
quiet o s k (Noted n) t e = absurd (true≢false (ap is_driving (sym t.4) ∙ e))
quiet o s k (Closed slot) t e = absurd (true≢false (ap is_driving (sym t.1) ∙ e))
quiet o s k (Skipped slot) t e = absurd (true≢false (ap is_driving (sym t.1) ∙ e))
quiet o s k r t e = refl
