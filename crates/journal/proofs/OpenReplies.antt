-- What an Open is answered.
use Rattle.std.proofs.Common.{◌≡◌, ℕ, ◌+◌, ◌-◌, ◌<◌, inl, inr, List, ◌∷◌, ◌++◌, length, refl, sym, ap, subst, ◌∙◌, arith, None}
use Rattle.std.specs.Prelude.{◌==◌, if◌then◌else◌}
use Rattle.std.proofs.lemmas.Bool.{eqb-false, eqb-true}
use Rattle.journal.specs.declared.command.Command.TheVariants.{Open}
use Rattle.journal.specs.declared.command.Entry.{Entry}
use Rattle.journal.specs.declared.command.Reply.{Reply}
use Rattle.journal.specs.declared.command.Reply.TheVariants.{StillOpen, NothingLeft, Late, Opened}
use Rattle.journal.specs.declared.opening.Opening.{Opening}
use Rattle.journal.specs.State.{slot_end, State}
use Rattle.journal.specs.Line.{owing}
use Rattle.journal.specs.Runs.{granted, slots_for}
use Rattle.journal.specs.Fold.{state_of}
use Rattle.journal.specs.Answer.{on_run, opened}
use Rattle.journal.specs.Journal.{entry, IsLegal}
use Rattle.journal.proofs.Sound.{branch}
use Rattle.journal.specs.Entries.{IsOpenReply}
use Rattle.journal.proofs.Between.{answered}

-- ---- what an Open is answered

opened_is : (o : Opening) (s : State) (most : ℕ) → IsOpenReply o s most (opened o s most)
opened_is o s most =
    let made = Opened s.next (slots_for o s most) (length (granted o s)) in
    let P = IsOpenReply o s most in
    branch P (length (owing o s) == 0) NothingLeft (if s.next == slot_end then Late s.next else made) (λ e. inl (refl, eqb-true (length (owing o s)) 0 e)) (λ some.
    let owes : 0 < length (owing o s) = omega (arith, eqb-false (length (owing o s)) 0 some) in
    branch P (s.next == slot_end) (Late s.next) made (λ e. inr (inl (ap Late (eqb-true s.next slot_end e), eqb-true s.next slot_end e, owes)))
    (λ e. inr (inr (refl, owes, eqb-false s.next slot_end e))))

-- where no run is open, an Open finds nothing left, comes too late, or opens a run
pub open_reply : (o : Opening) (before more : List Entry) (who most : ℕ) (reply : Reply) → IsLegal o (before ++ (entry who (Open most) reply ∷ more)) →
    (state_of o before).run ≡ None →
    IsOpenReply o (state_of o before) most reply
open_reply o before more who most reply legal none =
    let s = state_of o before in
    let is : reply ≡ opened o s most = answered o before more (entry who (Open most) reply) legal ∙ ap (λ x. on_run x (λ r. StillOpen r.first) (opened o s most)) none in
    subst (IsOpenReply o s most) (sym is) (opened_is o s most)
