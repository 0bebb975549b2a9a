-- What a legal journal gives by itself: its opened runs have their grants, and its wires hold its schedule.
use Rattle.std.proofs.Common.{length, true≢false, ◌∷◌, ◌++◌}
use Rattle.std.proofs.Common.{◌≡◌, ℕ, ◌+◌, ◌-◌, Bool, true, false, List, [], min, refl, sym, ap, subst, ◌∙◌, arith}
use Rattle.std.proofs.Common.{zero, suc}
use Rattle.std.specs.Prelude.{◌&&◌, ◌==◌, if◌then◌else◌}
use Rattle.coflow_units.specs.Flows.{ingress_of}
use Rattle.coflow_units.specs.Grants.{IsRunLength}
use Rattle.coflow_units.specs.Schedule.{holds}
use Rattle.journal.specs.declared.command.Command.{Command}
use Rattle.journal.specs.declared.command.Command.TheVariants.{Open, Pull}
use Rattle.journal.specs.declared.command.Entry.{Entry}
use Rattle.journal.specs.declared.command.Reply.{Reply}
use Rattle.journal.specs.declared.command.Reply.TheVariants.{Full, Opened, Rank, Unranked}
use Rattle.journal.specs.declared.opening.Opening.{Opening}
use Rattle.journal.specs.State.{owed, slot_end}
use Rattle.journal.specs.Runs.{granted, slots_for}
use Rattle.journal.specs.Fold.{state_of}
use Rattle.journal.specs.Journal.{IsLegal}
use Rattle.journal.specs.Sound.{InRange}
use Rattle.journal.proofs.Opened.{opened_grants, run_length_is}
use Rattle.journal.specs.Closed.{schedule_of, times_on, wire_of}
use Rattle.journal.specs.Entries.{TellsEntry}
use Rattle.journal.proofs.EntryTells.{entry_tells}
use Rattle.journal.proofs.Wires.{none_in_zero, pair_once}
use Rattle.std.specs.Prelude.{nat_le}
use Rattle.journal.specs.Answer.{pulled, reply_of, room}
use Rattle.journal.specs.Line.{rank, version}
use Rattle.journal.specs.Journal.{is_full, is_version, rank_of, version_of}
use Rattle.journal.proofs.Growth.{version_append, version_counted}
use Rattle.journal.proofs.Versions.{legal_there}
use Rattle.live_model.specs.Pulls.{IsAnswered}
use Rattle.live_model.specs.Sent.{AreGranted, IsGranted, IsSentOnce}

abbrev most_of : Command → ℕ
most_of (Open most) = most
most_of k = 0

granted_at : (o : Opening) (before : List Entry) (e : Entry) (most slot slots count : ℕ) → e.command ≡ Open most → e.reply ≡ Opened slot slots count →
    TellsEntry o (state_of o before) e.command (Opened slot slots count) → IsGranted o before e most slot slots count
granted_at o before e most slot slots count k r tells =
    let s = state_of o before in
    let found = opened_grants o before e slot slots count r in
    let same : tells.0 ≡ most = ap most_of (sym tells.1 ∙ k) in
    let long : IsRunLength (owed o s) (granted o s) (min most (slot_end - slot)) slots =
    subst (λ (n : ℕ). IsRunLength (owed o s) (granted o s) (min most (slot_end - slot)) n) (sym (tells.5 ∙ ap (slots_for o s) same))
    (subst (λ (n : ℕ). IsRunLength (owed o s) (granted o s) (min most (slot_end - n)) (slots_for o s most)) (sym tells.4) (run_length_is o s most)) in
    record { granted = granted o s; grants = found.1; count_is = tells.6; length_is = long; run = found.0 }

pub legal_is_granted : (o : Opening) (journal : List Entry) → IsLegal o journal → AreGranted o journal
legal_is_granted o journal legal before more e most slot slots count at k r =
    let tells = entry_tells o before more e (subst (λ j. IsLegal o j) at legal) in
    granted_at o before e most slot slots count k r (subst (λ (x : Reply). TellsEntry o (state_of o before) e.command x) r tells)

pub journal_is_sent : (o : Opening) (journal : List Entry) (wires : ℕ → List (ℕ × ℕ × ℕ)) → IsLegal o journal → InRange o journal →
    ((port : ℕ) → wires port ≡ wire_of o journal port) → IsSentOnce o.table.flows (schedule_of o journal) wires
journal_is_sent o journal wires legal range same port zero f =
    ap (λ w. times_on w 0 f) (same port) ∙ none_in_zero o journal port f legal range ∙ none (ingress_of o.table.flows f == port)
  where
    none : (b : Bool) → ◌≡◌ {A = ℕ} 0 (if b && holds [] f then 1 else 0)
    none true = refl
    none false = refl
journal_is_sent o journal wires legal range same port (suc k) f =
    let next : suc k ≡ k + 1 = omega arith in
    ap (λ w. times_on w (suc k) f) (same port) ∙ ap (λ n. times_on (wire_of o journal port) n f) next ∙ pair_once o journal port k f legal range

-- ---- what a pull is answered

has_room : (b : Bool) (n v r : ℕ) (reply : Reply) → reply ≡ (if b then Full n else pulled v r) → is_full reply ≡ false → reply ≡ pulled v r
has_room true n v r reply e some = absurd (true≢false (sym (ap is_full e) ∙ some))
has_room false n v r reply e some = e

no_version : (v r : ℕ) (b : Bool) → is_version (if b then Unranked v else Rank v r) ≡ false
no_version v r true = refl
no_version v r false = refl

pub pull_is_answered : (o : Opening) (before more : List Entry) (e : Entry) (coflow : ℕ) → IsLegal o (before ++ e ∷ more) →
    e.command ≡ Pull coflow → IsAnswered o before e coflow
pull_is_answered o before more e coflow legal k =
    let v = version_of before in
    let r = rank_of o before v coflow in
    let there = legal_there o before more e legal in
    let reply : e.reply ≡ pulled (version (state_of o before)) (rank (state_of o before) (version (state_of o before)) coflow) =
    has_room (nat_le (room o (Pull coflow)) (length before)) (length before) (version (state_of o before))
    (rank (state_of o before) (version (state_of o before)) coflow) e.reply
    (there.0 ∙ ap (reply_of o before) k) there.1 in
    let is : e.reply ≡ pulled v r = reply ∙ ap (λ n. pulled n (rank (state_of o before) n coflow)) (version_counted o before) in
    let none : is_version e.reply ≡ false = ap is_version is ∙ no_version v r (r == 0) in
    record {
      reply = is;
      newest = version_append before (e ∷ []) ∙ omega (arith, ap {B = ℕ} (λ b. if b then 1 else 0) none);
    }
