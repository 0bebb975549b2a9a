-- What a session is after a turn.
use Rattle.std.proofs.Common.{◌≡◌, ℕ, ◌+◌, ◌-◌, ◌<◌, ◌≤◌, inl, inr, Bool, true, false, List, [], ◌∷◌}
use Rattle.std.proofs.Common.{◌++◌, length, map, refl, sym, ap, ◌∙◌, subst, arith, length-append, Result, Ok, Err, true≢false}
use Rattle.std.specs.Prelude.{All}
use Rattle.turnstile.specs.Histories.{AddsAtMostOne, GoesOn}
use Rattle.turnstile.specs.Models.{SeatModel as TurnSeatModel}
use Rattle.journal.specs.declared.command.Command.{Command}
use Rattle.journal.specs.declared.command.Entry.{Entry}
use Rattle.journal.specs.declared.opening.Opening.{Opening}
use Rattle.journal.specs.Entries.{is_driving}
use Rattle.journal.specs.Journal.{entry, version_of}
use Rattle.rank_board.specs.declared.pulls.Pull.{Pull}
use Rattle.rank_board.specs.Models.{SeatModel}
use Rattle.client_session.specs.declared.desk.Setting.{Setting}
use Rattle.client_session.specs.declared.receipt.Answer.{Answer}
use Rattle.client_session.specs.declared.receipt.Answer.TheVariants.{Done, Full}
use Rattle.client_session.specs.declared.receipt.Receipt.{Receipt}
use Rattle.client_session.specs.Own.{IsPass, own_entries, receipt_of}
use Rattle.client_session.specs.Models.{SessionModel}
use Rattle.client_session.specs.Desk.{AddsEntry, IsSeen, KeepsLooks, MetAt}
use Rattle.client_session.specs.Turns.{IsDone, IsFull, IsSession, IsTurn, KeepsPlace}
use Rattle.client_session.proofs.Agreement.{quiet_room, room_met}
use Rattle.client_session.proofs.OwnSteps.{own_same}
use Rattle.client_session.proofs.Passes.{pass_later}
use Rattle.client_session.proofs.Answered.{later_answered, looks_answered, newer_answered, not_older_answered, own_answered, pass_answered, receipts_answered, version_answered}

abbrev pub who_of : Entry → ℕ
who_of e = e.who

abbrev pub Sits : Type 0
Sits = TurnSeatModel Entry Setting

-- the answers tell what they carry
abbrev pub done_in : Receipt → Answer → Receipt
done_in d (Done r) = r
done_in d a = d

abbrev pub is_done : Answer → Bool
is_done (Done r) = true
is_done a = false

abbrev pub full_in : ℕ → Answer → ℕ
full_in d (Full n) = n
full_in d a = d

abbrev pub is_full_answer : Answer → Bool
is_full_answer (Full n) = true
is_full_answer a = false

adds_at_most : (journal after : List Entry) (number : ℕ) (k : Command) (result : Result Receipt ℕ) → ((r : Receipt) → result ≡ Ok r → AddsEntry journal after number k r) →
    ((n : ℕ) → result ≡ Err n → after ≡ journal) → AddsAtMostOne who_of after number journal
adds_at_most journal after number k (Ok r) one same = inr (entry number k r.reply, refl, (one r refl).journal)
adds_at_most journal after number k (Err n) one same = inl (same n refl)

-- what a turn leaves behind may be put back
pub may_leave : (old new : Sits) (number : ℕ) (journal after : List Entry) (k : Command) (result : Result Receipt ℕ) → new ≡ record old { in_turn = true; seen = journal } →
    old.number ≡ number → ((r : Receipt) → result ≡ Ok r → AddsEntry journal after number k r) → ((n : ℕ) → result ≡ Err n → after ≡ journal) →
    AddsAtMostOne who_of after new.number new.seen
may_leave old new number journal after k result entered number_is one same =
    subst (λ (t : Sits). AddsAtMostOne who_of after t.number t.seen) (sym entered)
    (subst (λ n. AddsAtMostOne who_of after n journal) (sym number_is) (adds_at_most journal after number k result one same))

-- a seat that entered and left has seen the list that it left
pub left_is : (old entered left : Sits) (journal after : List Entry) → entered ≡ record old { in_turn = true; seen = journal } →
    left ≡ record entered { in_turn = false; seen = after } →
    left ≡ record old { in_turn = false; seen = after }
left_is old entered left journal after e l = l ∙ ap (λ (t : Sits). record t { in_turn = false; seen = after }) e

abbrev pub model : Sits → SeatModel → ℕ → ℕ → ℕ → SessionModel
model seat rank number left position = record {
  gate = seat.table;
  setting = seat.setting;
  number = number;
  left = left;
  position = position;
  own = own_entries number seat.seen;
  rank = rank;
}

module _ (seat final : Sits) (rank new_rank : SeatModel) (number left position new_position : ℕ) (journal after : List Entry)
    (final_is : final ≡ record seat { in_turn = false; seen = after })
    (goes : GoesOn who_of journal number seat.seen) (some : 0 < left) (ends : new_position ≡ length after) where
  module _ (receipts new_receipts : List Receipt) (room new_room : ℕ) (h : IsSession seat rank number left position receipts room) where
    pub session_answered : (k : Command) (r : Receipt) → AddsEntry journal after number k r → MetAt journal after rank new_rank → new_rank.pulls ≡ rank.pulls →
        new_receipts ≡ receipts ++ r ∷ [] → new_room ≡ room → IsSession final new_rank number (left - 1) new_position new_receipts new_room
    session_answered k r adds met pulls more same_room =
        let long : length new_receipts ≡ length receipts + 1 = ap (λ (l : List Receipt). length l) more ∙ length-append receipts (r ∷ []) in
        let fits = h.has_room in
        let short = h.few in
        subst (λ (t : Sits). IsSession t new_rank number (left - 1) new_position new_receipts new_room) (sym final_is) (record {
          free = refl;
          number_is = h.number_is;
          position_is = sym ends;
          receipts_are = more ∙ receipts_answered number journal seat.seen after k r goes adds receipts h.receipts_are;
          has_room = omega (arith, long, fits, some, same_room);
          few = omega (arith, long, short, some);
          pass = pass_answered number journal seat.seen after k r goes adds rank new_rank met pulls h.pass;
          coflow = λ c e. subst (All (λ (p : Pull). p.coflow < c.board.coflows)) (sym pulls) (h.coflow c e);
        })

    pub session_refused : after ≡ journal → new_rank.pulls ≡ rank.pulls → rank.seen ≤ new_rank.seen → IsSession final new_rank number (left - 1) new_position receipts room
    session_refused same pulls later =
        let fits = h.has_room in
        let short = h.few in
        let own : own_entries number after ≡ own_entries number seat.seen = ap (own_entries number) same ∙ own_same number journal seat.seen goes in
        let pass = pass_later (own_entries number seat.seen) rank.pulls rank.seen new_rank.seen later h.pass in
        subst (λ (t : Sits). IsSession t new_rank number (left - 1) new_position receipts room) (sym final_is) (record {
          free = refl;
          number_is = h.number_is;
          position_is = sym ends;
          receipts_are = h.receipts_are ∙ ap (map receipt_of) (sym own);
          has_room = omega (arith, fits, some);
          few = omega (arith, short, some);
          pass = subst (λ xs. IsPass xs new_rank.pulls new_rank.seen) (sym own) (subst (λ ps. IsPass (own_entries number seat.seen) ps new_rank.seen) (sym pulls) pass);
          coflow = λ c e. subst (All (λ (p : Pull). p.coflow < c.board.coflows)) (sym pulls) (h.coflow c e);
        })

  abbrev pub old_session : SessionModel
  old_session = model seat rank number left position

  abbrev pub new_session : SessionModel
  new_session = model final new_rank number (left - 1) new_position

  own_after : own_entries number final.seen ≡ own_entries number after
  own_after = ap (λ (t : Sits). own_entries number t.seen) final_is

  module _ (o : Opening) (k : Command) (quiet : is_driving k ≡ false) (seen : IsSeen o after) (position_is : length seat.seen ≡ position) where
    done_answered : (r : Receipt) → AddsEntry journal after number k r → MetAt journal after rank new_rank → IsDone o k old_session new_session r
    done_answered r adds met =
        let has_room = room_met o journal after number k r.reply seen.legal adds.journal in
        record {
          room = adds.room;
          limit = omega (
            arith,
            has_room,
            quiet_room o k quiet,
            adds.position,
            ap (λ (l : List Entry). length l) adds.journal,
            length-append journal (entry number k r.reply ∷ []),
          );
          before = journal;
          seen = subst (IsSeen o) adds.journal seen;
          position_is = adds.position ∙ ap (λ (l : List Entry). length l) adds.journal;
          version_is = adds.version ∙ ap version_of adds.journal;
          entries = own_after ∙ ap (own_entries number) adds.journal;
          own = own_after ∙ own_answered number journal seat.seen after k r goes adds;
          left = omega (arith, some);
          later = omega (arith, position_is, later_answered number journal seat.seen after k r goes adds);
          position = ends ∙ sym adds.position;
          not_older = not_older_answered number journal seat.seen after k r goes adds rank new_rank met;
          newer = newer_answered number journal seat.seen after k r goes adds rank new_rank met;
          version = version_answered number journal seat.seen after k r goes adds rank new_rank met;
          looks = looks_answered number journal seat.seen after k r goes adds rank new_rank met;
        }

    full_answered : (n : ℕ) → after ≡ journal → n ≡ length journal → o.limit ≤ n → IsFull o old_session new_session n
    full_answered n same entries limit = record {
      limit = limit;
      met = journal;
      seen = subst (IsSeen o) same seen;
      count_is = entries;
      own = own_after ∙ (ap (own_entries number) same ∙ own_same number journal seat.seen goes);
      left = omega (arith, some);
      not_shorter = omega (arith, position_is, entries, ap (λ (l : List Entry). length l) goes.1, length-append seat.seen goes.0);
      position = ends ∙ (ap (λ (l : List Entry). length l) same ∙ sym entries);
    }

    module _ (table : new_rank.table ≡ rank.table) (id : new_rank.id ≡ rank.id) (pulls : new_rank.pulls ≡ rank.pulls) (looks : KeepsLooks rank new_rank)
        (later : rank.seen ≤ new_rank.seen) where
      keeps : KeepsPlace old_session new_session
      keeps = record {
        gate = ap (λ (t : Sits). t.table) final_is;
        setting = ap (λ (t : Sits). t.setting) final_is;
        number = refl;
        board = table;
        seat = id;
        notes = pulls;
        looks = looks;
        version = later;
      }

      -- what the turn answers tells what it did
      pub turn_done : (r : Receipt) → AddsEntry journal after number k r → MetAt journal after rank new_rank → IsTurn o k old_session new_session (Done r)
      turn_done r adds met = record {
        place = keeps;
        done = λ x is. subst (IsDone o k old_session new_session) (ap (done_in r) is) (done_answered r adds met);
        full = λ n is. absurd (true≢false (ap is_done is));
        spent = λ is. absurd (true≢false (ap is_done is));
        calls = λ none. absurd (omega (arith, none, some));
      }

      pub turn_full : (n : ℕ) → after ≡ journal → n ≡ length journal → o.limit ≤ n → IsTurn o k old_session new_session (Full n)
      turn_full n same entries limit = record {
        place = keeps;
        done = λ x is. absurd (true≢false (ap is_full_answer is));
        full = λ m is. subst (IsFull o old_session new_session) (ap (full_in n) is) (full_answered n same entries limit);
        spent = λ is. absurd (true≢false (ap is_full_answer is));
        calls = λ none. absurd (omega (arith, none, some));
      }
