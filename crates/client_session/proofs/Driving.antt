-- What the driver is after a turn.
use Rattle.std.proofs.Common.{◌≡◌, ◌≢◌, ℕ, ◌+◌, ◌-◌, ◌<◌, ◌≤◌, inl, inr, true, false, List, [], ◌∷◌, ◌++◌}
use Rattle.std.proofs.Common.{Some, length, take, drop, refl, sym, ap, ◌∙◌, subst, arith, length-append, append_assoc, append-nil, Result, Ok, Err, true≢false}
use Rattle.std.proofs.lemmas.List.{drop_all, take_all, take-append-drop}
use Rattle.std.proofs.lemmas.List.Elements.{All-append, All-head, All-nil, All-push, All-tail}
use Rattle.turnstile.specs.Histories.{AddsAtMostOne, GoesOn, NoneAbove, NoneBy}
use Rattle.turnstile.specs.Models.{RootModel}
use Rattle.journal.specs.declared.command.Command.{Command}
use Rattle.journal.specs.declared.command.Entry.{Entry}
use Rattle.journal.specs.declared.opening.Opening.{Opening}
use Rattle.journal.specs.Answer.{room}
use Rattle.journal.specs.Journal.{entry, version_of}
use Rattle.rank_board.specs.Models.{SeatModel}
use Rattle.client_session.specs.declared.desk.Setting.{Setting}
use Rattle.client_session.specs.declared.receipt.Answer.{Answer}
use Rattle.client_session.specs.Answers.{answer_of}
use Rattle.client_session.specs.declared.receipt.Receipt.{Receipt}
use Rattle.client_session.specs.declared.receipt.Answer.TheVariants.{Spent}
use Rattle.client_session.specs.Desk.{AddsEntry, IsSeen}
use Rattle.client_session.specs.Grants.{GrantedModel, TellsGrants}
use Rattle.client_session.specs.Drivers.{GrownByOthers, IsDrivenOn, IsDriver, IsDriverTurn, IsStopped, StaysInHall, who_of}
use Rattle.client_session.specs.Models.{DriverModel}
use Rattle.client_session.proofs.Agreement.{room_met}
use Rattle.client_session.proofs.Turning.{done_in, full_in, is_done, is_full_answer}

abbrev pub Roots : Type 0
Roots = RootModel Entry Setting

-- a root that entered and left has seen the list that it left
pub root_left : (old entered left : Roots) (journal after : List Entry) → entered ≡ record old { in_turn = true; seen = journal } →
    left ≡ record entered { in_turn = false; seen = after } → left ≡ record old { in_turn = false; seen = after }
root_left old entered left journal after e l = l ∙ ap (λ (t : Roots). record t { in_turn = false; seen = after }) e

-- the numbers of those who have entries, after one more of the caller 0
pub numbers_more : (made : ℕ) (journal after : List Entry) (k : Command) (r : Receipt) → AddsEntry journal after 0 k r → NoneAbove who_of made journal → NoneAbove who_of made after
numbers_more made journal after k r adds all = subst (NoneAbove who_of made) (sym adds.journal) (All-push (λ e. who_of e ≤ made) journal (entry 0 k r.reply) all (omega arith))

adds_at_most : (journal after : List Entry) (k : Command) (result : Result Receipt ℕ) → ((r : Receipt) → result ≡ Ok r → AddsEntry journal after 0 k r) →
    ((n : ℕ) → result ≡ Err n → after ≡ journal) → AddsAtMostOne who_of after 0 journal
adds_at_most journal after k (Ok r) one same = inr (entry 0 k r.reply, refl, (one r refl).journal)
adds_at_most journal after k (Err n) one same = inl (same n refl)

-- what the driver's turn leaves behind may be put back
pub root_may_leave : (old new : Roots) (journal after : List Entry) (k : Command) (result : Result Receipt ℕ) → new ≡ record old { in_turn = true; seen = journal } →
    ((r : Receipt) → result ≡ Ok r → AddsEntry journal after 0 k r) → ((n : ℕ) → result ≡ Err n → after ≡ journal) → AddsAtMostOne who_of after 0 new.seen
root_may_leave old new journal after k result entered one same =
    subst (λ (t : Roots). AddsAtMostOne who_of after 0 t.seen) (sym entered) (adds_at_most journal after k result one same)

-- the numbers of those who have entries, after the driver's turn
pub numbers_after : (made : ℕ) (journal after : List Entry) (k : Command) (result : Result Receipt ℕ) → ((r : Receipt) → result ≡ Ok r → AddsEntry journal after 0 k r) →
    ((n : ℕ) → result ≡ Err n → after ≡ journal) → NoneAbove who_of made journal → NoneAbove who_of made after
numbers_after made journal after k (Ok r) one same all = numbers_more made journal after k r (one r refl) all
numbers_after made journal after k (Err n) one same all = subst (NoneAbove who_of made) (sym (same n refl)) all

abbrev pub driver_model : Roots → SeatModel → ℕ → ℕ → ℕ → DriverModel
driver_model root rank left turned position = record {
  gate = root.table;
  setting = root.setting;
  rank = rank;
  made = root.made;
  left = left;
  journal = take turned root.seen;
  position = position;
}

-- a list in which nobody but the caller 0 made entries, and it none, is empty
none_made : (others : List Entry) → NoneAbove who_of 0 others → NoneBy who_of 0 others → others ≡ []
none_made [] above none = refl
none_made (e ∷ es) above none =
    let low : who_of e ≤ 0 = All-head (λ e. who_of e ≤ 0) e es above in
    let some : who_of e ≡ 0 → ⊥ = All-head (λ e. who_of e ≢ 0) e es none in
    absurd (some (omega (arith, low)))

pub all_right : (made : ℕ) (xs ys : List Entry) → NoneAbove who_of made (xs ++ ys) → NoneAbove who_of made ys
all_right made [] ys h = h
all_right made (x ∷ xs) ys h = all_right made xs ys (All-tail (λ e. who_of e ≤ made) x (xs ++ ys) h)

-- where no session was made, a journal that went on by others did not go on
pub alone : (before after : List Entry) (made : ℕ) → GrownByOthers before after → NoneAbove who_of made after → made ≡ 0 → after ≡ before
alone before after made grown above zero =
    let all = subst (NoneAbove who_of made) grown.1 above in
    let others = all_right made before grown.0 all in
    grown.1 ∙ (ap (λ l. before ++ l) (none_made grown.0 (subst (λ m. NoneAbove who_of m grown.0) zero others) grown.2) ∙ append-nil before)

module _ (root final : Roots) (rank : SeatModel) (left turned position new_position : ℕ) (granted : GrantedModel) (journal after : List Entry)
    (h : IsDriver root turned position granted) (final_is : final ≡ record root { in_turn = false; seen = after }) (goes : GoesOn who_of journal 0 root.seen)
    (ends : new_position ≡ length after)
    (numbers : NoneAbove who_of root.made journal) where
  seen_is : take new_position final.seen ≡ after
  seen_is = ap (λ (t : Roots). take new_position t.seen) final_is ∙ take_all new_position after (omega (arith, ends))

  pub driver_kept : (new_granted : GrantedModel) → NoneAbove who_of root.made after →
      ((c : Setting) → root.setting ≡ Some c → IsSeen c.opening after × TellsGrants c.opening after new_granted) →
      IsDriver final new_position new_position new_granted
  driver_kept new_granted above tells = subst (λ (t : Roots). IsDriver t new_position new_position new_granted) (sym final_is) (record {
    free = refl;
    none_back = h.none_back;
    numbers = above;
    position_is = sym ends;
    turned_is = omega arith;
    others = subst (NoneBy who_of 0) (sym (drop_all new_position after (omega (arith, ends)))) (All-nil (λ e. who_of e ≢ 0));
    seen = λ c e. subst (λ j. IsSeen c.opening j) (sym (take_all new_position after (omega (arith, ends)))) (tells c e).0;
    grants = λ c e. subst (λ j. TellsGrants c.opening j new_granted) (sym (take_all new_position after (omega (arith, ends)))) (tells c e).1;
  })

  grown : GrownByOthers (take turned root.seen) journal
  grown = (
    drop turned root.seen ++ goes.0,
    goes.1 ∙ (ap (λ l. l ++ goes.0) (sym (take-append-drop turned root.seen)) ∙ append_assoc (take turned root.seen) (drop turned root.seen) goes.0),
    All-append (λ e. who_of e ≢ 0) (drop turned root.seen) goes.0 h.others goes.2,
  )

  long : length journal ≡ position + length goes.0
  long = omega (arith, ap (λ (l : List Entry). length l) goes.1, length-append root.seen goes.0, h.position_is)

  abbrev pub old_driver : DriverModel
  old_driver = driver_model root rank left turned position

  abbrev pub new_driver : DriverModel
  new_driver = driver_model final rank (left - 1) new_position new_position

  module _ (o : Opening) (k : Command) (some : 0 < left) (seen : IsSeen o after) (above : NoneAbove who_of root.made after) where
    made_is : final.made ≡ root.made
    made_is = ap (λ (t : Roots). t.made) final_is

    above_is : NoneAbove who_of final.made (take new_position final.seen)
    above_is = subst (λ m. NoneAbove who_of m (take new_position final.seen)) (sym made_is) (subst (NoneAbove who_of root.made) (sym seen_is) above)

    driven_on : (r : Receipt) → AddsEntry journal after 0 k r → IsDrivenOn o k old_driver new_driver r
    driven_on r adds = let has_room = room_met o journal after 0 k r.reply seen.legal adds.journal in record {
      limit = omega (arith, has_room, adds.position, ap (λ (l : List Entry). length l) adds.journal, length-append journal (entry 0 k r.reply ∷ []));
      has_room = adds.room;
      before = journal;
      others = grown;
      alone = λ zero. alone (take turned root.seen) journal root.made grown numbers zero;
      journal = seen_is ∙ adds.journal;
      seen = subst (IsSeen o) (sym seen_is) seen;
      numbers = above_is;
      left = omega (arith, some);
      later = omega (arith, long, adds.position, ap (λ (l : List Entry). length l) adds.journal, length-append journal (entry 0 k r.reply ∷ []));
      length_is = adds.position ∙ ap (λ (l : List Entry). length l) (sym seen_is);
      position = ends ∙ sym adds.position;
      version = adds.version ∙ ap version_of (sym seen_is);
    }

    stopped : (n : ℕ) → after ≡ journal → n ≡ length journal → room o k ≤ n → IsStopped o k old_driver new_driver n
    stopped n same entries limit = record {
      limit = limit;
      others = subst (GrownByOthers (take turned root.seen)) (sym (seen_is ∙ same)) grown;
      alone = λ zero. (seen_is ∙ same) ∙ alone (take turned root.seen) journal root.made grown numbers zero;
      seen = subst (IsSeen o) (sym seen_is) seen;
      numbers = above_is;
      left = omega (arith, some);
      not_shorter = omega (arith, long, entries);
      length_is = entries ∙ ap (λ (l : List Entry). length l) (sym (seen_is ∙ same));
      position = ends ∙ (ap (λ (l : List Entry). length l) same ∙ sym entries);
    }

    stays : StaysInHall old_driver new_driver
    stays = record {
      gate = ap (λ (t : Roots). t.table) final_is;
      setting = ap (λ (t : Roots). t.setting) final_is;
      rank = refl;
      made = made_is;
    }

    -- what the turn answers tells what it did
    pub driver_turned : (result : Result Receipt ℕ) → ((r : Receipt) → result ≡ Ok r → AddsEntry journal after 0 k r) →
        ((n : ℕ) → result ≡ Err n → (after ≡ journal) × (n ≡ length journal) × (room o k ≤ n)) → IsDriverTurn o k 1 old_driver new_driver (answer_of result)
    driver_turned (Ok r) one full = record {
      place = stays;
      done = λ x is. subst (IsDrivenOn o k old_driver new_driver) (ap (done_in r) is) (driven_on r (one r refl));
      full = λ n is. absurd (true≢false (ap is_done is));
      spent = λ is. absurd (true≢false (ap is_done is));
      calls = λ few. absurd (omega (arith, few, some));
    }
    driver_turned (Err m) one full = record {
      place = stays;
      done = λ x is. absurd (true≢false (ap is_full_answer is));
      full = λ n is. let f = full m refl in subst (IsStopped o k old_driver new_driver) (ap (full_in m) is) (stopped m f.0 f.1 f.2);
      spent = λ is. absurd (true≢false (ap is_full_answer is));
      calls = λ few. absurd (omega (arith, few, some));
    }

-- a turn for which enough calls are left
pub enough_left : (o : Opening) (k : Command) (need : ℕ) (old new : DriverModel) (a : Answer) → 1 ≤ need → need ≤ old.left → IsDriverTurn o k 1 old new a →
    IsDriverTurn o k need old new a
enough_left o k need old new a some enough t = record {
  place = t.place;
  done = t.done;
  full = t.full;
  spent = λ e. let low = (t.spent e).0 in absurd (omega (arith, low, some, enough));
  calls = λ low. absurd (omega (arith, low, enough));
}

-- a call for which fewer are left than it may need
pub none_left : (o : Opening) (k : Command) (need : ℕ) (driver : DriverModel) → driver.left < need → IsDriverTurn o k need driver driver Spent
none_left o k need driver low = record {
  place = record { gate = refl; setting = refl; rank = refl; made = refl };
  done = λ r e. absurd (true≢false (sym (ap is_done e)));
  full = λ n e. absurd (true≢false (sym (ap is_full_answer e)));
  spent = λ e. (low, refl);
  calls = λ more. refl;
}
