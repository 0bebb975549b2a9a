-- A slot in which no run is opened.
use Rattle.std.proofs.Common.{◌≡◌, ℕ, List, [], ◌++◌, get_or, None, refl, sym, ap, subst, ◌∙◌, arith, append-nil}
use Rattle.journal.specs.declared.command.Command.TheVariants.{Open}
use Rattle.journal.specs.declared.command.Entry.{Entry}
use Rattle.journal.specs.declared.command.Reply.{Reply}
use Rattle.journal.specs.declared.command.Reply.TheVariants.{Late, NothingLeft}
use Rattle.journal.specs.declared.opening.Opening.{Opening}
use Rattle.journal.specs.Fold.{after, state_of}
use Rattle.journal.specs.Journal.{entry, IsLegal}
use Rattle.journal.specs.State.{State}
use Rattle.journal.proofs.Driving.{free}
use Rattle.journal.proofs.Growth.{state_snoc}
use Rattle.journal.proofs.Leaving.{others_leave}
use Rattle.client_session.specs.Desk.{DrivenByRoot}
use Rattle.client_session.specs.Drivers.{IsDrivenOn, IsStopped, StaysInHall}
use Rattle.client_session.specs.Models.{DriverModel, HallModel}
use Rattle.client_session.specs.declared.receipt.Receipt.{Receipt}
use Rattle.slot_runner.specs.Models.{MayRun, RunnerModel}
use Rattle.slot_runner.specs.Slots.{IsAnswered, IsFullAt}
use Rattle.slot_runner.proofs.Notes.{calls_fall}
use Rattle.slot_runner.proofs.Opens.{left_next, left_runs}
use Rattle.slot_runner.proofs.Turns.{others_are_other}

-- no run is open, and the next slot is as before
pub record IsAsBefore (o : Opening) (old new : List Entry) : Type 0 where
  pub run : (state_of o new).run ≡ (state_of o old).run
  pub next : (state_of o new).next ≡ (state_of o old).next

pub may_still : (hall : HallModel) (old : RunnerModel) (mid : DriverModel) → MayRun hall old → StaysInHall old.driver mid → IsAsBefore hall.setting.opening old.driver.journal
    mid.journal →
    MayRun hall (record old { driver = mid })
may_still hall old mid may place same = record {
  driver = (place.gate ∙ may.driver.0, place.setting ∙ may.driver.1, (λ i. (place.rank i).table) ∙ may.driver.2);
  ports = may.ports;
  closed = same.run ∙ may.closed;
  later = let low = may.later in let next = same.next in omega (arith, low, next);
}

after_refusal : (o : Opening) (most : ℕ) (old mid : DriverModel) (r : Receipt) (on : IsDrivenOn o (Open most) old mid r) → (state_of o old.journal).run ≡ None →
    ((s : State) → after o s (Open most) r.reply ≡ s) → IsAsBefore o old.journal mid.journal
after_refusal o most old mid r on closed same =
    let e = entry 0 (Open most) r.reply in
    let state : state_of o mid.journal ≡ state_of o on.before = ap (state_of o) on.journal ∙ state_snoc o on.before e ∙ same (state_of o on.before) in record {
      run = ap (λ (s : State). s.run) state ∙ left_runs o most old mid r on closed;
      next = ap (λ (s : State). s.next) state ∙ left_next o most old mid r on closed;
    }

pub after_nothing : (o : Opening) (most : ℕ) (old mid : DriverModel) (r : Receipt) → IsDrivenOn o (Open most) old mid r → (state_of o old.journal).run ≡ None → r.reply ≡
    NothingLeft →
    IsAsBefore o old.journal mid.journal
after_nothing o most old mid r on closed is = after_refusal o most old mid r on closed (λ s. ap (after o s (Open most)) is)

pub after_late : (o : Opening) (most slot : ℕ) (old mid : DriverModel) (r : Receipt) → IsDrivenOn o (Open most) old mid r → (state_of o old.journal).run ≡ None → r.reply ≡ Late
    slot →
    IsAsBefore o old.journal mid.journal
after_late o most slot old mid r on closed is = after_refusal o most old mid r on closed (λ s. ap (after o s (Open most)) is)

pub after_full : (o : Opening) (most count : ℕ) (old mid : DriverModel) → IsStopped o (Open most) old mid count → IsAsBefore o old.journal mid.journal
after_full o most count old mid on =
    let others = on.others.0 in
    let is = on.others.1 in
    let whole : mid.journal ≡ (old.journal ++ others) ++ [] = is ∙ sym (append-nil (old.journal ++ others)) in
    let all = others_are_other old.journal others [] (subst DrivenByRoot whole on.seen.driven) on.others.2 in
    let leaves = others_leave o old.journal others (subst (IsLegal o) is on.seen.legal) (λ k d lt. free (get_or others k d) (all k d lt)) in record {
      run = ap (λ l. (state_of o l).run) is ∙ leaves.run;
      next = ap (λ l. (state_of o l).next) is ∙ leaves.slots.next;
    }

pub answered : (o : Opening) (most : ℕ) (old : RunnerModel) (mid : DriverModel) (r : Receipt) (reply : Reply) → StaysInHall old.driver mid → IsDrivenOn o (Open most) old.driver
    mid r →
    r.reply ≡ reply → IsAnswered o most old (record old { driver = mid }) reply
answered o most old mid r reply place on is = record {
  receipt = r;
  reply_is = is;
  place = place;
  turn = on;
  calls = calls_fall o (Open most) old.driver mid r on;
  rest = refl;
}

pub full_at : (o : Opening) (most : ℕ) (old : RunnerModel) (mid : DriverModel) (count : ℕ) → StaysInHall old.driver mid → IsStopped o (Open most) old.driver mid count →
    IsFullAt o most old (record old { driver = mid }) count
full_at o most old mid count place on = record { place = place; turn = on; rest = refl }
