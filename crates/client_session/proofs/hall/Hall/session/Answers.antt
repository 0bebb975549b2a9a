-- A new session has no entries, since no entry has its number.
use Rattle.std.proofs.Common.{◌≡◌, ◌+◌, ap, ◌∙◌, refl, arith}
use Rattle.turnstile.specs.Models.{RootModel, SeatModel as TurnSeatModel}
use Rattle.journal.specs.declared.command.Entry.{Entry}
use Rattle.rank_board.specs.Models.{new_seat, SeatModel}
use Rattle.client_session.specs.declared.desk.Setting.{Setting}
use Rattle.client_session.specs.Models.{DriverModel}
use Rattle.client_session.proofs.Beginning.{new_session, nothing_own, one_more}
use Rattle.client_session.proofs.hall.Hall.session.Goals as goal

pub invariant_of-result : goal.invariant_of-result
invariant_of-result c =
    let d = c.driver.inside in
    let number : c.made.result ≡ d.root.made + 1 = c.made.ensures.made ∙ ap (λ (r : RootModel Entry Setting). r.made) c.seat-seat.ensures.counted in
    new_session d.root c.seat-seat.result d.turned d.position c.made.result d.granted c.driver.invariant c.seat-seat.ensures.seat number d.rank c.seat.result c.args.calls _ _
    c.seat.ensures.seat
    c.in_ok-receipts.ensures.items (omega (arith, c.in_ok-receipts.ensures.capacity)) c.ranges.calls.fits

pub returns-clause-session : goal.returns-clause-session
returns-clause-session c =
    let d = c.driver.inside in
    let v = c.driver.view_is in
    let own = c.requires.own in
    let seat = c.seat-seat.ensures.seat in
    let number : c.made.result ≡ d.root.made + 1 = c.made.ensures.made ∙ ap (λ (r : RootModel Entry Setting). r.made) c.seat-seat.ensures.counted in
    let board = ap (λ (x : DriverModel). x.rank.table) v ∙ own.2 in
    record {
      hall_is = (
        ap (λ (s : TurnSeatModel Entry Setting). s.table) seat ∙ (ap (λ (x : DriverModel). x.gate) v ∙ own.0),
        ap (λ (s : TurnSeatModel Entry Setting). s.setting) seat ∙ (ap (λ (x : DriverModel). x.setting) v ∙ own.1),
        ap (λ (s : SeatModel). s.table) c.seat.ensures.seat ∙ board,
      );
      number = number ∙ ap (λ (x : DriverModel). x.made + 1) v;
      left = refl;
      position = ap (λ (x : DriverModel). x.position) v;
      own = nothing_own d.root c.seat-seat.result d.turned d.position c.made.result d.granted c.driver.invariant seat number;
      rank = c.seat.ensures.seat ∙ (λ i. new_seat (board i) c.seat.result.id (v i).rank.seen);
    }

pub invariant_of-driver : goal.invariant_of-driver
invariant_of-driver c =
    let d = c.driver.inside in
    one_more d.root c.seat-seat.new.root d.turned d.position d.granted c.seat-seat.ensures.counted c.driver.invariant
